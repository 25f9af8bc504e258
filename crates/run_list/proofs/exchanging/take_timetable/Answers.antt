use Rattle.std.proofs.Common.{◌++◌, ◌∷◌, ◌≡◌, ap, rules, subst, sym, IfSome, Err, Ok}
use Rattle.rt_outside.specs.Store.{contents_told}
use Rattle.timetable.specs.Lookups.{tables_in}
use Rattle.timetable.specs.Timetables.{tables_of}
use Rattle.run_base.proofs.Chosen.{each}
use Rattle.run_list.proofs.States.{kept_tests, kept_tests_most, tables_there}
use Rattle.run_list.proofs.exchanging.take_timetable.Goals as goal

pub returns-in-Ok-take-clause-outcome : goal.returns-in-Ok-take-clause-outcome
returns-in-Ok-take-clause-outcome g c = record {
  found = Ok (tables_in c.in-Ok.table);
  found_is = c.in-Ok.ensures.ok;
  gives = c.in-Ok-take.ensures.gives (tables_in c.in-Ok.table) (tables_there c.in-Ok.table c.in-Ok.ensures.present);
}

pub returns-in-Err-ReadFault-clause-stop : goal.returns-in-Err-ReadFault-clause-stop
returns-in-Err-ReadFault-clause-stop g c =
    let file = c.in-Err-ReadFault.file in
    let named = ap (λ n. c.args.folder.now ++ 47 ∷ n) c.name.ensures in
    record {
      reading = λ e. (file, named);
      named = λ e. subst (λ n. IfSome (g.F.Files.state c.load.new.files).asked (λ last. last ≡ n)) (sym named) (c.in-Err-ReadFault.ensures.asked file (search rules));
      read = λ e. c.in-Err-ReadFault.ensures.cause file (search rules);
      write = λ e. cc e;
    }

pub returns-in-Ok-keep-clause-outcome : goal.returns-in-Ok-keep-clause-outcome
returns-in-Ok-keep-clause-outcome g c = record {
  found = Err c.in-Err.fault;
  found_is = c.in-Err.ensures.err (search rules) (search rules);
  gives = c.in-Ok-keep.ensures;
}

pub returns-in-Ok-keep-clause-counted : goal.returns-in-Ok-keep-clause-counted
returns-in-Ok-keep-clause-counted g c =
    each (contents_told (g.F.Files.state c.args.files.now).told) _ _ (λ held e st at. kept_tests st c.args.number c.args.folder.now c.in-Err.fault (tables_of c.args.folder.now held) _ e)
    (c.in-Err.ensures.err (search rules) (search rules))

pub returns-in-Ok-keep-clause-most : goal.returns-in-Ok-keep-clause-most
returns-in-Ok-keep-clause-most g c =
    each (contents_told (g.F.Files.state c.args.files.now).told) _ _ (λ held e st at. kept_tests_most st c.args.number c.args.folder.now c.in-Err.fault (tables_of c.args.folder.now held) _ e)
    (c.in-Err.ensures.err (search rules) (search rules))
