use Rattle.std.proofs.Common.{◌≡◌, ◌∙◌, ◌+◌, ◌++◌, [], ◌∷◌, List, ap, sym, subst, arith, length}
use Rattle.timetable.specs.declared.timetable.Timetable.{Timetable}
use Rattle.rule_table.specs.declared.key.EntityKey.{EntityKey}
use Rattle.rule_history.specs.Answered.{tables_of}
use Rattle.timetable_agree.specs.Laws.{HasEachStopOnce}
use Rattle.follow_engine.specs.Retabled.{AreKeysOf, FindAlikeBeside}
use Rattle.timetable_exchange.specs.Retested.{differs, entities_held, keyed_value, keys_of_differing}
use Rattle.timetable_exchange.proofs.Alike.{each_once, found_alike}
use Rattle.timetable_exchange.proofs.Picked.{alike_beside, named}
use Rattle.timetable_exchange.proofs.Taken.{all_counted, all_taken, counted_fits, counted_more, handed_out, none_left, taken_more}
use Rattle.timetable_exchange.proofs.touching.touch.Goals as goal

pub overflow_add-entities : goal.overflow_add-entities
overflow_add-entities c =
    let first = handed_out c.loop-key.key-iterator c.next.new.self c.next.result _ c.in-Some.is c.next.ensures.steps in
    let fits = counted_fits c.loop-key.entities c.loop-key.key-iterator (keyed_value (c.in-Some.key, c.in-Some.entity)) c.next.new.self (length (entities_held c.args.engine.now.feeds)) first c.loop-key.invariant.1 c.entities-key-items.ensures.few in
    omega (arith, fits)

-- the key of one entity more
pub loop-key-preserved : goal.loop-key-preserved
loop-key-preserved c =
    let inv = c.loop-key.invariant in
    let x = keyed_value (c.in-Some.key, c.in-Some.entity) in
    let first = handed_out c.loop-key.key-iterator c.next.new.self c.next.result _ c.in-Some.is c.next.ensures.steps in
    let t = tables_of c.args.engine.now.table in
    let u = tables_of c.args.table.now in
    let put = c.in_ok-put_touched.ensures.keys
    ∙ ap (λ (b : Timetable). c.loop-key.keys ++ keys_of_differing (tables_of b) (tables_of c.loop-key.comparison.after.now) (x ∷ [])) inv.2
    ∙ ap (λ (b : Timetable). c.loop-key.keys ++ keys_of_differing t (tables_of b) (x ∷ [])) inv.3 in (
      taken_more t u c.loop-key.keys c.put_touched.new.keys c.loop-key.key-iterator x c.next.new.self (keys_of_differing t u (entities_held c.args.engine.now.feeds)) first put inv.0,
      counted_more c.loop-key.entities c.loop-key.key-iterator x c.next.new.self (length (entities_held c.args.engine.now.feeds)) first inv.1,
      c.put_touched.ensures.before ∙ inv.2,
      c.put_touched.ensures.after ∙ inv.3,
    )

pub returns-clause-keys : goal.returns-clause-keys
returns-clause-keys c =
    let t = tables_of c.args.engine.now.table in
    let u = tables_of c.args.table.now in
    all_taken t u c.loop-key.keys c.loop-key.key-iterator (keys_of_differing t u (entities_held c.args.engine.now.feeds)) (none_left c.loop-key.key-iterator c.next.new.self c.next.result c.in-None.is c.next.ensures.steps) c.loop-key.invariant.0

pub returns-clause-entities : goal.returns-clause-entities
returns-clause-entities c =
    all_counted c.loop-key.entities c.loop-key.key-iterator (length (entities_held c.args.engine.now.feeds)) (none_left c.loop-key.key-iterator c.next.new.self c.next.result c.in-None.is c.next.ensures.steps) c.loop-key.invariant.1

pub returns-clause-named : goal.returns-clause-named
returns-clause-named c =
    let t = tables_of c.args.engine.now.table in
    let u = tables_of c.args.table.now in
    let es = entities_held c.args.engine.now.feeds in
    let keys = all_taken t u c.loop-key.keys c.loop-key.key-iterator (keys_of_differing t u es) (none_left c.loop-key.key-iterator c.next.new.self c.next.result c.in-None.is c.next.ensures.steps) c.loop-key.invariant.0 in
    subst (λ (ks : List EntityKey). AreKeysOf es ks) (sym keys) (named (differs t u) es c.entities-key-items.ensures.ordered)

pub returns-clause-others : goal.returns-clause-others
returns-clause-others c =
    let t = tables_of c.args.engine.now.table in
    let u = tables_of c.args.table.now in
    let es = entities_held c.args.engine.now.feeds in
    let keys = all_taken t u c.loop-key.keys c.loop-key.key-iterator (keys_of_differing t u es) (none_left c.loop-key.key-iterator c.next.new.self c.next.result c.in-None.is c.next.ensures.steps) c.loop-key.invariant.0 in
    let old = subst (λ (x : Timetable). HasEachStopOnce (tables_of x)) c.table-old.ensures.held (each_once c.table-old.result.now c.stops_differ.ensures) in
    subst (λ (ks : List EntityKey). FindAlikeBeside ks t u es) (sym keys) (alike_beside (differs t u) t u (found_alike t u old (each_once c.args.table.now c.stops_differ-2.ensures)) es)
