use Rattle.std.proofs.Common.{◌≡◌, IfSome, subst}
use Rattle.std.specs.FinMap.{get}
use Rattle.rt_outside.specs.Store.{contents_told}
use Rattle.run_base.specs.Counted.{RoseAtMost, RoseBy}
use Rattle.run_base.specs.Found.{kept_bytes, bytes_in}
use Rattle.run_base.proofs.Chosen.{all}
use Rattle.run_base.proofs.Counted.{nothing_more}
use Rattle.run_rows.proofs.Counted.{row_counts}
use Rattle.run_rows.proofs.row.take_row.Goals as goal

pub returns-in_err-found-clause-asked : goal.returns-in_err-found-clause-asked
returns-in_err-found-clause-asked g c = subst (λ name. IfSome (g.F.Files.state c.read_kept.new.files).asked (λ last. last ≡ name)) c.as_str.ensures c.read_kept.ensures.asked

pub returns-clause-outcome : goal.returns-clause-outcome
returns-clause-outcome g c = record {
  found = kept_bytes c.in_ok-found.found;
  found_is = subst (λ name. IfSome (contents_told (g.F.Files.state c.args.files.now).told) (λ held. bytes_in (get held name) ≡ kept_bytes c.in_ok-found.found)) c.as_str.ensures c.in_ok-found.ensures.found;
  takes = c.in_ok-take.ensures.outcome;
}

pub returns-clause-asked : goal.returns-clause-asked
returns-clause-asked g c = subst (λ name. IfSome (g.F.Files.state c.read_kept.new.files).asked (λ last. last ≡ name)) c.as_str.ensures c.read_kept.ensures.asked

pub returns-in_err-found-clause-most : goal.returns-in_err-found-clause-most
returns-in_err-found-clause-most g c = all (contents_told (g.F.Files.state c.args.files.now).told) _ (λ held t h stands. nothing_more _ _)

pub returns-in_err-take-clause-most : goal.returns-in_err-take-clause-most
returns-in_err-take-clause-most g c =
    row_counts (contents_told (g.F.Files.state c.args.files.now).told) RoseAtMost c.args.engine c.args.row.now c.as_str.result.now (kept_bytes c.in_ok-found.found) _ _ c.as_str.ensures c.in_ok-found.ensures.found c.take.ensures.most

pub returns-clause-counted : goal.returns-clause-counted
returns-clause-counted g c =
    row_counts (contents_told (g.F.Files.state c.args.files.now).told) RoseBy c.args.engine c.args.row.now c.as_str.result.now (kept_bytes c.in_ok-found.found) _ _ c.as_str.ensures c.in_ok-found.ensures.found c.in_ok-take.ensures.counted

pub returns-clause-most : goal.returns-clause-most
returns-clause-most g c =
    row_counts (contents_told (g.F.Files.state c.args.files.now).told) RoseAtMost c.args.engine c.args.row.now c.as_str.result.now (kept_bytes c.in_ok-found.found) _ _ c.as_str.ensures c.in_ok-found.ensures.found c.take.ensures.most
