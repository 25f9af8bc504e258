use Rattle.std.specs.FinMap.{get}
use Rattle.rt_outside.specs.Store.{contents_told}
use Rattle.run_base.specs.Counted.{RoseAtMost, RoseBy}
use Rattle.run_base.specs.Found.{bytes_in}
use Rattle.run_base.proofs.Chosen.{each}
use Rattle.run_list.proofs.States.{snapshot_counts, snapshot_gives}
use Rattle.run_list.proofs.row.take_snapshot.Goals as goal

pub returns-in-Ok-clause-outcome : goal.returns-in-Ok-clause-outcome
returns-in-Ok-clause-outcome g c =
    let is = c.in-Ok.ensures.outcome in
    record { found = is.found; found_is = is.found_is; gives = snapshot_gives c.args.number c.args.row.now is.found c.args.engine c.in-Ok.end is.takes }

pub returns-in-Ok-clause-counted : goal.returns-in-Ok-clause-counted
returns-in-Ok-clause-counted g c =
    each (contents_told (g.F.Files.state c.args.files.now).told) _ _ (λ held h. snapshot_counts RoseBy c.args.number c.args.row.now (bytes_in (get held c.args.row.now.path)) c.args.engine _ _ h) c.in-Ok.ensures.counted

pub returns-in-Ok-clause-most : goal.returns-in-Ok-clause-most
returns-in-Ok-clause-most g c =
    each (contents_told (g.F.Files.state c.args.files.now).told) _ _ (λ held h. snapshot_counts RoseAtMost c.args.number c.args.row.now (bytes_in (get held c.args.row.now.path)) c.args.engine _ _ h) c.take_row.ensures.most
