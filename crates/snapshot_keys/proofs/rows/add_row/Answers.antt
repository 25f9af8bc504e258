use Rattle.std.proofs.Common.{ap, sym, subst, ◌∙◌, append-nil, ◌++◌}
use Rattle.std.specs.Prelude.{option_map}
use Rattle.sorted_rows.specs.Rows.{Holds}
use Rattle.snapshot_keys.specs.Ids.{given_ids}
use Rattle.snapshot_keys.specs.Rowed.{given_rows}
use Rattle.snapshot_keys.proofs.rows.add_row.Goals as goal

pub returns-in_default : goal.returns-in_default
returns-in_default c before h =
    subst (Holds c.args.rows.now) (sym (append-nil before) ∙ ap (λ o. before ++ given_rows c.args.kind c.args.key.now (option_map given_ids o)) (sym c.in_default.is)) h

pub returns : goal.returns
returns c before h =
    subst (Holds _) (ap (λ o. before ++ given_rows c.args.kind c.args.key.now (option_map given_ids o)) (sym c.in-Some.is)) (c.in_ok-push.ensures before h)
