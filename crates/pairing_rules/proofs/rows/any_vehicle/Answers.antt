use Rattle.std.proofs.Common.{◌∙◌}
use Rattle.std.specs.BTreeMap.{keys}
use Rattle.rule_table.specs.Kinds.{same_kind}
use Rattle.rule_table.specs.declared.kind.Kind.TheVariants.{Vehicle}
use Rattle.pairing_rules.proofs.Ends.{all_before, told_by}
use Rattle.pairing_rules.proofs.rows.any_vehicle.Goals as goal

pub returns-in-Some : goal.returns-in-Some
returns-in-Some c =
    c.is_of_kind.ensures
    ∙ told_by (λ s. same_kind s.kind Vehicle) c.args.seats.now.entries _ c.in-Some.seat.now _ c.in-Some.ensures.last (all_before c.in-Some.seat.now (keys c.args.seats.now) c.in-Some.ensures.all_up_to)
