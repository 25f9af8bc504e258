use Rattle.std.proofs.Common.{subst}
use Rattle.rule_clear.specs.Clear.{IsSettledBy}
use Rattle.rule_clear.proofs.Cleared.{update_among, vehicle_among}
use Rattle.rule_clear.proofs.clear.ClearClearSlots.has.Goals as goal

pub returns-in-NoTripUpdate : goal.returns-in-NoTripUpdate
returns-in-NoTripUpdate c h = update_among c.args.self.now (c.args.rule, c.args.slot) h (subst (λ s. IsSettledBy s (c.args.rule, c.args.slot)) c.in-NoTripUpdate.is c.what_settles.ensures)

pub returns-in-NoVehicle : goal.returns-in-NoVehicle
returns-in-NoVehicle c h = vehicle_among c.args.self.now (c.args.rule, c.args.slot) h (subst (λ s. IsSettledBy s (c.args.rule, c.args.slot)) c.in-NoVehicle.is c.what_settles.ensures)
