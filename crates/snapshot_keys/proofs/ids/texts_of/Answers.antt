use Rattle.std.proofs.Common.{ap, sym, ◌∙◌}
use Rattle.std.specs.Prelude.{option_copied}
use Rattle.snapshot_keys.proofs.Found.{none_at, some_at}
use Rattle.snapshot_keys.proofs.ids.texts_of.Goals as goal

pub returns-in-None : goal.returns-in-None
returns-in-None c slot vehicle l h = none_at slot vehicle l (ap option_copied (sym c.in-None.is) ∙ h.payload)

pub returns-in-Some : goal.returns-in-Some
returns-in-Some c slot vehicle l h =
    some_at slot vehicle l c.in-Some.field-0.now _ _ (ap option_copied (sym c.in-Some.is) ∙ h.payload) (c.in_ok-trip.ensures ∙ h.trip) (c.in_ok-vehicle.ensures ∙ h.vehicle)
