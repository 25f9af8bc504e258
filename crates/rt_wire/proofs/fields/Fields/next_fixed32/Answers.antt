use Rattle.std.proofs.Common.{◌<◌, sym, ap, ◌∙◌, length, arith}
use Rattle.rt_wire.specs.Placed.{Remaining, placed_field}
use Rattle.rt_wire.proofs.Stream.{left_field}
use Rattle.rt_wire.proofs.fields.Fields.next_fixed32.Goals as goal

pub returns-in-Some-clause-next : goal.returns-in-Some-clause-next
returns-in-Some-clause-next c =
    let e = c.in-Some.ensures in
    let h = e.within in
    let lt : c.self.inside.at < length c.self.inside.bytes.now = omega (arith, e.after, h.within) in
    sym (ap (λ (a : Remaining). a.left) c.self.view_is) ∙ left_field c.self.inside.bytes.now c.self.inside.at (placed_field c.in-Some.field) lt e.value e.after h.within
