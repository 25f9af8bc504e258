use Rattle.std.proofs.Common.{◌≡◌, ◌∷◌, Ok, Err, ap, sym, ◌∙◌}
use Rattle.rt_wire.specs.Placed.{placed_field}
use Rattle.run_json.specs.Shown.{unknown_among}
use Rattle.run_json.proofs.Sent.{not_taken, taken}
use Rattle.run_json.proofs.sending.next_unknown.Goals as goal

pub loop-field-preserved : goal.loop-field-preserved
loop-field-preserved c =
    let field = placed_field c.in-Ok.field in
    let next : c.loop-field.fields.left ≡ Ok field ∷ c.next.new.self.left = rw c.in-Ok.is at c.in-Some.ensures.next in
    sym (ap unknown_among next ∙ taken field c.next.new.self.left (sym c.is_taken.ensures ∙ c.if-not-is_taken.false)) ∙ c.loop-field.invariant

pub returns-then-not-is_taken : goal.returns-then-not-is_taken
returns-then-not-is_taken c =
    let field = placed_field c.in-Ok.field in
    let next : c.loop-field.fields.left ≡ Ok field ∷ c.next.new.self.left = rw c.in-Ok.is at c.in-Some.ensures.next in
    sym c.loop-field.invariant ∙ ap unknown_among next ∙ not_taken field c.next.new.self.left (sym c.is_taken.ensures ∙ c.if-not-is_taken.true)

pub returns-in-Err : goal.returns-in-Err
returns-in-Err c =
    let next : c.loop-field.fields.left ≡ Err c.in-Err.field-0 ∷ c.next.new.self.left = rw c.in-Err.is at c.in-Some.ensures.next in
    sym c.loop-field.invariant ∙ ap unknown_among next

pub returns : goal.returns
returns c = sym c.loop-field.invariant ∙ ap unknown_among c.in_default.ensures.next.0
