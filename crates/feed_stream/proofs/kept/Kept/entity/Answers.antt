use Rattle.std.proofs.Common.{◌≡◌, ℕ, List, None, subst, sym, ◌∙◌}
use Rattle.feed_codec.specs.Refusal.{entity_fault, refusal}
use Rattle.feed_stream.specs.Parts.{part_bytes}
use Rattle.feed_stream.proofs.Entities.{entity_passes}
use Rattle.feed_stream.proofs.kept.Kept.entity.Goals as goal

pub returns-clause-passes : goal.returns-clause-passes
returns-clause-passes c =
    let p = c.part-part.result in
    let accepted : refusal c.args.self.now ≡ None = subst (λ (b : List ℕ). refusal b ≡ None) c.self.view_is c.self.invariant.accepted in
    subst (λ (b : List ℕ). entity_fault (part_bytes b p) ≡ None) (sym (c.deref.ensures.value ∙ c.self.view_is))
    (entity_passes c.args.self.now c.args.i (part_bytes c.args.self.now p) accepted c.part-part.ensures.payload)
