use Rattle.std.proofs.Common.{◌∙◌, ap, length, List, ℕ}
use Rattle.feed_values.specs.Snapshot.{entity_payloads}
use Rattle.feed_stream.proofs.Entities.{entity_count}
use Rattle.feed_stream.proofs.kept.Kept.len.Goals as goal

pub returns : goal.returns
returns c =
    c.len.ensures ∙ c.self.inside.layout.entities.ok.0 ∙ entity_count c.self.inside.bytes.items c.self.inside.layout.entities.items c.self.invariant.layout.entities
    ∙ ap (λ (b : List ℕ). length (entity_payloads b)) c.self.view_is
