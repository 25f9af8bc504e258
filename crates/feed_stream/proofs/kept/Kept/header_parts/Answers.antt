use Rattle.std.proofs.Common.{List, ap, ℕ, ◌∙◌, ◌≡◌}
use Rattle.std.specs.List.{concat}
use Rattle.feed_values.specs.Snapshot.{header_of}
use Rattle.feed_stream.specs.Parts.{header_bytes}
use Rattle.feed_stream.specs.Payloads.{header_payloads}
use Rattle.feed_stream.proofs.Headers.{header_means, is_joined}
use Rattle.feed_stream.proofs.Layouts.{header_bytes_are}
use Rattle.feed_stream.proofs.kept.Kept.header_parts.Goals as goal

pub returns-clause-joined : goal.returns-clause-joined
returns-clause-joined c =
    let bytes = c.self.inside.bytes.items in
    let joined : c.bytes_in.result.now ≡ concat (header_payloads bytes) =
    c.bytes_in.ensures ∙ ap (λ (b : List ℕ). header_bytes b c.self.inside.layout.header) c.deref.ensures.value ∙ header_bytes_are bytes c.self.inside.layout.header c.self.invariant.layout.header in
    joined ∙ ap (λ (b : List ℕ). concat (header_payloads b)) c.self.view_is

pub returns-clause-passes : goal.returns-clause-passes
returns-clause-passes c =
    let bytes = c.self.inside.bytes.items in
    let joined : c.bytes_in.result.now ≡ concat (header_payloads bytes) =
    c.bytes_in.ensures ∙ ap (λ (b : List ℕ). header_bytes b c.self.inside.layout.header) c.deref.ensures.value ∙ header_bytes_are bytes c.self.inside.layout.header c.self.invariant.layout.header in
    is_joined bytes c.bytes_in.result.now c.self.invariant.accepted joined

pub returns-clause-header : goal.returns-clause-header
returns-clause-header c =
    let bytes = c.self.inside.bytes.items in
    let joined : c.bytes_in.result.now ≡ concat (header_payloads bytes) =
    c.bytes_in.ensures ∙ ap (λ (b : List ℕ). header_bytes b c.self.inside.layout.header) c.deref.ensures.value ∙ header_bytes_are bytes c.self.inside.layout.header c.self.invariant.layout.header in
    header_means bytes c.bytes_in.result.now c.self.invariant.bytes_are c.self.invariant.accepted joined ∙ ap (λ (b : List ℕ). header_of b) c.self.view_is
