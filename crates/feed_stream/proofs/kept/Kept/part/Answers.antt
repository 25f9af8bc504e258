use Rattle.std.proofs.Common.{◌≡◌, ◌<◌, ℕ, List, length, Some, sym, subst, ◌∙◌}
use Rattle.std.specs.Prelude.{slice_get}
use Rattle.feed_values.specs.Snapshot.{entity_payloads}
use Rattle.feed_stream.specs.Payloads.{entity_bases}
use Rattle.feed_stream.specs.Parts.{IsWithin, part_bytes}
use Rattle.feed_stream.proofs.Entities.{all_at, base_at, entity_at, entity_count, entity_there}
use Rattle.feed_stream.proofs.kept.Kept.part.Goals as goal

pub index-requires : goal.index-requires
index-requires c =
    let count = entity_count c.self.inside.bytes.items c.self.inside.layout.entities.items c.self.invariant.layout.entities in
    let lt : c.args.i < length (entity_payloads c.self.inside.bytes.items) = subst (λ (b : List ℕ). c.args.i < length (entity_payloads b)) (sym c.self.view_is) c.requires in
    subst (λ n. c.args.i < n) (sym (c.self.inside.layout.entities.ok.0 ∙ count)) lt

pub returns-clause-within : goal.returns-clause-within
returns-clause-within c =
    let p = c.index.result.now in
    let bytes = c.self.inside.bytes.items in
    let parts = c.self.inside.layout.entities.items in
    let lt : c.args.i < length (entity_payloads bytes) = subst (λ (b : List ℕ). c.args.i < length (entity_payloads b)) (sym c.self.view_is) c.requires in
    let there = entity_there bytes parts c.args.i p c.self.invariant.layout.entities lt c.index.ensures in
    subst (λ (b : List ℕ). IsWithin b p) c.self.view_is (all_at (IsWithin bytes) parts c.args.i p c.self.invariant.layout.entities_within there)

pub returns-clause-payload : goal.returns-clause-payload
returns-clause-payload c =
    let p = c.index.result.now in
    let bytes = c.self.inside.bytes.items in
    let parts = c.self.inside.layout.entities.items in
    let lt : c.args.i < length (entity_payloads bytes) = subst (λ (b : List ℕ). c.args.i < length (entity_payloads b)) (sym c.self.view_is) c.requires in
    let there = entity_there bytes parts c.args.i p c.self.invariant.layout.entities lt c.index.ensures in
    subst (λ (b : List ℕ). Some (part_bytes b p) ≡ slice_get (entity_payloads b) c.args.i) c.self.view_is (entity_at bytes parts c.args.i p c.self.invariant.layout.entities there)

pub returns-clause-base : goal.returns-clause-base
returns-clause-base c =
    let p = c.index.result.now in
    let bytes = c.self.inside.bytes.items in
    let parts = c.self.inside.layout.entities.items in
    let lt : c.args.i < length (entity_payloads bytes) = subst (λ (b : List ℕ). c.args.i < length (entity_payloads b)) (sym c.self.view_is) c.requires in
    let there = entity_there bytes parts c.args.i p c.self.invariant.layout.entities lt c.index.ensures in
    subst (λ (b : List ℕ). Some p.start ≡ slice_get (entity_bases b) c.args.i) c.self.view_is (base_at bytes parts c.args.i p c.self.invariant.layout.entities there)
