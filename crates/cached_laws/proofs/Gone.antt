-- The keys of the entities that are gone.
use Rattle.std.specs.Prelude.{◌≡◌, ℕ, ◌==◌, Bool, true, false, List, filter, Option, Some, None, is_some, is_none, refl}
use Rattle.std.proofs.Common.{sym, ap, ◌∙◌}
use Rattle.std.proofs.lemmas.Bool.{true≢false}
use borrow.Author.Tests.{eqb-true}
use Rattle.rule_table.specs.declared.key.EntityKey.{EntityKey}
use Rattle.rule_table.specs.Groups.{Each}
use Rattle.rule_history.specs.History.{Keyed, entities_in}
use Rattle.rule_history.specs.Answered.{payload_under}
use Rattle.engine_laws.specs.HeldFeeds.{AreApart}
use Rattle.engine_laws.proofs.Sorted.{apart_rising, entities_feed, entities_rise}
use Rattle.touched_entities.specs.part_laws.Touched.{is_among}
use Rattle.touched_entities.specs.entity_index.Changes.{gone_keys}
use Rattle.touched_entities.specs.entity_index.Held.{entities_before}
use Rattle.touched_entities.specs.entity_index.AtKeyProofs.{apart-filter, at-filter, gone-filter}
use Rattle.touched_entities.specs.entity_index.FindingProofs.{among-at}
use Rattle.touched_entities.specs.Exchanged.{AreDistinct}
use Rattle.touched_entities.proofs.Fresh.{distinct_of, none_far}

pub apart_before : (f : ℕ) (old : Option (List ℕ)) → AreApart (entities_before f old)
apart_before f None = tt
apart_before f (Some bytes) = apart_rising (entities_in f bytes) (entities_rise f bytes)

pub feed_before : (f : ℕ) (old : Option (List ℕ)) → Each (λ e. e.0.feed ≡ f) (entities_before f old)
feed_before f None = tt
feed_before f (Some bytes) = entities_feed f bytes

abbrev leaves : ℕ → List ℕ → Keyed → Bool
leaves f new e = is_none (payload_under e.0 (entities_in f new))

-- one that was there, where none is then
pub gone_some : (f : ℕ) (old : Option (List ℕ)) (new : List ℕ) (k : EntityKey) (q : List ℕ) → payload_under k (entities_before f old) ≡ Some q → is_among (gone_keys f old new) k ≡ is_none (payload_under k (entities_in f new))
gone_some f old new k q h = among-at k (filter (leaves f new) (entities_before f old)) ∙ at-filter (leaves f new) (entities_before f old) k q (apart_before f old) h

pub gone_none : (f : ℕ) (old : Option (List ℕ)) (new : List ℕ) (k : EntityKey) → payload_under k (entities_before f old) ≡ None → is_among (gone_keys f old new) k ≡ false
gone_none f old new k h = among-at k (filter (leaves f new) (entities_before f old)) ∙ ap is_some (gone-filter (leaves f new) (entities_before f old) k h)

pub gone_distinct : (f : ℕ) (old : Option (List ℕ)) (new : List ℕ) → AreDistinct (gone_keys f old new)
gone_distinct f old new = distinct_of (filter (leaves f new) (entities_before f old)) (apart-filter (leaves f new) (entities_before f old) (apart_before f old))

none_is : {A : Type 0} (o : Option A) → is_none o ≡ true → o ≡ None
none_is None h = refl
none_is (Some x) h = cc

-- it was of the feed, and none is there then
pub gone_feed : (f : ℕ) (old : Option (List ℕ)) (new : List ℕ) (k : EntityKey) → is_among (gone_keys f old new) k ≡ true → k.feed ≡ f
gone_feed f old new k h = elim (f == k.feed) as (λ b. (f == k.feed) ≡ b → k.feed ≡ f) [
  | true ↦ λ e. sym (eqb-true f k.feed e)
  | false ↦ λ e. absurd (true≢false (sym h ∙ gone_none f old new k (none_far f k (entities_before f old) (feed_before f old) e)))
] refl

pub gone_payload : (f : ℕ) (old : Option (List ℕ)) (new : List ℕ) (k : EntityKey) → is_among (gone_keys f old new) k ≡ true → payload_under k (entities_in f new) ≡ None
gone_payload f old new k h = here (payload_under k (entities_before f old)) refl
  where
    here : (o : Option (List ℕ)) → payload_under k (entities_before f old) ≡ o → payload_under k (entities_in f new) ≡ None
    here None q = absurd (true≢false (sym h ∙ gone_none f old new k q))
    here (Some p) q = none_is (payload_under k (entities_in f new)) (sym (gone_some f old new k p q) ∙ h)
