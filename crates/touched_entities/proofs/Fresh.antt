-- The keys of what comes with a snapshot.
use Rattle.std.specs.Prelude.{◌≡◌, ℕ, ◌==◌, not, Bool, true, false, cond, List, [], ◌∷◌, map, filter, Option, Some, None, is_some, refl}
use Rattle.std.specs.Option.{option_or}
use Rattle.std.proofs.Common.{sym, ap, ◌∙◌}
use Rattle.feed_values.specs.Snapshot.{entity_payloads}
use Rattle.rule_table.specs.declared.key.EntityKey.{EntityKey}
use Rattle.rule_table.specs.Groups.{Each}
use Rattle.rule_table.specs.GroupLaws.{each_weaken}
use Rattle.rule_table.specs.Order.{same_key}
use Rattle.rule_history.specs.History.{Keyed, entities_in}
use Rattle.rule_history.specs.Answered.{payload_under}
use Rattle.engine_laws.specs.Delta.{is_other}
use Rattle.engine_laws.specs.HeldFeeds.{AreApart}
use Rattle.engine_laws.proofs.Sorted.{entities_feed}
use Rattle.entity_parts.specs.part_laws.Touched.{is_among}
use Rattle.entity_index.specs.Changes.{fresh_keys, keyed_in}
use Rattle.entity_index.specs.Held.{at_key, entities_before}
use Rattle.entity_index.proofs.AtKey.{at-filter, at-ordered, apart-filter, gone-filter, none_at}
use Rattle.entity_index.proofs.Finding.{among-at}
use Rattle.entity_index.proofs.Taking.{keyed_apart}
use Rattle.touched_entities.specs.Exchanged.{AreDistinct}
use Rattle.touched_entities.proofs.OneMore.{other_feed}

or_none : {A : Type 0} (o : Option A) → option_or o None ≡ o
or_none None = refl
or_none (Some x) = refl

-- nothing of another feed is under a key
pub none_far : (f : ℕ) (k : EntityKey) (es : List Keyed) → Each (λ e. e.0.feed ≡ f) es → (f == k.feed) ≡ false → payload_under k es ≡ None
none_far f k es all h = none_at es k (each_weaken (λ e. e.0.feed ≡ f) (λ e. same_key e.0 k ≡ false) (λ e q. other_feed e.0 k (ap (λ g. g == k.feed) q ∙ h)) es all)

pub distinct_of : (es : List Keyed) → AreApart es → AreDistinct (map (λ e. e.0) es)
distinct_of [] h = tt
distinct_of (e ∷ es) h = (each es h.0, distinct_of es h.1)
  where
    each : (ds : List Keyed) → Each (λ d. same_key e.0 d.0 ≡ false) ds → Each (λ q. same_key e.0 q ≡ false) (map (λ d. d.0) ds)
    each [] k = tt
    each (d ∷ ds) k = (k.0, each ds k.1)

module _ (f : ℕ) (old : Option (List ℕ)) (bytes : List ℕ) where
  abbrev keyed : List Keyed
  keyed = keyed_in f bytes

  abbrev apart : AreApart keyed
  apart = keyed_apart f (entity_payloads bytes)

  at-in : (k : EntityKey) → payload_under k (entities_in f bytes) ≡ at_key k keyed
  at-in k = at-ordered [] keyed k apart ∙ or_none (at_key k keyed)

  -- what comes is what isn't there with its bytes
  pub fresh_is : (k : EntityKey) (p : List ℕ) → payload_under k (entities_in f bytes) ≡ Some p → is_among (fresh_keys f old bytes) k ≡ is_other (entities_before f old) (k, p)
  fresh_is k p h = among-at k (filter (is_other (entities_before f old)) keyed) ∙ at-filter (is_other (entities_before f old)) keyed k p apart (sym (at-in k) ∙ h)

  pub fresh_none : (k : EntityKey) → payload_under k (entities_in f bytes) ≡ None → is_among (fresh_keys f old bytes) k ≡ false
  fresh_none k h = among-at k (filter (is_other (entities_before f old)) keyed) ∙ ap is_some (gone-filter (is_other (entities_before f old)) keyed k (sym (at-in k) ∙ h))

  -- it is of the feed
  pub fresh_far : (k : EntityKey) → (f == k.feed) ≡ false → is_among (fresh_keys f old bytes) k ≡ false
  fresh_far k h = fresh_none k (none_far f k (entities_in f bytes) (entities_feed f bytes) h)

  -- and no key comes twice
  pub fresh_distinct : AreDistinct (fresh_keys f old bytes)
  fresh_distinct = distinct_of (filter (is_other (entities_before f old)) keyed) (apart-filter (is_other (entities_before f old)) keyed apart)
