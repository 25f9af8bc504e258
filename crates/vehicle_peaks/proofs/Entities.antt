-- The entities of a feed that are held, gone through one after the other.
use Rattle.std.specs.Prelude.{◌≡◌, ℕ, Bool, true, false, cond, ◌&&◌, ◌||◌, List, [], ◌∷◌, Option, Some, None, option_map, refl}
use Rattle.std.specs.List.{list_any, find}
use Rattle.std.proofs.Common.{◌∙◌, ap, sym}
use Rattle.std.proofs.Math.Bool.{or-false, or_assoc}
use Rattle.feed_values.specs.Schema.{Value}
use Rattle.feed_values.specs.Messages.{entity}
use Rattle.feed_values.specs.Snapshot.{entity_of}
use Rattle.rule_table.specs.declared.key.EntityKey.{EntityKey}
use Rattle.rule_table.specs.Groups.{Each}
use Rattle.rule_table.specs.Order.{same_key}
use Rattle.rule_table.specs.Peaks.{greater, greatest, stamps_of, vehicle_id_of}
use Rattle.rule_table.proofs.SameKeys.{key_is, key_other}
use Rattle.rule_history.specs.Answered.{payload_under}
use Rattle.rule_history.specs.History.{Keyed, entities_in}
use Rattle.rule_history.specs.Peaks.{FeedPeaks, stamps_among}
use Rattle.rule_history.proofs.Greater.{greater_assoc, greater_comm, greatest_append}
use Rattle.engine_laws.specs.HeldFeeds.{AreApart}
use Rattle.engine_laws.proofs.Sorted.{apart_rising, entities_rise}
use Rattle.entity_index.specs.Held.{KeyedValues, entities_before, values_of}
use Rattle.vehicle_peaks.specs.Rises.{RisesById, rise, gives_rise, has_rise}
use Rattle.vehicle_peaks.proofs.Peaks.{rise-greater}

-- ---- what entities raise a vehicle's peak to, one after the other
abbrev pub rise_at : FeedPeaks → List ℕ → Value entity → Option ℕ
rise_at peaks vehicle value = rise (peaks vehicle) (greatest (stamps_of vehicle value))

abbrev pub rises_along : FeedPeaks → List ℕ → KeyedValues → Option ℕ
rises_along peaks vehicle [] = None
rises_along peaks vehicle (e ∷ es) = greater (rise_at peaks vehicle e.1) (rises_along peaks vehicle es)

-- one entity less to go
pub along_more : (peaks : FeedPeaks) (vehicle : List ℕ) (e : EntityKey × Value entity) (es left : KeyedValues) (new old all : Option ℕ) → new ≡ greater (rise_at peaks vehicle e.1) old → left ≡ e ∷ es
    → greater (rises_along peaks vehicle left) old ≡ all → greater (rises_along peaks vehicle es) new ≡ all
along_more peaks vehicle e es left new old all n s h =
    let here = rise_at peaks vehicle e.1 in
    let rest = rises_along peaks vehicle es in
    ap (greater rest) n ∙ greater_assoc rest here old ∙ ap (λ o. greater o old) (greater_comm rest here) ∙ ap (λ xs. greater (rises_along peaks vehicle xs) old) (sym s) ∙ h

-- all of them
pub along_all : (peaks : FeedPeaks) (vehicle : List ℕ) (es : List Keyed) → rises_along peaks vehicle (values_of es) ≡ rise (peaks vehicle) (greatest (stamps_among vehicle es))
along_all peaks vehicle [] = refl
along_all peaks vehicle (e ∷ es) =
    let mine = stamps_of vehicle (entity_of e.1) in
    ap (greater (rise (peaks vehicle) (greatest mine))) (along_all peaks vehicle es)
    ∙ sym (ap (rise (peaks vehicle)) (greatest_append mine (stamps_among vehicle es)) ∙ rise-greater (peaks vehicle) (greatest mine) (greatest (stamps_among vehicle es)))

-- ---- under which keys there is an entity whose vehicle has a new peak
abbrev pub is_raised_at : RisesById → EntityKey → EntityKey × Value entity → Bool
is_raised_at rises key e = same_key key e.0 && has_rise rises (vehicle_id_of e.1)

module _ (rises : RisesById) (key : EntityKey) where
  -- a key that is another than all
  none_raised : (k : EntityKey) (es : List Keyed) → key ≡ k → Each (λ e. same_key k e.0 ≡ false) es → list_any (is_raised_at rises key) (values_of es) ≡ false
  none_raised k [] same h = refl
  none_raised k (e ∷ es) same h =
      ap (λ b. b && has_rise rises (vehicle_id_of (entity_of e.1)) || list_any (is_raised_at rises key) (values_of es)) (ap (λ q. same_key q e.0) same ∙ h.0) ∙ none_raised k es same h.1

  raised_in : (es : List Keyed) → AreApart es → list_any (is_raised_at rises key) (values_of es) ≡ gives_rise rises (payload_under key es)
  raised_in [] a = refl
  raised_in (e ∷ es) a = each (same_key key e.0) (same_key e.0 key) refl refl (raised_in es a.1)
    where
      here : Bool
      here = has_rise rises (vehicle_id_of (entity_of e.1))

      found : Bool → Option (List ℕ)
      found c = option_map (λ (x : Keyed). x.1) (cond c (Some e) (find (λ x. same_key x.0 key) es))

      each : (b c : Bool) → same_key key e.0 ≡ b → same_key e.0 key ≡ c → list_any (is_raised_at rises key) (values_of es) ≡ gives_rise rises (payload_under key es) → (b && here || list_any (is_raised_at rises key) (values_of es)) ≡ gives_rise rises (found c)
      each true true h i ih = ap (λ b. here || b) (none_raised e.0 es (key_is key e.0 h) a.0) ∙ or-false here
      each false false h i ih = ih
      each true false h i ih = absurd (key_other e.0 key i (sym (key_is key e.0 h)))
      each false true h i ih = absurd (key_other key e.0 h (sym (key_is e.0 key i)))

  pub raised_all : (f : ℕ) (o : Option (List ℕ)) → list_any (is_raised_at rises key) (values_of (entities_before f o)) ≡ gives_rise rises (payload_under key (entities_before f o))
  raised_all f None = refl
  raised_all f (Some b) = raised_in (entities_in f b) (apart_rising (entities_in f b) (entities_rise f b))

-- no vehicle has one
pub none_gives : (rises : RisesById) (o : Option (List ℕ)) → rises ≡ [] → gives_rise rises o ≡ false
none_gives rises None h = refl
none_gives rises (Some p) h = ap (λ r. has_rise r (vehicle_id_of (entity_of p))) h ∙ none (vehicle_id_of (entity_of p))
  where
    none : (v : Option (List ℕ)) → has_rise [] v ≡ false
    none None = refl
    none (Some v) = refl

-- one entity more is looked at
pub tested_more : (test : EntityKey × Value entity → Bool) (e : EntityKey × Value entity) (es left : KeyedValues) (new old all : Bool) → new ≡ (old || test e) → left ≡ e ∷ es → (old || list_any test left) ≡ all
    → (new || list_any test es) ≡ all
tested_more test e es left new old all n s h =
    ap (λ b. b || list_any test es) n ∙ or_assoc old (test e) (list_any test es) ∙ ap (λ xs. old || list_any test xs) (sym s) ∙ h
