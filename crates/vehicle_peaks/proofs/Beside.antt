-- Keys in order, walked along beside the entities of a feed.
use Rattle.std.specs.Prelude.{◌≡◌, ℕ, zero, suc, ◌+◌, ◌<◌, Bool, true, false, not, ◌&&◌, ◌||◌, List, [], ◌∷◌, length, get_or, drop, Option, Some, None, refl}
use Rattle.std.specs.List.{list_any}
use Rattle.std.specs.Ordering.{is_eq, is_lt, ordering_reverse}
use Rattle.std.specs.declared.cmp.Ordering.TheVariants as order
use Rattle.std.proofs.Common.{◌∙◌, ap, sym, subst}
use Rattle.std.proofs.lemmas.List.{drop_more}
use Rattle.feed_values.specs.Schema.{Value}
use Rattle.feed_values.specs.Messages.{entity}
use Rattle.feed_values.specs.Snapshot.{entity_of}
use Rattle.rule_table.specs.declared.key.EntityKey.{EntityKey}
use Rattle.rule_table.specs.GroupLaws.{each_weaken}
use Rattle.rule_table.specs.Groups.{Each}
use Rattle.rule_table.specs.Order.{key_cmp, same_key}
use Rattle.rule_table.specs.Peaks.{vehicle_id_of}
use Rattle.rule_table.specs.Rises.{Rises, Rising}
use Rattle.rule_table.proofs.SameKeys.{key_is, keys_total, same-key}
use Rattle.rule_history.specs.History.{Keyed, entities_in}
use Rattle.engine_laws.proofs.Sorted.{entities_rise, key_cmp_self, less_other}
use Rattle.entity_index.specs.Held.{KeyedValues, entities_before, values_of}
use Rattle.vehicle_peaks.specs.Rises.{RisesById, has_rise}
use Rattle.vehicle_peaks.proofs.Entities.{is_raised_at}

-- ---- keys that aren't below another
pub self_stays : (key : EntityKey) → is_lt (key_cmp key key) ≡ false
self_stays key = ap is_lt (key_cmp_self key)

pub above_stays : (key q : EntityKey) → key_cmp key q ≡ order.Less → is_lt (key_cmp q key) ≡ false
above_stays key q h = ap is_lt (keys_total.antisymm q key ∙ ap ordering_reverse h)

none_above : (key : EntityKey) (ks : List EntityKey) → Each (λ q. key_cmp key q ≡ order.Less) ks → list_any (same_key key) ks ≡ false
none_above key [] h = refl
none_above key (q ∷ ks) h = ap (λ b. b || list_any (same_key key) ks) (less_other key q h.0) ∙ none_above key ks h.1

rises_drop : (n : ℕ) (ks : List EntityKey) → Rises key_cmp ks → Rises key_cmp (drop n ks)
rises_drop zero ks h = h
rises_drop (suc n) [] h = h
rises_drop (suc n) (k ∷ ks) h = rises_drop n ks h.1

-- ---- the key at an index
module _ (keys : List EntityKey) (i : ℕ) (item : EntityKey) (l : i < length keys) (is : item ≡ get_or keys i item) where
  first : drop i keys ≡ item ∷ drop (i + 1) keys
  first = drop_more keys i item l ∙ ap (λ k. k ∷ drop (i + 1) keys) (sym is)

  -- below another, it is passed
  pub passed : (key q : EntityKey) → key_cmp item key ≡ order.Less → is_lt (key_cmp q key) ≡ false → list_any (same_key q) (drop (i + 1) keys) ≡ list_any (same_key q) (drop i keys)
  passed key q below stays = sym (ap (list_any (same_key q)) first ∙ ap (λ b. b || list_any (same_key q) (drop (i + 1) keys)) (other (same_key q item) refl))
    where
      other : (b : Bool) → same_key q item ≡ b → same_key q item ≡ false
      other false h = h
      other true h = let same : is_lt (key_cmp q key) ≡ true = ap (λ k. is_lt (key_cmp k key)) (key_is q item h) ∙ ap is_lt below in cc

  -- it is the same
  pub met : (key : EntityKey) → key_cmp item key ≡ order.Equal → list_any (same_key key) (drop i keys) ≡ true
  met key e = ap (list_any (same_key key)) first ∙ ap (λ b. b || list_any (same_key key) (drop (i + 1) keys)) (sym (same-key key item) ∙ ap is_eq (keys_total.antisymm key item ∙ ap ordering_reverse e))

  -- it is above the other, and so are all after it
  pub missed : Rises key_cmp keys → (key : EntityKey) → key_cmp item key ≡ order.Greater → list_any (same_key key) (drop i keys) ≡ false
  missed h key g =
      let above : key_cmp key item ≡ order.Less = keys_total.antisymm key item ∙ ap ordering_reverse g in
      let rise : Rises key_cmp (item ∷ drop (i + 1) keys) = subst (Rises key_cmp) first (rises_drop i keys h) in
      ap (list_any (same_key key)) first
      ∙ none_above key (item ∷ drop (i + 1) keys)
      (above, each_weaken (λ q. key_cmp item q ≡ order.Less) (λ q. key_cmp key q ≡ order.Less) (λ q m. keys_total.trans key item q above m) (drop (i + 1) keys) rise.0)

pub drop_end : (ks : List EntityKey) → drop (length ks) ks ≡ []
drop_end [] = refl
drop_end (k ∷ ks) = drop_end ks

-- ---- entities of which some have one of the keys
-- one that has none, and whose vehicle has a new peak
abbrev pub is_raised_beside : RisesById → List EntityKey → EntityKey → EntityKey × Value entity → Bool
is_raised_beside rises fresh key e = same_key key e.0 && (not (list_any (same_key e.0) fresh) && has_rise rises (vehicle_id_of e.1))

pub beside_all : (rises : RisesById) (fresh : List EntityKey) (key : EntityKey) (es : KeyedValues) →
    list_any (is_raised_beside rises fresh key) es ≡ (not (list_any (same_key key) fresh) && list_any (is_raised_at rises key) es)
beside_all rises fresh key [] = none (not (list_any (same_key key) fresh))
  where
    none : (b : Bool) → false ≡ (b && false)
    none true = refl
    none false = refl
beside_all rises fresh key (e ∷ es) = each (same_key key e.0) refl (beside_all rises fresh key es)
  where
    here : Bool
    here = has_rise rises (vehicle_id_of e.1)

    rest : Bool
    rest = list_any (is_raised_at rises key) es

    either : (f h r : Bool) → ((not f && h) || (not f && r)) ≡ (not f && (h || r))
    either true h r = refl
    either false h r = refl

    each : (b : Bool) → same_key key e.0 ≡ b → list_any (is_raised_beside rises fresh key) es ≡ (not (list_any (same_key key) fresh) && rest)
        → ((b && (not (list_any (same_key e.0) fresh) && here)) || list_any (is_raised_beside rises fresh key) es) ≡ (not (list_any (same_key key) fresh) && ((b && here) || rest))
    each true h ih =
        ap (λ k. (not (list_any (same_key k) fresh) && here) || list_any (is_raised_beside rises fresh key) es) (sym (key_is key e.0 h))
        ∙ ap (λ b. (not (list_any (same_key key) fresh) && here) || b) ih ∙ either (list_any (same_key key) fresh) here rest
    each false h ih = ih

-- ---- entities that are left
-- the keys from a place on have the same of theirs as all
abbrev pub AreLeft : List EntityKey → ℕ → KeyedValues → Type 0
AreLeft fresh at es = Each (λ e. list_any (same_key e.0) (drop at fresh) ≡ list_any (same_key e.0) fresh) es

pub all_left : (fresh : List EntityKey) (es : KeyedValues) → AreLeft fresh 0 es
all_left fresh [] = tt
all_left fresh (e ∷ es) = (refl, all_left fresh es)

pub left_more : (fresh : List EntityKey) (at next : ℕ) (key : EntityKey) → ((k : EntityKey) → key_cmp key k ≡ order.Less → list_any (same_key k) (drop next fresh) ≡ list_any (same_key k) (drop at fresh)) →
    (es : KeyedValues) → Each (λ e. key_cmp key e.0 ≡ order.Less) es → AreLeft fresh at es → AreLeft fresh next es
left_more fresh at next key greater [] above h = tt
left_more fresh at next key greater (e ∷ es) above h = (greater e.0 above.0 ∙ h.0, left_more fresh at next key greater es above.1 h.1)

values_rise : (es : List Keyed) → Rising es → Rising (values_of es)
values_rise [] h = tt
values_rise (e ∷ es) h = (each es h.0, values_rise es h.1)
  where
    each : (ds : List Keyed) → Each (λ d. key_cmp e.0 d.0 ≡ order.Less) ds → Each (λ (d : EntityKey × Value entity). key_cmp e.0 d.0 ≡ order.Less) (values_of ds)
    each [] h = tt
    each (d ∷ ds) h = (h.0, each ds h.1)

pub before_rise : (f : ℕ) (o : Option (List ℕ)) → Rising (values_of (entities_before f o))
before_rise f None = tt
before_rise f (Some b) = values_rise (entities_in f b) (entities_rise f b)
