-- How many of some keys there are, by the entities that pass a test.
use Rattle.std.specs.Prelude.{◌≡◌, ℕ, zero, suc, ◌+◌, ◌==◌, nat_lt, Bool, true, false, cond, List, [], ◌∷◌, ◌++◌, map, length, Option, Some, None, option_map, is_some, if◌then◌else◌, refl}
use Rattle.std.specs.List.{flat_map, find}
use Rattle.std.specs.Option.{option_or}
use Rattle.std.specs.declared.cmp.Ordering.TheVariants as order
use Rattle.std.proofs.Common.{sym, ap, ◌∙◌, arith}
use Rattle.std.proofs.lemmas.Bool.Decides.{nat_tests}
use Rattle.std.proofs.lemmas.Bool.{or_right, or_left}
use borrow.Author.Tests.{eqb-true}
use Rattle.rule_table.specs.declared.key.EntityKey.{EntityKey}
use Rattle.rule_table.specs.Groups.{Each}
use Rattle.rule_table.specs.GroupLaws.{each_weaken}
use Rattle.rule_table.specs.Order.{key_cmp, same_key}
use Rattle.rule_table.specs.Rises.{Rises, Rising}
use Rattle.rule_table.proofs.SameKeys.{key_self}
use Rattle.rule_history.specs.History.{Keyed, below}
use Rattle.rule_history.specs.Answered.{payload_under}
use Rattle.rule_history.specs.Changed.{count_of}
use Rattle.engine_laws.proofs.Sorted.{apart_rising, found_under}
use Rattle.row_changes.proofs.Feeds.{lt-other, lt-itself, lt-zero}
use Rattle.touched_entities.specs.part_laws.Touched.{is_among}
use Rattle.touched_entities.specs.part_laws.SparseProofs.{sparse}
use Rattle.touched_entities.specs.part_laws.StaysProofs.{other_way}
use Rattle.touched_entities.specs.entity_index.FindingProofs.{among-at}
use Rattle.touched_entities.proofs.Fresh.{none_far}

-- whether an entity that may be there under a key passes a test
abbrev pub passes : (Keyed → Bool) → EntityKey → Option (List ℕ) → Bool
passes test key None = false
passes test key (Some p) = test (key, p)

-- ---- keys of entities
abbrev keys_in : List Keyed → List EntityKey
keys_in es = map (λ e. e.0) es

keys_rise : (es : List Keyed) → Rising es → Rises key_cmp (keys_in es)
keys_rise [] h = tt
keys_rise (e ∷ es) h = (over es h.0, keys_rise es h.1)
  where
    over : (ds : List Keyed) → Each (λ d. key_cmp e.0 d.0 ≡ order.Less) ds → Each (λ k. key_cmp e.0 k ≡ order.Less) (keys_in ds)
    over [] k = tt
    over (d ∷ ds) k = (k.0, over ds k.1)

each_among : (ks : List EntityKey) → Each (λ k. is_among ks k ≡ true) ks
each_among [] = tt
each_among (q ∷ ks) =
    (or_left (same_key q q) (is_among ks q) (key_self q), each_weaken (λ k. is_among ks k ≡ true) (λ k. is_among (q ∷ ks) k ≡ true) (λ k h. or_right (same_key q k) (is_among ks k) h) ks (each_among ks))

-- nothing is under a key that isn't one of theirs
none_under : (es : List Keyed) (key : EntityKey) → is_among (keys_in es) key ≡ false → payload_under key es ≡ None
none_under es key h = none (payload_under key es) (sym (among-at key es) ∙ h)
  where
    none : (o : Option (List ℕ)) → is_some o ≡ false → o ≡ None
    none None e = refl
    none (Some p) e = cc

-- ---- some keys, taken at their own list and at that of entities
module _ (ks : List EntityKey) where
  abbrev taken : EntityKey → List EntityKey
  taken key = if is_among ks key then key ∷ [] else []

  all_taken : (qs : List EntityKey) → Each (λ k. is_among ks k ≡ true) qs → flat_map taken qs ≡ qs
  all_taken [] h = refl
  all_taken (q ∷ qs) h = ap (λ b. cond b (q ∷ []) [] ++ flat_map taken qs) h.0 ∙ ap (λ xs. q ∷ xs) (all_taken qs h.1)

  length-taken : (test : Keyed → Bool) (es : List Keyed) → Each (λ e. is_among ks e.0 ≡ test e) es → length (flat_map taken (keys_in es)) ≡ count_of test es
  length-taken test [] h = refl
  length-taken test (e ∷ es) h = ap (λ b. length (cond b (e.0 ∷ []) [] ++ flat_map taken (keys_in es))) h.0 ∙ either (test e) (length-taken test es h.1)
    where
      one : (n : ℕ) → suc n ≡ 1 + n
      one n = omega arith

      none : (n : ℕ) → n ≡ 0 + n
      none n = omega arith

      either : (b : Bool) → length (flat_map taken (keys_in es)) ≡ count_of test es → length (cond b (e.0 ∷ []) [] ++ flat_map taken (keys_in es)) ≡ cond b 1 0 + count_of test es
      either true m = ap suc m ∙ one (count_of test es)
      either false m = m ∙ none (count_of test es)

-- Keys in order are as many as the entities that pass a test, where they are those of such entities.
pub counted : (test : Keyed → Bool) (es : List Keyed) (ks : List EntityKey) → Rising es → Rises key_cmp ks → ((key : EntityKey) → is_among ks key ≡ passes test key (payload_under key es)) → length ks ≡ count_of test es
counted test es ks rise up is =
    ap length (sym (all_taken ks ks (each_among ks)))
    ∙ ap length (sparse (taken ks) ks (keys_in es) up (keys_rise es rise) alone (λ k h. alone k (is k ∙ ap (passes test k) (none_under es k h))))
    ∙ length-taken ks test es (each_weaken (λ e. payload_under e.0 es ≡ Some e.1) (λ e. is_among ks e.0 ≡ test e) (λ e h. is e.0 ∙ ap (passes test e.0) h) es (found_under es (apart_rising es rise)))
  where
    alone : (k : EntityKey) → is_among ks k ≡ false → taken ks k ≡ []
    alone k h = ap (λ b. cond b (k ∷ []) []) h

-- ---- the entities of all feeds below a number
both_parts : (key : EntityKey) (xs ys : List Keyed) → payload_under key (xs ++ ys) ≡ option_or (payload_under key xs) (payload_under key ys)
both_parts key [] ys = refl
both_parts key (x ∷ xs) ys = either (same_key x.0 key) (both_parts key xs ys)
  where
    either : (b : Bool) → payload_under key (xs ++ ys) ≡ option_or (payload_under key xs) (payload_under key ys) →
        option_map (λ (e : Keyed). e.1) (cond b (Some x) (find (λ e. same_key e.0 key) (xs ++ ys))) ≡ option_or (option_map (λ (e : Keyed). e.1) (cond b (Some x) (find (λ e. same_key e.0 key) xs))) (payload_under key ys)
    either true h = refl
    either false h = h

or_none : (o : Option (List ℕ)) → option_or o None ≡ o
or_none None = refl
or_none (Some p) = refl

lt-not : (x n : ℕ) → (x == n) ≡ true → nat_lt x n ≡ false
lt-not x n h = grind (arith, nat_tests)

-- Under a key is what its own feed has there.
module _ (part : ℕ → List Keyed) (of : (f : ℕ) → Each (λ e. e.0.feed ≡ f) (part f)) (key : EntityKey) where
  abbrev own : Bool → Option (List ℕ)
  own b = cond b (payload_under key (part key.feed)) None

  one_more : (n : ℕ) (b : Bool) → (key.feed == n) ≡ b → option_or (own (nat_lt key.feed n)) (payload_under key (part n)) ≡ own (nat_lt key.feed (suc n))
  one_more n true e =
      ap (λ m. option_or (own (nat_lt key.feed n)) (payload_under key (part m))) (sym (eqb-true key.feed n e))
      ∙ ap (λ b. option_or (own b) (payload_under key (part key.feed))) (lt-not key.feed n e)
      ∙ sym (ap own (lt-itself key.feed n e))
  one_more n false e =
      ap (option_or (own (nat_lt key.feed n))) (none_far n key (part n) (of n) (other_way key.feed n e))
      ∙ or_none (own (nat_lt key.feed n)) ∙ ap own (lt-other key.feed n e)

  under : (n : ℕ) → payload_under key (below part n) ≡ own (nat_lt key.feed n)
  under zero = sym (ap own (lt-zero key.feed))
  under (suc n) = both_parts key (below part n) (part n) ∙ ap (λ o. option_or o (payload_under key (part n))) (under n) ∙ one_more n (key.feed == n) refl

pub below_at : (part : ℕ → List Keyed) → ((f : ℕ) → Each (λ e. e.0.feed ≡ f) (part f)) → (n : ℕ) (key : EntityKey) → payload_under key (below part n) ≡ (if nat_lt key.feed n then payload_under key (part key.feed) else None)
below_at part of n key = under part of key n
