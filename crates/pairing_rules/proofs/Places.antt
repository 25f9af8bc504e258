-- What is seen at a place, before and after a row is put in or taken out, and the first of it.
use Rattle.std.proofs.Common.{◌≡◌, ◌==◌, ◌&&◌, ℕ, Bool, true, false, cond, List, [], ◌∷◌, Option, Some, None, refl, sym, ◌∙◌, ap}
use Rattle.std.specs.Prelude.{map, option_map, option_copied, is_some}
use Rattle.std.specs.declared.cmp.Ordering.{Ordering}
use Rattle.std.specs.declared.cmp.Ordering.TheVariants.{Less, Equal, Greater}
use Rattle.std.specs.Ordering.{is_eq, is_le, is_gt}
use Rattle.std.specs.Cmp.{IsTotalOrder, Equal-is, alike_right}
use Rattle.std.specs.List.{filter, find}
use Rattle.std.specs.List.Sorted.{IsStrictlySortedBy}
use Rattle.std.specs.BTreeMap.{is_at}
use Rattle.std.specs.BTreeSet.{insert_key}
use Rattle.std.specs.Set.{remove_key}
use Rattle.std.specs.Map.Iter.{TakesFirst, deref}
use denote.Ref.{Bor}
use Rattle.rule_table.specs.declared.kind.Kind.{Kind}
use Rattle.pairing_rules.specs.declared.entry.Entry.{Entry}
use Rattle.pairing_rules.specs.Slots.{Seen, seen, seen_cmp, entry_cmp, at_place, low}
use Rattle.pairing_rules.proofs.Order.{entries_total, tied-place, place-cmp, place_cmp, feed_cmp, places_total, feeds_total, place-le, feed-le, place-less, feed-less, place-eq, feed-eq}
use Rattle.pairing_rules.proofs.Lists.{filter-insert, filter-remove, map-insert, map-remove, find-some, find-none, find-cut, find-same, find-seen, cut}

module _ (n : ℕ) (k : Kind) (e : Entry) (keys : List Entry) where
  abbrev there : List Entry → List Seen
  there xs = map seen (filter (at_place n k) xs)

  pub place-put : IsStrictlySortedBy entry_cmp keys → there (insert_key entry_cmp keys e) ≡ cond (at_place n k e) (insert_key seen_cmp (there keys) (seen e)) (there keys)
  place-put s = ap (map seen) (filter-insert entries_total (at_place n k) e (λ x t. tied-place e x t n k) keys s) ∙ each (at_place n k e) refl
    where
      each : (b : Bool) → at_place n k e ≡ b → map seen (cond b (insert_key entry_cmp (filter (at_place n k) keys) e) (filter (at_place n k) keys)) ≡ cond b (insert_key seen_cmp (there keys) (seen e)) (there keys)
      each true h = map-insert seen (at_place n k) entry_cmp seen_cmp e (λ x t. place-cmp n k e x h t) keys
      each false h = refl

  pub place-taken : there (remove_key (is_at (entry_cmp e)) keys) ≡ cond (at_place n k e) (remove_key (is_at (seen_cmp (seen e))) (there keys)) (there keys)
  place-taken = ap (map seen) (filter-remove (at_place n k) (is_at (entry_cmp e)) (at_place n k e) (λ x t. tied-place e x ((Equal-is (entry_cmp e x)).0 t) n k) keys) ∙ each (at_place n k e) refl
    where
      each : (b : Bool) → at_place n k e ≡ b → map seen (cond b (remove_key (is_at (entry_cmp e)) (filter (at_place n k) keys)) (filter (at_place n k) keys)) ≡ cond b (remove_key (is_at (seen_cmp (seen e))) (there keys)) (there keys)
      each true h = map-remove seen (at_place n k) (is_at (entry_cmp e)) (is_at (seen_cmp (seen e))) (λ x t. ap is_eq (place-cmp n k e x h t)) keys
      each false h = refl

pub and-true : (b : Bool) → (b && true) ≡ b
and-true true = refl
and-true false = refl

pub find-and : {K : Type 0} (p : K → Bool) (xs : List K) → find (λ x. p x && true) xs ≡ find p xs
find-and p [] = refl
find-and p (x ∷ xs) = ap (λ b. cond b (Some x) (find (λ x. p x && true) xs)) (and-true (p x)) ∙ ap (λ o. cond (p x) (Some x) o) (find-and p xs)

-- the first item of a range without an end
pub next-find : (p : Entry → Bool) (xs s t : List Entry) (r : Option (Bor Entry)) → s ≡ filter (λ x. p x && true) xs → TakesFirst deref s r t → option_copied r ≡ find p xs
next-find p xs s t None e h = sym (find-none (λ x. p x && true) xs (sym e ∙ h.0)) ∙ find-and p xs
next-find p xs s t (Some x) e h = sym (find-some (λ x. p x && true) xs x.now t (sym e ∙ h)) ∙ find-and p xs

-- the first at or after one that is of a part, where the part is what ties with it in a coarser order
module _ {K : Type 0} {R P : K → K → Ordering} (o : IsTotalOrder P) (finer : (x z : K) → R x z ≡ Less → is_gt (P x z) ≡ false) (one : K) (le : (x : K) → is_le (R one x) ≡ is_le (P one x)) where
  out : (r : Ordering) → is_le r ≡ false → is_eq r ≡ false
  out Less h = refl
  out Equal h = cc
  out Greater h = refl

  less : (r : Ordering) → is_le r ≡ true → is_eq r ≡ false → r ≡ Less
  less Less h g = refl
  less Equal h g = cc
  less Greater h g = cc

  on : (x z : K) (r : Ordering) → P x z ≡ r → is_gt r ≡ false → P one x ≡ Less → is_eq (P one z) ≡ false
  on x z Less e h l = ap is_eq (o.trans one x z l e)
  on x z Equal e h l = ap is_eq (sym (alike_right o x z one e) ∙ l)
  on x z Greater e h l = cc

  pub front-cut : (keys : List K) → IsStrictlySortedBy R keys → cut (λ e. is_eq (P one e)) (find (λ e. is_le (R one e)) keys) ≡ find (λ e. is_eq (P one e)) keys
  front-cut keys s = find-cut {R = R} (λ e. is_eq (P one e)) (λ e. is_le (R one e))
      (λ x h. out (P one x) (sym (le x) ∙ h))
      (λ x z h g l. on x z (P x z) refl (finer x z l) (less (P one x) (sym (le x) ∙ h) g)) keys s

pub cut-same : {K : Type 0} (p q : K → Bool) → ((x : K) → p x ≡ q x) → (y : Option K) → cut p y ≡ cut q y
cut-same p q h None = refl
cut-same p q h (Some y) = ap (λ b. cond b (Some y) None) (h y)

-- the first at a place
pub front-place : (n : ℕ) (k : Kind) (keys : List Entry) → IsStrictlySortedBy entry_cmp keys
    → option_map seen (cut (at_place n k) (find (λ e. is_le (entry_cmp (low n k 0) e)) keys)) ≡ find (λ _. true) (map seen (filter (at_place n k) keys))
front-place n k keys s =
    ap (option_map seen) (cut-same (at_place n k) (λ e. is_eq (place_cmp (low n k 0) e)) (λ e. sym (place-eq n k e)) _
    ∙ front-cut places_total place-less (low n k 0) (place-le n k) keys s
    ∙ find-same (λ e. is_eq (place_cmp (low n k 0) e)) (λ e. at_place n k e && true) (λ e. place-eq n k e ∙ sym (and-true (at_place n k e))) keys)
    ∙ find-seen seen (at_place n k) (λ _. true) keys

-- and of a feed
pub front-feed : (n : ℕ) (k : Kind) (f : ℕ) (keys : List Entry) → IsStrictlySortedBy entry_cmp keys
    → option_map seen (cut (λ e. at_place n k e && e.feed == f) (find (λ e. is_le (entry_cmp (low n k f) e)) keys)) ≡ find (λ s. s.feed == f) (map seen (filter (at_place n k) keys))
front-feed n k f keys s =
    ap (option_map seen) (cut-same (λ e. at_place n k e && e.feed == f) (λ e. is_eq (feed_cmp (low n k f) e)) (λ e. sym (feed-eq n k f e)) _
    ∙ front-cut feeds_total feed-less (low n k f) (feed-le n k f) keys s
    ∙ find-same (λ e. is_eq (feed_cmp (low n k f) e)) (λ e. at_place n k e && e.feed == f) (feed-eq n k f) keys)
    ∙ find-seen seen (at_place n k) (λ s. s.feed == f) keys

pub some-copied : (x : Option (Bor Entry)) → is_some x ≡ is_some (option_copied x)
some-copied None = refl
some-copied (Some x) = refl
