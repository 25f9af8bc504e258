-- The greatest of timestamps.
use Rattle.std.specs.declared.option.Option.{Option}
use Rattle.std.proofs.Common.{◌≡◌, ℕ, suc, ◌<◌, ℤ, ◌≤ℤ◌, List, [], ◌∷◌, ◌++◌, map, length, take, get_or, ◌+◌, ◌⊎◌, inl, inr, refl, ap, sym, ◌∙◌, subst, Some, None, arith}
use Rattle.std.specs.Int.{int_max}
use Rattle.std.specs.List.{All, Contains, cons_option, fold}
use Rattle.std.proofs.lemmas.Int.{fold-int_max_bounds, fold-int_max_reached}
use Rattle.std.proofs.lemmas.List.{map_more}
use Rattle.std.proofs.lemmas.List.Elements.{All-nil, All-cons, filter_map-append}
use Rattle.feed_values.specs.Schema.{Value}
use Rattle.feed_values.specs.Messages.{feed_message}
use Rattle.feed_values.specs.Snapshot.{timestamp_of}
use Rattle.feed_merge.specs.Union.{greatest, greatest_stamp, stamps_in}
use Rattle.feed_merge.specs.Laws.{StampIsGreatest}

none_given : (zs : List ℤ) → greatest zs ≡ None → zs ≡ []
none_given [] e = refl
none_given (z ∷ zs) e = absurd (cc e)

first : (z : ℤ) (zs : List ℤ) → Contains (z ∷ zs) z
first z zs = (0, omega arith, refl)

later : (y : ℤ) (zs : List ℤ) (z : ℤ) → Contains zs z → Contains (y ∷ zs) z
later y zs z c = (suc c.0, omega arith, c.2)

reached : (y z : ℤ) (zs : List ℤ) → (z ≡ y) ⊎ Contains zs z → Contains (y ∷ zs) z
reached y z zs (inl e) = subst (λ x. Contains (y ∷ zs) x) (sym e) (first y zs)
reached y z zs (inr c) = later y zs z c

pub one_given : (zs : List ℤ) (z : ℤ) → greatest zs ≡ Some z → Contains zs z
one_given [] z e = absurd (cc e)
one_given (y ∷ zs) z e =
    let is : z ≡ fold int_max y zs = cc e in
    reached y z zs (fold-int_max_reached y zs z is)

none_above : (zs : List ℤ) (z : ℤ) → greatest zs ≡ Some z → All (λ y. y ≤ℤ z) zs
none_above [] z e = All-nil (λ y. y ≤ℤ z)
none_above (y ∷ zs) z e =
    let is : z ≡ fold int_max y zs = cc e in
    let bounds = fold-int_max_bounds y zs z is in
    All-cons (λ y. y ≤ℤ z) y zs bounds.0 bounds.1

pub stamp_is_greatest : StampIsGreatest
stamp_is_greatest = record {
  none = λ vs. none_given (stamps_in vs);
  given = λ vs. one_given (stamps_in vs);
  greatest = λ vs. none_above (stamps_in vs);
}

-- ---- the first feeds, and one more
pub stamps_next : {A : Type 0} (says : A → Value feed_message) (xs : List A) (i : ℕ) (x : A) (stamp : Option ℤ) → i < length xs → x ≡ get_or xs i x → stamp ≡ timestamp_of (says x).0 →
    greatest (stamps_in (map says (take i xs)) ++ cons_option stamp []) ≡ greatest_stamp (map says (take (i + 1) xs))
stamps_next says xs i x stamp l is said =
    ap (λ z. greatest (stamps_in (map says (take i xs)) ++ cons_option z [])) (said ∙ ap (λ y. timestamp_of (says y).0) is)
    ∙ ap greatest (sym (filter_map-append (λ (v : Value feed_message). timestamp_of v.0) (map says (take i xs)) (says (get_or xs i x) ∷ [])))
    ∙ ap greatest_stamp (sym (map_more says xs i x l))
