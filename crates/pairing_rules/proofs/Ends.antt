-- The kinds of the first and the last of seats in order.
use Rattle.std.proofs.Common.{arith, subst, sym}
use Rattle.std.specs.Prelude.{◌≡◌, ◌||◌, ℕ, zero, suc, Bool, true, false, List, [], ◌∷◌, Some, slice_get, All, refl}
use Rattle.std.specs.List.{list_any}
use Rattle.std.specs.Map.{keys_of}
use Rattle.std.specs.Ordering.{is_gt, is_lt, ordering_then}
use Rattle.std.specs.declared.cmp.Ordering.{Ordering}
use Rattle.rule_table.specs.declared.kind.Kind.{Kind}
use Rattle.rule_table.specs.declared.kind.Kind.TheVariants.{TripUpdate, Vehicle}
use Rattle.rule_table.specs.Kinds.{kind_cmp, same_kind}
use Rattle.pairing_rules.specs.Seats.{seat_cmp}
use Rattle.pairing_rules.specs.declared.seat.Seat.{Seat}

or_true : (b : Bool) → (b || true) ≡ true
or_true true = refl
or_true false = refl

-- after what is of a vehicle position comes no trip update, and before what is of a trip update no vehicle position
after_vehicle : (a b : Kind) (rest : Ordering) → same_kind a TripUpdate ≡ false → is_gt (ordering_then (kind_cmp a b) rest) ≡ false → same_kind b TripUpdate ≡ false
after_vehicle TripUpdate b rest k h = cc
after_vehicle Vehicle TripUpdate rest k h = cc
after_vehicle Vehicle Vehicle rest k h = refl

before_update : (a b : Kind) (rest : Ordering) → same_kind a Vehicle ≡ false → is_lt (ordering_then (kind_cmp a b) rest) ≡ false → same_kind b Vehicle ≡ false
before_update TripUpdate TripUpdate rest k h = refl
before_update TripUpdate Vehicle rest k h = cc
before_update Vehicle b rest k h = cc

none_there : (p : Seat → Bool) (keys : List Seat) → All (λ x. p x ≡ false) keys → list_any p keys ≡ false
none_there p [] h = refl
none_there p (x ∷ keys) h = rw (h 0 x (omega arith)) (none_there p keys (λ k d below. h (suc k) d (omega arith)))

module _ {V : Type 0} (p : Seat → Bool) where
  one_there : (es : List (Seat × V)) (i : ℕ) (s : Seat) (v : V) → slice_get es i ≡ Some (s, v) → p s ≡ true → list_any p (keys_of es) ≡ true
  one_there [] i s v h k = cc
  one_there (e ∷ es) zero s v h k =
      let same : s ≡ e.0 = cc in
      let first : p e.0 ≡ true = subst (λ x. p x ≡ true) same k in
      rw first refl
  one_there (e ∷ es) (suc i) s v h k = rw (one_there es i s v h k) (or_true (p e.0))

  -- what one of them tells where the others tell no more
  pub told_by : (es : List (Seat × V)) (i : ℕ) (s : Seat) (v : V) → slice_get es i ≡ Some (s, v) → (p s ≡ false → All (λ x. p x ≡ false) (keys_of es)) → p s ≡ list_any p (keys_of es)
  told_by es i s v h rest = by (p s) refl
    where
      by : (b : Bool) → p s ≡ b → b ≡ list_any p (keys_of es)
      by true e = sym (one_there es i s v h e)
      by false e = sym (none_there p (keys_of es) (rest e))

pub all_after : (s : Seat) (keys : List Seat) → All (λ x. is_gt (seat_cmp s x) ≡ false) keys → same_kind s.kind TripUpdate ≡ false → All (λ x. same_kind x.kind TripUpdate ≡ false) keys
all_after s keys h k = λ i d below. after_vehicle s.kind _ _ k (h i d below)

pub all_before : (s : Seat) (keys : List Seat) → All (λ x. is_lt (seat_cmp s x) ≡ false) keys → same_kind s.kind Vehicle ≡ false → All (λ x. same_kind x.kind Vehicle ≡ false) keys
all_before s keys h k = λ i d below. before_update s.kind _ _ k (h i d below)
