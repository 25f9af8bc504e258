-- The set of setters and its greatest, and the one way in which updates match.
use Rattle.std.proofs.Common.{◌≡◌, ◌<◌, ◌≤◌, ◌+◌, ◌∷◌, ◌⊎◌, ◌↔◌, [], ℕ, ℤ, negsuc, ◌<ℤ◌, ◌≤ℤ◌, int_le, zero, suc, List, length, take, filter, get_or, Bool, true, cond, Some, None, Option, All, Contains, slice_get, option_map, inl, inr, refl, sym, ap, ◌∙◌, arith, add-one, IfSome, subst, ⊎_elim}
use borrow.Author.Differences.{le-true, le-false}
use Rattle.std.specs.Option.{option_or}
use Rattle.std.specs.List.{position_from}
use Rattle.std.proofs.lemmas.Bool.{cases_Bool, cases_order, eqb-true, eq-eqb}
use Rattle.std.proofs.lemmas.List.{ext_get_or, get_or-take, length-take, take_more_same}
use Rattle.std.proofs.lemmas.List.Elements.{All-contains, Contains-append_cases, Contains-append_left, Contains-append_right}
use Rattle.std.proofs.lemmas.Option.{get_or_from_slice_get, slice_get-get_or, slice_get_within}
use Rattle.jiff.proofs.SpanFacts.{signed_arith}
use Rattle.feed_values.specs.Meaning.{last_of}
use Rattle.feed_values.specs.declared.stop_time_update.StopTimeUpdate.{StopTimeUpdate}
use Rattle.propagation.specs.Events.{Event, events}
use Rattle.propagation.specs.Laws.{IsGreatest, IsSetter, of_event, of_trip}
use Rattle.propagation.specs.Matching.{AreMatches, AreOrdered, IsMatch, is_at, matcher}
use Rattle.propagation.specs.Setters.{AreInOrder, event_setters, governing, placed, set_at, setters, trip_setters}
use Rattle.propagation.specs.Stops.{Stop}
use Rattle.propagation.specs.declared.placed_setter.PlacedSetter.{PlacedSetter}
use Rattle.propagation.specs.declared.setter.Setter.{Setter}
use Rattle.propagation.specs.declared.source.Source.TheVariants as source
use Rattle.propagation.proofs.ListLemmas.{some_within}
use Rattle.propagation.proofs.MatchLemmas.{are-ordered}
use Rattle.propagation.proofs.SetterLemmas.{setters_ordered}

-- ---- members of lists
pub Contains-head : {A : Type 0} (x : A) (xs : List A) → Contains (x ∷ xs) x
Contains-head x xs = (0, omega arith, refl)

Contains-one : {A : Type 0} (x y : A) → Contains (x ∷ []) y → x ≡ y
Contains-one x y (zero, within, e) = e
Contains-one x y (suc k, within, e) = absurd (omega (arith, within))

Contains-rest : {A : Type 0} (x : A) (xs : List A) (y : A) → Contains xs y → Contains (x ∷ xs) y
Contains-rest x xs y h = Contains-append_right (x ∷ []) xs y h

Contains-cases : {A : Type 0} (x : A) (xs : List A) (y : A) → Contains (x ∷ xs) y → (x ≡ y) ⊎ Contains xs y
Contains-cases x xs y h = ⊎_elim (λ one. inl (Contains-one x y one)) (λ rest. inr rest) (Contains-append_cases (x ∷ []) xs y h)

-- ---- the greatest of setters in order
abbrev Greatest : List PlacedSetter → ℤ → Option PlacedSetter → Type 0
Greatest l p None = (s : PlacedSetter) → Contains l s → s.position ≤ℤ p → ⊥
Greatest l p (Some s) = Contains l s × (s.position ≤ℤ p) × ((other : PlacedSetter) → Contains l other → other.position ≤ℤ p → other.position ≤ℤ s.position)

order-rest : (x : PlacedSetter) (xs : List PlacedSetter) → AreInOrder (x ∷ xs) → AreInOrder xs
order-rest x xs order i j d lt within = order (suc i) (suc j) d (omega (arith, lt)) (omega (arith, within))

order-above : (x : PlacedSetter) (xs : List PlacedSetter) → AreInOrder (x ∷ xs) → All (λ s. x.position <ℤ s.position) xs
order-above x xs order k d within = order 0 (suc k) d (omega arith) (omega (arith, within))

one_more : (x : PlacedSetter) (xs : List PlacedSetter) (p : ℤ) (o : Option PlacedSetter) → All (λ s. x.position <ℤ s.position) xs → x.position ≤ℤ p
    → Greatest xs p o → Greatest (x ∷ xs) p (option_or o (Some x))
one_more x xs p None above le none = (
  Contains-head x xs,
  le,
  λ other in_ low. ⊎_elim
      (λ same. let e = ap (λ (s : PlacedSetter). s.position) same in omega (arith, signed_arith, e))
      (λ rest. absurd (none other rest low)) (Contains-cases x xs other in_),
)
one_more x xs p (Some s) above le great = (
  Contains-rest x xs s great.0,
  great.1,
  λ other in_ low. ⊎_elim
      (λ same. let e = ap (λ (s : PlacedSetter). s.position) same in let lt = All-contains (λ (t : PlacedSetter). x.position <ℤ t.position) xs s above great.0 in omega (arith, signed_arith, e, lt))
      (λ rest. great.2 other rest low) (Contains-cases x xs other in_),
)

one_past : (x : PlacedSetter) (xs : List PlacedSetter) (p : ℤ) (o : Option PlacedSetter) → p <ℤ x.position → Greatest xs p o → Greatest (x ∷ xs) p o
one_past x xs p None lt none = λ s in_ low. ⊎_elim
    (λ same. let e = ap (λ (s : PlacedSetter). s.position) same in absurd (omega (arith, signed_arith, e, lt, low)))
    (λ rest. none s rest low) (Contains-cases x xs s in_)
one_past x xs p (Some s) lt great = (
  Contains-rest x xs s great.0,
  great.1,
  λ other in_ low. ⊎_elim
      (λ same. let e = ap (λ (s : PlacedSetter). s.position) same in absurd (omega (arith, signed_arith, e, lt, low)))
      (λ rest. great.2 other rest low) (Contains-cases x xs other in_),
)

Contains-none : {A : Type 0} (x : A) → Contains [] x → ⊥
Contains-none x (k, within, e) = absurd (omega (arith, within))

greatest : (l : List PlacedSetter) (p : ℤ) → AreInOrder l → Greatest l p (last_of (filter (λ s. int_le s.position p) l))
greatest [] p order = λ s in_ low. Contains-none s in_
greatest (x ∷ xs) p order = ⊎_elim
    (λ at. let under = le-true x.position p at in let le : x.position ≤ℤ p = omega (arith, signed_arith, under) in
    rw at (one_more x xs p (last_of (filter (λ s. int_le s.position p) xs)) (order-above x xs order) le (greatest xs p (order-rest x xs order))))
    (λ not_at. let over = le-false x.position p not_at in let lt : p <ℤ x.position = omega (arith, signed_arith, over) in
    rw not_at (one_past x xs p (last_of (filter (λ s. int_le s.position p) xs)) lt (greatest xs p (order-rest x xs order))))
    (cases_Bool (int_le x.position p))

-- ---- the list of setters and the set
placed-in : (p : ℤ) (o : Option Setter) (s : PlacedSetter) → Contains (placed p o) s → (setter : Setter) × (o ≡ Some setter) × (record { position = p; setter = setter } ≡ s)
placed-in p None s h = absurd (Contains-none s h)
placed-in p (Some setter) s h = (setter, refl, Contains-one (record { position = p; setter = setter }) s h)

event-in : (delay : Option ℤ) (all events : List Event) (s : PlacedSetter) → ((e : Event) → Contains events e → Contains all e) → Contains (event_setters events) s → IsSetter delay all s
event-in delay all [] s sub h = absurd (Contains-none s h)
event-in delay all (e ∷ events) s sub h = ⊎_elim
    (λ here. let at = placed-in e.position (set_at e) s here in subst (IsSetter delay all) at.2 (of_event e at.0 (sub e (Contains-head e events)) at.1))
    (λ rest. event-in delay all events s (λ f in_. sub f (Contains-rest e events f in_)) rest)
    (Contains-append_cases (placed e.position (set_at e)) (event_setters events) s h)

trip-in : (delay : Option ℤ) (events : List Event) (s : PlacedSetter) → Contains (trip_setters delay) s → IsSetter delay events s
trip-in None events s h = absurd (Contains-none s h)
trip-in (Some d) events s h = subst (IsSetter (Some d) events) (Contains-one (record { position = negsuc 0; setter = record { source = source.Trip; delay = Some d } }) s h) (of_trip d refl)

pub list-in-set : (delay : Option ℤ) (events : List Event) (s : PlacedSetter) → Contains (setters delay events) s → IsSetter delay events s
list-in-set delay events s h = ⊎_elim (λ first. trip-in delay events s first) (λ rest. event-in delay events events s (λ e in_. in_) rest)
    (Contains-append_cases (trip_setters delay) (event_setters events) s h)

event-of : (events : List Event) (e : Event) (s : PlacedSetter) → Contains events e → Contains (placed e.position (set_at e)) s → Contains (event_setters events) s
event-of [] e s in_ h = absurd (Contains-none e in_)
event-of (f ∷ events) e s in_ h = ⊎_elim
    (λ same. Contains-append_left (placed f.position (set_at f)) (event_setters events) s (subst (λ x. Contains (placed x.position (set_at x)) s) (sym same) h))
    (λ rest. Contains-append_right (placed f.position (set_at f)) (event_setters events) s (event-of events e s rest h))
    (Contains-cases f events e in_)

pub set-in-list : (delay : Option ℤ) (events : List Event) (s : PlacedSetter) → IsSetter delay events s → Contains (setters delay events) s
set-in-list delay events _ (of_trip d e) =
    let s : PlacedSetter = record { position = negsuc 0; setter = record { source = source.Trip; delay = Some d } } in
    Contains-append_left (trip_setters delay) (event_setters events) s (subst (λ o. Contains (trip_setters o) s) (sym e) (Contains-head s []))
set-in-list delay events _ (of_event e setter in_ at) =
    let s : PlacedSetter = record { position = e.position; setter = setter } in
    Contains-append_right (trip_setters delay) (event_setters events) s
    (event-of events e s in_ (subst (λ o. Contains (placed e.position o) s) (sym at) (Contains-head s [])))

in-set : (delay : Option ℤ) (events : List Event) (p : ℤ) (o : Option PlacedSetter) → Greatest (setters delay events) p o → IsGreatest (IsSetter delay events) p (option_map (λ s. s.setter) o)
in-set delay events p None none = λ s in_ low. none s (set-in-list delay events s in_) low
in-set delay events p (Some s) great = (s, list-in-set delay events s great.0, refl, great.1, λ other in_ low. great.2 other (set-in-list delay events other in_) low)

pub governing-greatest : (delay : Option ℤ) (z : ℤ) (stops : List Stop) (updates : List StopTimeUpdate) (matches : List (Option ℕ)) (p : ℤ)
    → IsGreatest (IsSetter delay (events z stops updates matches)) p (governing (setters delay (events z stops updates matches)) p)
governing-greatest delay z stops updates matches p =
    in-set delay (events z stops updates matches) p _ (greatest (setters delay (events z stops updates matches)) p (setters_ordered delay z stops updates matches))

-- ---- one way to match
one_match : (stops : List Stop) (u : StopTimeUpdate) (earlier : List (Option ℕ)) (m n : Option ℕ) → IsMatch stops u earlier m → IsMatch stops u earlier n → m ≡ n
one_match stops u earlier None None h k = refl
one_match stops u earlier None (Some q) h k = absurd (h q k.0)
one_match stops u earlier (Some p) None h k = absurd (k p h.0)
one_match stops u earlier (Some p) (Some q) h k = let low = h.1 q k.0 in let high = k.1 p h.0 in let e : p ≡ q = omega (arith, low, high) in ap Some e

module _ (stops : List Stop) (updates : List StopTimeUpdate) (one other : List (Option ℕ)) (a : AreMatches stops updates one) (b : AreMatches stops updates other) where
  same-at : (i : ℕ) → i < length one → take i one ≡ take i other → get_or one i None ≡ get_or other i None
  same-at i within same =
      let size_a = a.size in
      let size_b = b.size in
      let update = some_within updates i (omega (arith, within, size_a)) in
      let m = a.each i update.0 (get_or one i None) update.1 (slice_get-get_or one i None within) in
      let n = b.each i update.0 (get_or other i None) update.1 (slice_get-get_or other i None (omega (arith, within, size_a, size_b))) in
      one_match stops update.0 (take i other) _ _ (subst (λ l. IsMatch stops update.0 l (get_or one i None)) same m) n

  same-to : (i : ℕ) → i ≤ length one → take i one ≡ take i other
  same-to zero h = refl
  same-to (suc i) h =
      let size_a = a.size in
      let size_b = b.size in
      let before = same-to i (omega (arith, h)) in
      let within : i < length one = omega (arith, h) in
      rw (← add-one i) (take_more_same one other i None within (omega (arith, within, size_a, size_b)) before (same-at i within before))

  pub one-way : one ≡ other
  one-way = ext_get_or None one other (a.size ∙ sym b.size) (λ i within. same-at i within (same-to i (omega (arith, within))))

-- ---- the update of a stop
position_from-at : {A : Type 0} (p : A → Bool) (i : ℕ) (xs : List A) (k : ℕ) → position_from p i xs ≡ Some k → (j : ℕ) × (k ≡ i + j) × ((x : A) × (slice_get xs j ≡ Some x) × (p x ≡ true))
position_from-at p i [] k h = absurd (cc h)
position_from-at p i (y ∷ ys) k h = ⊎_elim
    (λ at. let here : Some i ≡ Some k = sym (ap (λ b. cond b (Some i) (position_from p (i + 1) ys)) at) ∙ h in
    let e : i ≡ k = cc here in (0, omega (arith, e), (y, refl, at)))
    (λ not_at. let rest : position_from p (i + 1) ys ≡ Some k = sym (ap (λ b. cond b (Some i) (position_from p (i + 1) ys)) not_at) ∙ h in
    let found = position_from-at p (i + 1) ys k rest in (suc found.0, (let e = found.1 in omega (arith, e)), found.2))
    (cases_Bool (p y))

position_from-none : {A : Type 0} (p : A → Bool) (i : ℕ) (xs : List A) (j : ℕ) (x : A) → position_from p i xs ≡ None → slice_get xs j ≡ Some x → p x ≡ true → ⊥
position_from-none p i [] j x h at pass = cc at
position_from-none p i (y ∷ ys) zero x h at pass = let e : y ≡ x = cc at in
    let first : p y ≡ true = ap p e ∙ pass in
    cc (sym (ap (λ b. cond b (Some i) (position_from p (i + 1) ys)) first) ∙ h)
position_from-none p i (y ∷ ys) (suc j) x h at pass = ⊎_elim
    (λ first. cc (sym (ap (λ b. cond b (Some i) (position_from p (i + 1) ys)) first) ∙ h))
    (λ fails. position_from-none p (i + 1) ys j x (sym (ap (λ b. cond b (Some i) (position_from p (i + 1) ys)) fails) ∙ h) at pass)
    (cases_Bool (p y))

is_at-place : (place : ℕ) (m : Option ℕ) → is_at place m ≡ true → m ≡ Some place
is_at-place place None h = absurd (cc h)
is_at-place place (Some m) h = ap Some (eqb-true m place h)

matcher-at : (matches : List (Option ℕ)) (place k : ℕ) → matcher matches place ≡ Some k → slice_get matches k ≡ Some (Some place)
matcher-at matches place k h =
    let found = position_from-at (is_at place) 0 matches k h in
    let e = found.1 in
    let same : k ≡ found.0 = omega (arith, e) in
    ap (slice_get matches) same ∙ found.2.1 ∙ ap Some (is_at-place place found.2.0 found.2.2)

clash : (matches : List (Option ℕ)) (i j place : ℕ) → AreOrdered matches → slice_get matches i ≡ Some (Some place) → slice_get matches j ≡ Some (Some place) → i < j → ⊥
clash matches i j place ordered at_i at_j lt =
    let size = length-take j matches in
    let within = slice_get_within matches j (Some place) at_j in
    let before = ordered j place at_j i None (omega (arith, size, within, lt)) in
    let is : get_or (take j matches) i None ≡ Some place = get_or-take j matches i None lt ∙ get_or_from_slice_get matches i (Some place) None at_i in
    let below : place < place = subst (λ m. IfSome m (λ p. p < place)) is before in
    absurd (omega (arith, below))

pub matcher-is : (stops : List Stop) (updates : List StopTimeUpdate) (matches : List (Option ℕ)) → AreMatches stops updates matches
    → (k place : ℕ) → (matcher matches place ≡ Some k) ↔ (slice_get matches k ≡ Some (Some place))
matcher-is stops updates matches are k place = (matcher-at matches place k, λ at. found at (matcher matches place) refl)
  where
    ordered : AreOrdered matches
    ordered = are-ordered stops updates matches are

    found : slice_get matches k ≡ Some (Some place) → (o : Option ℕ) → matcher matches place ≡ o → matcher matches place ≡ Some k
    found at None e = absurd (position_from-none (is_at place) 0 matches k (Some place) e at (eq-eqb place place refl))
    found at (Some i) e =
        let there = matcher-at matches place i e in
        e ∙ ⊎_elim (λ same. ap Some same) (λ other. ⊎_elim (λ lt. absurd (clash matches i k place ordered there at lt)) (λ gt. absurd (clash matches k i place ordered at there gt)) other) (cases_order i k)
