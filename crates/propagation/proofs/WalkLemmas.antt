-- The walk through the events of a trip, stop by stop.
use Rattle.std.proofs.Common.{◌≡◌, ◌+◌, ◌*◌, ◌∷◌, ◌++◌, [], ℕ, ℤ, pos, ◌<ℤ◌, ◌≤ℤ◌, ◌+ℤ◌, zero, suc, List, drop, map, slice_get, Some, Option, All, refl, sym, ap, ◌∙◌, arith, add-one, subst, append_assoc}
use Rattle.std.proofs.lemmas.List.Elements.{All-append, All-weaker}
use Rattle.std.proofs.lemmas.Option.{same_Some}
use Rattle.jiff.proofs.SpanFacts.{signed_arith}
use Rattle.feed_values.specs.declared.stop_time_update.StopTimeUpdate.{StopTimeUpdate}
use Rattle.propagation.specs.Events.{Event, Own, arrival_at, departure_at, events, events_from, own_of}
use Rattle.propagation.specs.Matching.{matcher}
use Rattle.propagation.specs.Rows.{ArePassed, event_row, outcome, row_by}
use Rattle.propagation.specs.Setters.{AreSmall, event_setters, governing, last_setter, placed, set_at}
use Rattle.propagation.specs.Stops.{Stop}
use Rattle.propagation.specs.declared.placed_setter.PlacedSetter.{PlacedSetter}
use Rattle.propagation.specs.declared.prediction_row.PredictionRow.{PredictionRow}
use Rattle.propagation.proofs.SetterLemmas.{governing-parts, placed-at, set_from}

drop-suc : {A : Type 0} (xs : List A) (i : ℕ) (x : A) → slice_get xs i ≡ Some x → drop i xs ≡ x ∷ drop (suc i) xs
drop-suc [] i x h = absurd (cc h)
drop-suc (y ∷ xs) zero x h = let e : y ≡ x = same_Some y x h in rw e refl
drop-suc (y ∷ xs) (suc i) x h = drop-suc xs i x h

pub drop-at : {A : Type 0} (xs : List A) (i : ℕ) (x : A) → slice_get xs i ≡ Some x → drop i xs ≡ x ∷ drop (i + 1) xs
drop-at xs i x h = rw (add-one i) (drop-suc xs i x h)

-- setters before a position stand before each greater one
lower : (p q : ℤ) (l : List PlacedSetter) → p ≤ℤ q → All (λ s. s.position <ℤ p) l → All (λ s. s.position <ℤ q) l
lower p q l le all = All-weaker (λ s. s.position <ℤ p) (λ s. s.position <ℤ q) (λ s lt. omega (arith, signed_arith, le, lt)) l all

up_to : (p q : ℤ) (l : List PlacedSetter) → q ≡ p +ℤ pos 1 → All (λ s. s.position <ℤ q) l → All (λ s. s.position ≤ℤ p) l
up_to p q l e all = All-weaker (λ s. s.position <ℤ q) (λ s. s.position ≤ℤ p) (λ s lt. omega (arith, signed_arith, e, lt)) l all

-- how far a walk has come: with what the events that are left set, the setters are all, and with their rows the rows are all
abbrev pub IsWalked : ℤ → List StopTimeUpdate → List (Option ℕ) → List Stop → List PlacedSetter → List PredictionRow → ℕ → List PlacedSetter → List PredictionRow → Type 0
IsWalked z updates matches stops first_setters first_rows place setters rows =
    let all = first_setters ++ event_setters (events z stops updates matches) in
    let left = events_from z updates matches place (drop place stops) in
    record {
      all_setters : setters ++ event_setters left ≡ all;
      all_rows : rows ++ map (event_row all) left ≡ first_rows ++ map (event_row all) (events z stops updates matches);
      small : AreSmall setters;
      before : All (λ s. s.position <ℤ pos (2 * place)) setters;
    }

-- the setters before a stop, with those of its events and those of the rest
module _ (z : ℤ) (updates : List StopTimeUpdate) (matches : List (Option ℕ)) (place : ℕ) (stop : Stop) (rest : List Stop) (before : List PlacedSetter)
    (low : All (λ s. s.position <ℤ pos (2 * place)) before) where
  abbrev pub own : Option Own
  own = own_of updates (matcher matches place)

  abbrev pub arrival : Event
  arrival = arrival_at z place stop own

  abbrev pub departure : Event
  departure = departure_at z place stop own

  abbrev pub to_arrival : List PlacedSetter
  to_arrival = before ++ placed arrival.position (set_at arrival)

  abbrev pub to_departure : List PlacedSetter
  to_departure = to_arrival ++ placed departure.position (set_at departure)

  abbrev pub left : List Event
  left = events_from z updates matches (place + 1) rest

  low_arrival : All (λ s. s.position <ℤ pos (2 * place + 1)) to_arrival
  low_arrival = All-append (λ s. s.position <ℤ pos (2 * place + 1)) before (placed arrival.position (set_at arrival))
      (lower (pos (2 * place)) (pos (2 * place + 1)) before (omega (arith, signed_arith)) low)
      (placed-at (λ p. p <ℤ pos (2 * place + 1)) (pos (2 * place)) (set_at arrival) (omega (arith, signed_arith)))

  -- after both events all setters stand before the next stop
  pub low_departure : All (λ s. s.position <ℤ pos (2 * (place + 1))) to_departure
  low_departure = All-append (λ s. s.position <ℤ pos (2 * (place + 1))) to_arrival (placed departure.position (set_at departure))
      (lower (pos (2 * place + 1)) (pos (2 * (place + 1))) to_arrival (omega (arith, signed_arith)) low_arrival)
      (placed-at (λ p. p <ℤ pos (2 * (place + 1))) (pos (2 * place + 1)) (set_at departure) (omega (arith, signed_arith)))

  high_departure : All (λ s. pos (2 * place + 1) <ℤ s.position) (event_setters left)
  high_departure = All-weaker (λ s. pos (2 * (place + 1)) ≤ℤ s.position) (λ s. pos (2 * place + 1) <ℤ s.position) (λ s le. omega (arith, signed_arith, le))
      (event_setters left) (set_from z updates matches (place + 1) rest)

  high_arrival : All (λ s. pos (2 * place) <ℤ s.position) (placed departure.position (set_at departure) ++ event_setters left)
  high_arrival = All-append (λ s. pos (2 * place) <ℤ s.position) (placed departure.position (set_at departure)) (event_setters left)
      (placed-at (λ p. pos (2 * place) <ℤ p) (pos (2 * place + 1)) (set_at departure) (omega (arith, signed_arith)))
      (All-weaker (λ s. pos (2 * place + 1) <ℤ s.position) (λ s. pos (2 * place) <ℤ s.position) (λ s lt. omega (arith, signed_arith, lt)) (event_setters left) high_departure)

  all-arrival : before ++ event_setters (arrival ∷ departure ∷ left) ≡ to_arrival ++ (placed departure.position (set_at departure) ++ event_setters left)
  all-arrival = sym (append_assoc before (placed arrival.position (set_at arrival)) (placed departure.position (set_at departure) ++ event_setters left))

  pub all-departure : before ++ event_setters (arrival ∷ departure ∷ left) ≡ to_departure ++ event_setters left
  all-departure = all-arrival ∙ sym (append_assoc to_arrival (placed departure.position (set_at departure)) (event_setters left))

  governs_arrival : governing (before ++ event_setters (arrival ∷ departure ∷ left)) arrival.position ≡ last_setter to_arrival
  governs_arrival = ap (λ l. governing l arrival.position) all-arrival
      ∙ governing-parts to_arrival (placed departure.position (set_at departure) ++ event_setters left) arrival.position
      (up_to (pos (2 * place)) (pos (2 * place + 1)) to_arrival (omega (arith, signed_arith)) low_arrival) high_arrival

  governs_departure : governing (before ++ event_setters (arrival ∷ departure ∷ left)) departure.position ≡ last_setter to_departure
  governs_departure = ap (λ l. governing l departure.position) all-departure
      ∙ governing-parts to_departure (event_setters left) departure.position
      (up_to (pos (2 * place + 1)) (pos (2 * (place + 1))) to_departure (omega (arith, signed_arith)) low_departure) high_departure

  -- the rows of both events go by the setters that govern them
  pub rows-departure : (rows : List PredictionRow) (all : List PlacedSetter) → before ++ event_setters (arrival ∷ departure ∷ left) ≡ all
      → ((rows ++ row_by arrival (outcome arrival (last_setter to_arrival)) ∷ []) ++ row_by departure (outcome departure (last_setter to_departure)) ∷ []) ++ map (event_row all) left
      ≡ rows ++ map (event_row all) (arrival ∷ departure ∷ left)
  rows-departure rows all is =
      let at_arrival : governing all arrival.position ≡ last_setter to_arrival = ap (λ l. governing l arrival.position) (sym is) ∙ governs_arrival in
      let at_departure : governing all departure.position ≡ last_setter to_departure = ap (λ l. governing l departure.position) (sym is) ∙ governs_departure in
      let rest_rows = map (event_row all) left in
      append_assoc (rows ++ row_by arrival (outcome arrival (last_setter to_arrival)) ∷ []) (row_by departure (outcome departure (last_setter to_departure)) ∷ []) rest_rows
      ∙ append_assoc rows (row_by arrival (outcome arrival (last_setter to_arrival)) ∷ []) (row_by departure (outcome departure (last_setter to_departure)) ∷ rest_rows)
      ∙ sym (ap (λ g. rows ++ row_by arrival (outcome arrival (last_setter to_arrival)) ∷ row_by departure (outcome departure g) ∷ rest_rows) at_departure)
      ∙ sym (ap (λ g. rows ++ row_by arrival (outcome arrival g) ∷ event_row all departure ∷ rest_rows) at_arrival)

-- the same events
pub passed_as : (setters : List PlacedSetter) (rows : List PredictionRow) (new_setters : List PlacedSetter) (new_rows : List PredictionRow) (a b d e : Event) → a ≡ b → d ≡ e
    → ArePassed setters rows a d new_setters new_rows → ArePassed setters rows b e new_setters new_rows
passed_as setters rows new_setters new_rows a b d e ab de passed =
    subst (λ x. ArePassed setters rows b x new_setters new_rows) de (subst (λ x. ArePassed setters rows x d new_setters new_rows) ab passed)

-- one more stop
pub walked-more : (z : ℤ) (updates : List StopTimeUpdate) (matches : List (Option ℕ)) (stops : List Stop) (first_setters : List PlacedSetter) (first_rows : List PredictionRow)
    (place : ℕ) (stop : Stop) (setters new_setters : List PlacedSetter) (rows new_rows : List PredictionRow)
    → slice_get stops place ≡ Some stop → IsWalked z updates matches stops first_setters first_rows place setters rows
    → ArePassed setters rows (arrival_at z place stop (own_of updates (matcher matches place))) (departure_at z place stop (own_of updates (matcher matches place))) new_setters new_rows
    → AreSmall new_setters → IsWalked z updates matches stops first_setters first_rows (place + 1) new_setters new_rows
walked-more z updates matches stops first_setters first_rows place stop setters new_setters rows new_rows at walked passed small =
    let rest = drop (place + 1) stops in
    let low = walked.before in
    let all = first_setters ++ event_setters (events z stops updates matches) in
    let left_is : events_from z updates matches place (drop place stops) ≡ arrival z updates matches place stop rest setters low ∷ departure z updates matches place stop rest setters low ∷ left z updates matches place stop rest setters low
    = ap (events_from z updates matches place) (drop-at stops place stop at) in
    let is = ap (λ l. setters ++ event_setters l) (sym left_is) ∙ walked.all_setters in
    let set = passed.new_setters_are in
    record {
      all_setters = ap (λ l. l ++ event_setters (left z updates matches place stop rest setters low)) set ∙ sym (all-departure z updates matches place stop rest setters low) ∙ is;
      all_rows = ap (λ l. l ++ map (event_row all) (left z updates matches place stop rest setters low)) (passed.new_rows_are
          ∙ ap (λ l. (rows ++ row_by (arrival z updates matches place stop rest setters low) (outcome (arrival z updates matches place stop rest setters low) (last_setter (to_arrival z updates matches place stop rest setters low))) ∷ [])
          ++ row_by (departure z updates matches place stop rest setters low) (outcome (departure z updates matches place stop rest setters low) (last_setter l)) ∷ []) set)
          ∙ rows-departure z updates matches place stop rest setters low rows all is
          ∙ ap (λ l. rows ++ map (event_row all) l) (sym left_is) ∙ walked.all_rows;
      small = small;
      before = subst (All (λ s. s.position <ℤ pos (2 * (place + 1)))) (sym set) (low_departure z updates matches place stop rest setters low);
    }
