-- Setters in the order of their positions.
use Rattle.std.proofs.Common.{◌≡◌, ◌+◌, ◌*◌, ◌∷◌, ◌++◌, [], ℕ, ℤ, pos, negsuc, ◌<ℤ◌, ◌≤ℤ◌, int_le, zero, suc, List, get_or, true, false, Some, None, Option, All, option_map, ap, arith, subst, ⊎_elim}
use Rattle.std.specs.List.Sorted.{IsPartitionedBy}
use Rattle.std.proofs.lemmas.Bool.{cases_lt}
use Rattle.std.proofs.lemmas.List.Elements.{All-append, All-cons, All-nil, All-weaker}
use Rattle.jiff.proofs.SpanFacts.{signed_arith}
use Rattle.jiff_tz.proofs.TzifLemmas.{le_below, le_no, le_yes}
use Rattle.feed_values.specs.declared.stop_time_update.StopTimeUpdate.{StopTimeUpdate}
use Rattle.propagation.specs.Events.{arrival_at, departure_at, events, events_from, own_of}
use Rattle.propagation.specs.Matching.{matcher}
use Rattle.propagation.specs.Setters.{AreInOrder, event_setters, governing, last_setter, placed, set_at, setters}
use Rattle.propagation.specs.Stops.{Stop}
use Rattle.propagation.specs.declared.placed_setter.PlacedSetter.{PlacedSetter}
use Rattle.propagation.specs.declared.setter.Setter.{Setter}
use Rattle.propagation.specs.declared.source.Source.TheVariants as source
use Rattle.propagation.proofs.ListLemmas.{filter-parts}

-- the setters at or before a position stand in front
pub governing-parts : (before after : List PlacedSetter) (p : ℤ) → All (λ s. s.position ≤ℤ p) before → All (λ s. p <ℤ s.position) after
    → governing (before ++ after) p ≡ last_setter before
governing-parts before after p low high =
    ap last_setter (filter-parts (λ s. int_le s.position p) before after
    (All-weaker (λ s. s.position ≤ℤ p) (λ s. int_le s.position p ≡ true) (λ s le. le_yes s.position p le) before low)
    (All-weaker (λ s. p <ℤ s.position) (λ s. int_le s.position p ≡ false) (λ s lt. le_no s.position p lt) after high))

pub partitioned : (setters : List PlacedSetter) (p : ℤ) → AreInOrder setters → IsPartitionedBy (λ s. int_le s.position p) setters
partitioned setters p order i j d le within at =
    ⊎_elim
    (λ lt. let up = order i j d lt within in le_below _ _ p (omega (arith, signed_arith, up)) at)
    (λ ge. let same : j ≡ i = omega (arith, le, ge) in subst (λ k. int_le (let s = get_or setters k d in s.position) p ≡ true) same at)
    (cases_lt i j)

-- what is placed stands at its position
pub placed-at : (P : ℤ → Type 0) (position : ℤ) (o : Option Setter) → P position → All (λ s. P s.position) (placed position o)
placed-at P position None h = All-nil (λ s. P s.position)
placed-at P position (Some setter) h = All-cons (λ s. P s.position) (record { position = position; setter = setter }) [] h (All-nil (λ s. P s.position))

-- the setters of stops from a place on stand at or after that place's arrival
pub set_from : (zero_ : ℤ) (updates : List StopTimeUpdate) (matches : List (Option ℕ)) (place : ℕ) (stops : List Stop)
    → All (λ s. pos (2 * place) ≤ℤ s.position) (event_setters (events_from zero_ updates matches place stops))
set_from z updates matches place [] = All-nil (λ s. pos (2 * place) ≤ℤ s.position)
set_from z updates matches place (stop ∷ stops) =
    let own = own_of updates (matcher matches place) in
    let P = λ (s : PlacedSetter). pos (2 * place) ≤ℤ s.position in
    All-append P _ _ (placed-at (λ p. pos (2 * place) ≤ℤ p) (pos (2 * place)) (set_at (arrival_at z place stop own)) (omega (arith, signed_arith)))
    (All-append P _ _ (placed-at (λ p. pos (2 * place) ≤ℤ p) (pos (2 * place + 1)) (set_at (departure_at z place stop own)) (omega (arith, signed_arith)))
    (All-weaker (λ s. pos (2 * (place + 1)) ≤ℤ s.position) P (λ s le. omega (arith, signed_arith, le)) _ (set_from z updates matches (place + 1) stops)))

-- ---- positions rise
nil_ordered : AreInOrder []
nil_ordered i j d lt within = absurd (omega arith)

-- setters in order, after one that stands before them
cons_ordered : (s : PlacedSetter) (l : List PlacedSetter) → All (λ later. s.position <ℤ later.position) l → AreInOrder l → AreInOrder (s ∷ l)
cons_ordered s l below order i zero d lt within = absurd (omega (arith, lt))
cons_ordered s l below order zero (suc j) d lt within = below j d (omega (arith, within))
cons_ordered s l below order (suc i) (suc j) d lt within = order i j d (omega (arith, lt)) (omega (arith, within))

placed_ordered : (position : ℤ) (o : Option Setter) (l : List PlacedSetter) → All (λ s. position <ℤ s.position) l → AreInOrder l → AreInOrder (placed position o ++ l)
placed_ordered position None l above order = order
placed_ordered position (Some setter) l above order = cons_ordered (record { position = position; setter = setter }) l above order

-- each stop's setters stand before those of the next
stops_ordered : (z : ℤ) (updates : List StopTimeUpdate) (matches : List (Option ℕ)) (place : ℕ) (stops : List Stop)
    → AreInOrder (event_setters (events_from z updates matches place stops))
stops_ordered z updates matches place [] = nil_ordered
stops_ordered z updates matches place (stop ∷ stops) =
    let own = own_of updates (matcher matches place) in
    let rest = event_setters (events_from z updates matches (place + 1) stops) in
    let from = set_from z updates matches (place + 1) stops in
    let departure = set_at (departure_at z place stop own) in
    placed_ordered (pos (2 * place)) (set_at (arrival_at z place stop own)) (placed (pos (2 * place + 1)) departure ++ rest)
    (All-append (λ s. pos (2 * place) <ℤ s.position) (placed (pos (2 * place + 1)) departure) rest
    (placed-at (λ p. pos (2 * place) <ℤ p) (pos (2 * place + 1)) departure (omega (arith, signed_arith)))
    (All-weaker (λ s. pos (2 * (place + 1)) ≤ℤ s.position) (λ s. pos (2 * place) <ℤ s.position) (λ s le. omega (arith, signed_arith, le)) rest from))
    (placed_ordered (pos (2 * place + 1)) departure rest
    (All-weaker (λ s. pos (2 * (place + 1)) ≤ℤ s.position) (λ s. pos (2 * place + 1) <ℤ s.position) (λ s le. omega (arith, signed_arith, le)) rest from)
    (stops_ordered z updates matches (place + 1) stops))

-- all setters of a trip update are in order
pub setters_ordered : (delay : Option ℤ) (z : ℤ) (stops : List Stop) (updates : List StopTimeUpdate) (matches : List (Option ℕ)) → AreInOrder (setters delay (events z stops updates matches))
setters_ordered delay z stops updates matches =
    let rest = event_setters (events z stops updates matches) in
    placed_ordered (negsuc 0) (option_map (λ d. record { source = source.Trip; delay = Some d }) delay) rest
    (All-weaker (λ s. pos (2 * 0) ≤ℤ s.position) (λ s. negsuc 0 <ℤ s.position) (λ s le. omega (arith, signed_arith, le)) rest (set_from z updates matches 0 stops))
    (stops_ordered z updates matches 0 stops)
