-- Rows by the numbers of their ids.
use Rattle.std.specs.Prelude.{◌≡◌, ℕ, Bool, ◌&&◌, List, Option, Some, map, option_map, option_and_then}
use Rattle.std.specs.declared.cmp.Ordering.{Ordering}
use Rattle.std.specs.Ordering.{nat_cmp, ordering_then}
use Rattle.std.specs.Option.{option_cmp}
use Rattle.std.specs.List.{AllByRecursion}
use Rattle.std.specs.declared.alloc.Global.{Global}
use Rattle.std.specs.declared.rc.Rc.{Rc}
use Rattle.rule_table.specs.declared.kind.Kind.{Kind}
use Rattle.rule_table.specs.Kinds.{kind_cmp, same_kind}
use Rattle.rule_table.specs.Pairs as pairs
use Rattle.pairing_rules.specs.declared.held.Held.{Held}
use Rattle.pairing_rules.specs.declared.seat.Seat.{Seat}
use Rattle.pairing_rules.specs.Numbers.{Numbers, is_number, numbered}
use Rattle.pairing_rules.specs.Rows.{held_row, in_order}

abbrev pub seat_of : pairs.PairRow → ℕ → Option ℕ → Option ℕ → Seat
seat_of r id trip vehicle = record { kind = r.kind; trip = trip; vehicle = vehicle; id = id; occurrence = r.key.occurrence; feed = r.key.feed }

-- the seat of a row whose ids have numbers
abbrev pub seat_in : Numbers → Numbers → Numbers → pairs.PairRow → Option Seat
seat_in ids trips vehicles r = option_and_then (λ id. option_and_then (λ trip. option_map (seat_of r id trip) (numbered vehicles r.vehicle)) (numbered trips r.trip)) (ids r.key.id)

abbrev pub seat_cmp : Seat → Seat → Ordering
seat_cmp a b = ordering_then (kind_cmp a.kind b.kind) (ordering_then (option_cmp nat_cmp a.trip b.trip) (ordering_then (option_cmp nat_cmp a.vehicle b.vehicle)
    (ordering_then (nat_cmp a.id b.id) (ordering_then (nat_cmp a.occurrence b.occurrence) (nat_cmp a.feed b.feed)))))

abbrev pub low_seat : Kind → Option ℕ → Option ℕ → Seat
low_seat kind trip vehicle = record { kind = kind; trip = trip; vehicle = vehicle; id = 0; occurrence = 0; feed = 0 }

abbrev pub is_pair : Kind → ℕ → ℕ → Seat → Bool
is_pair kind trip vehicle s = same_kind s.kind kind && is_number trip s.trip && is_number vehicle s.vehicle

-- ---- the rows at seats
abbrev pub row_at : Seat × Rc Held Global → pairs.PairRow
row_at e = held_row e.0.kind e.1.value

abbrev pub rows_of : List (Seat × Rc Held Global) → List pairs.PairRow
rows_of es = in_order (map row_at es)

-- each row is at its seat
abbrev pub AreSeated : Numbers → Numbers → Numbers → List (Seat × Rc Held Global) → Type 0
AreSeated ids trips vehicles es = AllByRecursion (λ e. seat_in ids trips vehicles (row_at e) ≡ Some e.0) es
