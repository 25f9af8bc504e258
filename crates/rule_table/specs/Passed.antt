-- The tests of the rules, on the values of cited facts. (This profile; times and dates are those of the GTFS Schedule
-- Reference, "Field Types".)
use Rattle.std.specs.Prelude.{ℕ, ◌==◌, ℤ, pos, int_le, ◌+ℤ◌, Bool, true, false, not, ◌&&◌, ◌||◌, List, Option, Some, None, bytes_eq, is_some, nat_le, codes, if◌then◌else◌}
use Rattle.std.specs.Ordering.{int_eq}
use Rattle.std.specs.List.{list_all, before_first, after_first}
use Rattle.rt_day.specs.Digits.{number_of}
use Rattle.rt_day.specs.Time.{is_colon, sixtieth_of, time_of}
use Rattle.rt_day.specs.Date.{date_of}
use Rattle.feed_values.specs.declared.cell_value.CellValue.{CellValue}
use Rattle.feed_values.specs.declared.cell_value.CellValue.TheVariants as value
use Rattle.rule_table.specs.declared.place.Place.{Place}
use Rattle.rule_table.specs.declared.place.Place.TheVariants as place
use Rattle.rule_table.specs.declared.row.Atom.{Atom}
use Rattle.rule_table.specs.declared.row.Atom.TheVariants.{Given, Missing, Is, IsNot, AtLeast, AnyMissing, Outside, NotBelow, Below, Above, Equal, Differ, IsTime, NotClock, NotDate, TimeDiffers, NotLater, NotVersion, IsVersion2, NotVersion2, NotItself}
use Rattle.rule_table.specs.Asked.{value_at, text_at, number_at, number_in}

abbrev pub is_given : CellValue → Bool
is_given value.Missing = false
is_given _ = true

abbrev pub same_cell : CellValue → CellValue → Bool
same_cell value.Missing value.Missing = true
same_cell (value.Number a) (value.Number b) = int_eq a b
same_cell (value.Text a) (value.Text b) = bytes_eq a b
same_cell _ _ = false

-- whether it is a number, and passes
abbrev pub number_is : (ℤ → Bool) → Option ℤ → Bool
number_is test None = false
number_is test (Some n) = test n

-- whether both are numbers, and pass
abbrev pub numbers_are : (ℤ → ℤ → Bool) → Option ℤ → Option ℤ → Bool
numbers_are test a b = number_is (λ x. number_is (test x) b) a

abbrev pub is_number : ℕ → CellValue → Bool
is_number n v = number_is (λ m. int_eq m (pos n)) (number_in v)

-- whether it is a text, and passes
abbrev pub text_is : (List ℕ → Bool) → Option (List ℕ) → Bool
text_is test None = false
text_is test (Some t) = test t

-- the second where it is given, and else the first
abbrev pub given_or : CellValue → CellValue → CellValue
given_or a value.Missing = a
given_or a b = b

-- two or three digits, a colon, two digits up to 59, a colon, two digits up to 59
abbrev pub is_clock : List ℕ → Bool
is_clock text =
    let rest = after_first is_colon text in
    is_some (number_of 2 3 (before_first is_colon text)) && is_some (sixtieth_of (before_first is_colon rest)) && is_some (sixtieth_of (after_first is_colon rest))

-- whether a time of a service day isn't the number of seconds
abbrev pub is_other_time : CellValue → Option ℕ → Bool
is_other_time v None = false
is_other_time v (Some seconds) = is_given v && not (is_number seconds v)

-- whether an entity at the place has an id and an occurrence
abbrev pub is_itself : Place → Option (List ℕ) → CellValue → Bool
is_itself (place.Head feed slot) id occurrence = false
is_itself (place.Entity key path) id occurrence = text_is (λ t. bytes_eq t key.id) id && is_number key.occurrence occurrence

-- whether a condition holds of the values of the facts that were cited at a place
abbrev pub holds : Place → List CellValue → Atom → Bool
holds at vs (Given k) = is_given (value_at vs k)
holds at vs (Missing k) = not (is_given (value_at vs k))
holds at vs (Is k n) = is_number n (value_at vs k)
holds at vs (IsNot k n) = not (is_number n (value_at vs k))
holds at vs (AtLeast k n) = number_is (λ x. int_le (pos n) x) (number_at vs k)
holds at vs (AnyMissing j k) = not (is_given (value_at vs j)) || not (is_given (value_at vs k))
holds at vs (Outside k low high) = number_is (λ x. not (int_le (pos low) x && int_le x (pos high))) (number_at vs k)
holds at vs (NotBelow j k) = numbers_are (λ x y. int_le y x) (number_at vs j) (number_at vs k)
holds at vs (Below j k) = numbers_are (λ x y. not (int_le y x)) (number_at vs j) (number_at vs k)
holds at vs (Above j k n) = numbers_are (λ x y. not (int_le x (y +ℤ pos n))) (number_at vs j) (number_at vs k)
holds at vs (Equal j k) = is_given (value_at vs j) && same_cell (value_at vs j) (value_at vs k)
holds at vs (Differ j k) = is_given (value_at vs j) && is_given (value_at vs k) && not (same_cell (value_at vs j) (value_at vs k))
holds at vs (IsTime k) = text_is (λ t. is_some (time_of t)) (text_at vs k)
holds at vs (NotClock k) = is_given (value_at vs k) && not (text_is is_clock (text_at vs k))
holds at vs (NotDate k) = is_given (value_at vs k) && not (text_is (λ t. is_some (date_of t)) (text_at vs k))
holds at vs (TimeDiffers j k) = text_is (λ t. is_other_time (value_at vs k) (time_of t)) (text_at vs j)
holds at vs (NotLater a b c d) = numbers_are (λ x y. int_le y x) (number_in (given_or (value_at vs a) (value_at vs b))) (number_in (given_or (value_at vs d) (value_at vs c)))
holds at vs (NotVersion k) = not (text_is (λ t. bytes_eq t (codes "1.0")) (text_at vs k)) && not (text_is (λ t. bytes_eq t (codes "2.0")) (text_at vs k))
holds at vs (IsVersion2 k) = text_is (λ t. bytes_eq t (codes "2.0")) (text_at vs k)
holds at vs (NotVersion2 k) = not (text_is (λ t. bytes_eq t (codes "2.0")) (text_at vs k))
holds at vs (NotItself j k) = not (is_itself at (text_at vs j) (value_at vs k))

-- whether all conditions of a test hold
abbrev pub passes : Place → List Atom → List CellValue → Bool
passes at atoms vs = list_all (holds at vs) atoms

-- ---- a test as far as its facts go
abbrev pub later : ℕ → ℕ → ℕ
later j k = if nat_le j k then k else j

-- the last fact that a condition speaks of
abbrev pub last_of : Atom → ℕ
last_of (Given k) = k
last_of (Missing k) = k
last_of (Is k n) = k
last_of (IsNot k n) = k
last_of (AtLeast k n) = k
last_of (AnyMissing j k) = later j k
last_of (Outside k low high) = k
last_of (NotBelow j k) = later j k
last_of (Below j k) = later j k
last_of (Above j k n) = later j k
last_of (Equal j k) = later j k
last_of (Differ j k) = later j k
last_of (IsTime k) = k
last_of (NotClock k) = k
last_of (NotDate k) = k
last_of (TimeDiffers j k) = later j k
last_of (NotLater a b c d) = later (later a b) (later c d)
last_of (NotVersion k) = k
last_of (IsVersion2 k) = k
last_of (NotVersion2 k) = k
last_of (NotItself j k) = later j k

-- whether no condition whose last fact has a number is false
abbrev pub passes_by : Place → ℕ → List Atom → List CellValue → Bool
passes_by at n atoms vs = list_all (λ a. not (last_of a == n) || holds at vs a) atoms
