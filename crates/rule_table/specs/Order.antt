-- Entities and places by name, and their order.
use Rattle.std.specs.Prelude.{ℕ, ◌==◌, Bool, false, ◌&&◌, bytes_eq}
use Rattle.std.specs.declared.cmp.Ordering.{Ordering}
use Rattle.std.specs.Ordering.{nat_cmp, ordering_then}
use Rattle.std.specs.Cmp.Lexicographic.{slice_cmp}
use Rattle.feed_values.specs.declared.slot.Slot.{Slot}
use Rattle.feed_values.specs.declared.slot.Slot.TheVariants.{S1, S2, S3, S4, S10, S11, S20, S21, S22, S23, S24, S25, S26, S27, S28, S29, S30, S31, S32, S33, S34, S35, S36, S37, S38, S39, S40, S41, S42, S43, S44, S50, S51, S52, S53, S54, S55, S56, S57, S58, S59, S60, S70, S71, S72, S73, S74, S75, S76, S77, S78, S79, S80, S81, S82, S83, S84, S85}
use Rattle.feed_values.specs.declared.path.Path.{Path}
use Rattle.rule_table.specs.declared.key.EntityKey.{EntityKey}
use Rattle.rule_table.specs.declared.place.Place.{Place}
use Rattle.rule_table.specs.declared.place.Place.TheVariants as place

-- entities by feed, then id, byte by byte, then occurrence
abbrev pub key_cmp : EntityKey → EntityKey → Ordering
key_cmp a b = ordering_then (nat_cmp a.feed b.feed) (ordering_then (slice_cmp nat_cmp a.id b.id) (nat_cmp a.occurrence b.occurrence))

abbrev pub same_key : EntityKey → EntityKey → Bool
same_key a b = a.feed == b.feed && bytes_eq a.id b.id && (a.occurrence == b.occurrence)

-- the number in a slot's name
abbrev pub slot_number : Slot → ℕ
slot_number S1 = 1
slot_number S2 = 2
slot_number S3 = 3
slot_number S4 = 4
slot_number S10 = 10
slot_number S11 = 11
slot_number S20 = 20
slot_number S21 = 21
slot_number S22 = 22
slot_number S23 = 23
slot_number S24 = 24
slot_number S25 = 25
slot_number S26 = 26
slot_number S27 = 27
slot_number S28 = 28
slot_number S29 = 29
slot_number S30 = 30
slot_number S31 = 31
slot_number S32 = 32
slot_number S33 = 33
slot_number S34 = 34
slot_number S35 = 35
slot_number S36 = 36
slot_number S37 = 37
slot_number S38 = 38
slot_number S39 = 39
slot_number S40 = 40
slot_number S41 = 41
slot_number S42 = 42
slot_number S43 = 43
slot_number S44 = 44
slot_number S50 = 50
slot_number S51 = 51
slot_number S52 = 52
slot_number S53 = 53
slot_number S54 = 54
slot_number S55 = 55
slot_number S56 = 56
slot_number S57 = 57
slot_number S58 = 58
slot_number S59 = 59
slot_number S60 = 60
slot_number S70 = 70
slot_number S71 = 71
slot_number S72 = 72
slot_number S73 = 73
slot_number S74 = 74
slot_number S75 = 75
slot_number S76 = 76
slot_number S77 = 77
slot_number S78 = 78
slot_number S79 = 79
slot_number S80 = 80
slot_number S81 = 81
slot_number S82 = 82
slot_number S83 = 83
slot_number S84 = 84
slot_number S85 = 85

abbrev pub same_path : Path → Path → Bool
same_path a b = slot_number a.slot == slot_number b.slot && (a.index == b.index)

abbrev pub same_place : Place → Place → Bool
same_place (place.Head f s) (place.Head g t) = f == g && (slot_number s == slot_number t)
same_place (place.Entity k p) (place.Entity l q) = same_key k l && same_path p q
same_place _ _ = false
