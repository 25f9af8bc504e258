-- Rows under numbers.
use Rattle.std.specs.Prelude.{ℕ, Bool, false, ◌==◌, ◌&&◌, ◌||◌, List, Option, Some, None, map, option_map, option_and_then, filter}
use Rattle.std.specs.declared.cmp.Ordering.{Ordering}
use Rattle.std.specs.Ordering.{nat_cmp, ordering_then}
use Rattle.std.specs.Option.{option_cmp}
use Rattle.std.specs.BTreeSet.{BTreeSet}
use Rattle.std.specs.List.{list_any}
use Rattle.rule_table.specs.declared.kind.Kind.{Kind}
use Rattle.rule_table.specs.declared.key.EntityKey.{EntityKey}
use Rattle.rule_table.specs.declared.kind.Kind.TheVariants as kind
use Rattle.rule_table.specs.Order.{key_cmp, same_key}
use Rattle.rule_table.specs.Kinds.{kind_cmp, same_kind}
use Rattle.rule_table.specs.Pairs.{PairRow}
use Rattle.pairing_rules.specs.declared.entry.Entry.{Entry}
use Rattle.pairing_rules.specs.declared.held.Held.{Held}
use Rattle.pairing_rules.specs.Rows.{held_row, id_cmp, row_cmp}

-- a feed, and a row of it
pub record Seen : Type 0 where
  pub feed : ℕ
  pub row : Option PairRow

abbrev pub seen : Entry → Seen
seen e = record { feed = e.feed; row = option_map (λ h. held_row e.kind h.value) e.row }

-- of what is seen, the vehicle id and the key
abbrev pub vehicle_in : Seen → Option (List ℕ)
vehicle_in s = option_and_then (λ r. r.vehicle) s.row

abbrev pub key_in : Seen → Option EntityKey
key_in s = option_map (λ r. r.key) s.row

abbrev pub seen_cmp : Seen → Seen → Ordering
seen_cmp a b = ordering_then (nat_cmp a.feed b.feed) (option_cmp row_cmp a.row b.row)

-- as a row is seen where it is held
abbrev pub shown : PairRow → Seen
shown r = record { feed = r.key.feed; row = Some r }

abbrev pub held_cmp : Held → Held → Ordering
held_cmp a b = ordering_then (key_cmp a.key b.key) (ordering_then (id_cmp a.trip b.trip) (id_cmp a.vehicle b.vehicle))

-- by place, then feed and row
abbrev pub entry_cmp : Entry → Entry → Ordering
entry_cmp a b = ordering_then (nat_cmp a.number b.number) (ordering_then (kind_cmp a.kind b.kind) (ordering_then (nat_cmp a.feed b.feed) (option_cmp (λ x y. held_cmp x.value y.value) a.row b.row)))

abbrev pub low : ℕ → Kind → ℕ → Entry
low number kind feed = record { number = number; kind = kind; feed = feed; row = None }

-- whether an entry stands at a place
abbrev pub at_place : ℕ → Kind → Entry → Bool
at_place number kind e = e.number == number && same_kind e.kind kind

-- what is seen at a place, in order
abbrev pub seen_at : BTreeSet Entry → ℕ → Kind → List Seen
seen_at entries number kind = map seen (filter (at_place number kind) entries.keys)

-- ---- the keys of rows
abbrev pub is_key : EntityKey → Option PairRow → Bool
is_key key None = false
is_key key (Some r) = same_key key r.key

-- whether what is seen is a row of a key
abbrev pub has_key : EntityKey → Seen → Bool
has_key key s = is_key key s.row

-- whether a row under a number, of either kind, is of a key
abbrev pub has_key_at : BTreeSet Entry → ℕ → EntityKey → Bool
has_key_at entries number key = list_any (has_key key) (seen_at entries number kind.TripUpdate) || list_any (has_key key) (seen_at entries number kind.Vehicle)

abbrev pub has_given_key : BTreeSet Entry → Option ℕ → EntityKey → Bool
has_given_key entries None key = false
has_given_key entries (Some number) key = has_key_at entries number key
