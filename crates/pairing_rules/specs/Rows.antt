-- The rows of an index, as pairing rows are defined, and their order.
-- (GTFS Realtime Reference 2.0, "TripDescriptor" and "VehicleDescriptor"; the rows are this profile's.)
use Rattle.std.specs.Prelude.{ℕ, List, [], ◌∷◌, Option}
use Rattle.std.specs.declared.cmp.Ordering.{Ordering}
use Rattle.std.specs.Ordering.{nat_cmp, ordering_then}
use Rattle.std.specs.Option.{option_cmp}
use Rattle.std.specs.Cmp.Lexicographic.{slice_cmp}
use Rattle.std.specs.BTreeSet.{insert_key}
use Rattle.rule_table.specs.declared.kind.Kind.{Kind}
use Rattle.rule_table.specs.Kinds.{kind_cmp}
use Rattle.rule_table.specs.Order.{key_cmp}
use Rattle.rule_table.specs.Pairs as pairs
use Rattle.pairing_rules.specs.declared.row.PairRow.{PairRow}
use Rattle.pairing_rules.specs.declared.held.Held.{Held}

-- the row that a value stands for
abbrev pub pair_row : PairRow → pairs.PairRow
pair_row r = record { kind = r.kind; key = record { feed = r.feed; id = r.id; occurrence = r.occurrence }; trip = r.trip; vehicle = r.vehicle }

-- the row that is held under a kind
abbrev pub held_row : Kind → Held → pairs.PairRow
held_row kind h = record { kind = kind; key = h.key; trip = h.trip; vehicle = h.vehicle }

-- ids byte by byte, and before them what isn't given
abbrev pub id_cmp : Option (List ℕ) → Option (List ℕ) → Ordering
id_cmp = option_cmp (slice_cmp nat_cmp)

-- by kind, then the key of the entity, and then the ids given
abbrev pub row_cmp : pairs.PairRow → pairs.PairRow → Ordering
row_cmp a b = ordering_then (kind_cmp a.kind b.kind) (ordering_then (key_cmp a.key b.key) (ordering_then (id_cmp a.trip b.trip) (id_cmp a.vehicle b.vehicle)))

-- rows in their order, each once
abbrev pub in_order : List pairs.PairRow → List pairs.PairRow
in_order [] = []
in_order (r ∷ rs) = insert_key row_cmp (in_order rs) r
