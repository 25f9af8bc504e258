-- What one more snapshot changes: the entities that are judged anew, of which there are four sets.
use Rattle.std.specs.Prelude.{ℕ, ◌+◌, ◌==◌, ℤ, Bool, true, false, not, ◌&&◌, ◌||◌, List, [], ◌∷◌, ◌++◌, filter, Option, Some, None, bytes_eq, if◌then◌else◌}
use Rattle.std.specs.List.{list_any}
use Rattle.std.specs.Ordering.{int_eq}
use Rattle.feed_values.specs.Snapshot.{header_of, timestamp_of, entity_of}
use Rattle.timetable.specs.Timetables.{Tables}
use Rattle.rule_table.specs.declared.kind.Kind.{Kind}
use Rattle.rule_table.specs.declared.kind.Kind.TheVariants as kind
use Rattle.rule_table.specs.declared.key.EntityKey.{EntityKey}
use Rattle.rule_table.specs.declared.place.Place.{Place}
use Rattle.rule_table.specs.declared.place.Place.TheVariants as place
use Rattle.rule_table.specs.declared.rule.RuleId.TheVariants.{E012, E050}
use Rattle.rule_table.specs.Rules.{same_rule}
use Rattle.rule_table.specs.Order.{same_key}
use Rattle.rule_table.specs.Found.{Found}
use Rattle.rule_table.specs.Peaks.{vehicle_id_of}
use Rattle.rule_table.specs.Pairs.{PairRow, rows_of, any_row, has_row, shares}
use Rattle.rule_history.specs.History.{Snapshot, Keyed, now, entities, below, feed_limit}
use Rattle.rule_history.specs.Answered.{rows, payload_under}
use Rattle.rule_history.specs.Findings.{findings}
use Rattle.rule_history.specs.Peaks.{FeedPeaks, peak}

-- A history g and one more snapshot s at its end.
abbrev pub with : List Snapshot → Snapshot → List Snapshot
with g s = g ++ s ∷ []

-- ---- tested: entities that are new or have other bytes
abbrev pub is_payload : List ℕ → Option (List ℕ) → Bool
is_payload payload None = false
is_payload payload (Some other) = bytes_eq payload other

-- whether an entity of the snapshot's feed isn't under its key before, or has another byte string there
abbrev pub in_tested : List Snapshot → Snapshot → Keyed → Bool
in_tested g s e = e.0.feed == s.feed && not (is_payload e.1 (payload_under e.0 (entities g s.feed)))

-- ---- paired: entities to whose ids rows came or went
-- the rows of u that aren't in v
abbrev pub rows_without : List PairRow → List PairRow → List PairRow
rows_without u v = filter (λ r. not (has_row v r)) u

-- the rows that came or went
abbrev pub changed_rows : List PairRow → List PairRow → List PairRow
changed_rows u v = rows_without v u ++ rows_without u v

abbrev pub other : Kind → Kind
other kind.TripUpdate = kind.Vehicle
other kind.Vehicle = kind.TripUpdate

abbrev pub differ : Bool → Bool → Bool
differ true b = not b
differ false b = b

-- whether one of two lists, and not both, has rows of a kind
abbrev pub turns : List PairRow → List PairRow → Kind → Bool
turns u v k = differ (any_row u k) (any_row v k)

-- whether one of an entity's rows shares an id with a row that came or went, or the other kind got its first row or lost its
-- last one
abbrev pub is_paired : List PairRow → List PairRow → List PairRow → Bool
is_paired u v mine = list_any (λ r. list_any (shares r) (changed_rows u v) || turns u v (other r.kind)) mine

abbrev pub in_paired : List Snapshot → Snapshot → Keyed → Bool
in_paired g s e = is_paired (rows g) (rows (with g s)) (rows_of e.0 (entity_of e.1))

-- ---- bounded: entities that a bound concerned or concerns, where a bound moved
abbrev pub same_number : Option ℤ → Option ℤ → Bool
same_number None None = true
same_number (Some a) (Some b) = int_eq a b
same_number _ _ = false

-- whether the last snapshot of the feed has the same header timestamp and moment
abbrev pub keeps_bounds : Snapshot → Option Snapshot → Bool
keeps_bounds s None = false
keeps_bounds s (Some p) = same_number (timestamp_of (header_of s.bytes)) (timestamp_of (header_of p.bytes)) && (s.moment == p.moment)

abbrev pub is_under : EntityKey → Place → Bool
is_under key (place.Head feed slot) = false
is_under key (place.Entity other_key path) = same_key key other_key

-- whether a finding of E012 or E050 stands under a key
abbrev pub is_bound_at : EntityKey → Found → Bool
is_bound_at key f = (same_rule f.rule E012 || same_rule f.rule E050) && is_under key f.place

abbrev pub has_bound : Option Tables → List Snapshot → EntityKey → Bool
has_bound t h key = list_any (is_bound_at key) (findings t h)

abbrev pub in_bounded : Option Tables → List Snapshot → Snapshot → Keyed → Bool
in_bounded t g s e = e.0.feed == s.feed && not (keeps_bounds s (now g s.feed)) && (has_bound t g e.0 || has_bound t (with g s) e.0)

-- ---- peaked: entities whose vehicle's peak is another
abbrev pub same_natural : Option ℕ → Option ℕ → Bool
same_natural None None = true
same_natural (Some a) (Some b) = a == b
same_natural _ _ = false

-- whether a vehicle, if one is given, has another peak
abbrev pub has_moved : FeedPeaks → FeedPeaks → Option (List ℕ) → Bool
has_moved old new None = false
has_moved old new (Some vehicle) = not (same_natural (old vehicle) (new vehicle))

abbrev pub in_peaked : List Snapshot → Snapshot → Keyed → Bool
in_peaked g s e = e.0.feed == s.feed && has_moved (peak g s.feed) (peak (with g s) s.feed) (vehicle_id_of (entity_of e.1))

-- ---- how many there are
abbrev pub count_of : {A : Type 0} → (A → Bool) → List A → ℕ
count_of test [] = 0
count_of test (x ∷ xs) = (if test x then 1 else 0) + count_of test xs

-- the entities of all feeds
abbrev pub all_entities : List Snapshot → List Keyed
all_entities h = below (entities h) feed_limit

abbrev pub tested : List Snapshot → Snapshot → ℕ
tested g s = count_of (in_tested g s) (all_entities (with g s))

abbrev pub paired : List Snapshot → Snapshot → ℕ
paired g s = count_of (λ e. in_tested g s e || in_paired g s e) (all_entities (with g s))

abbrev pub bounded : Option Tables → List Snapshot → Snapshot → ℕ
bounded t g s = count_of (λ e. in_tested g s e || in_bounded t g s e) (all_entities (with g s))

abbrev pub peaked : List Snapshot → Snapshot → ℕ
peaked g s = count_of (λ e. in_tested g s e || in_peaked g s e) (all_entities (with g s))
