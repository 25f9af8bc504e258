-- The stop times of a trip by sequence.
use Rattle.std.specs.Prelude.{◌≡◌, ◌<◌, ◌≤◌, ℕ, List, length, map, slice_index_or, IsTrue, Option, Some, None, [], is_some, option_map, unwrap_or, if◌then◌else◌, refl}
use Rattle.std.specs.BTreeMap.{BTreeMap}
use Rattle.std.specs.Coded.{Coded, code_by, coded×, coded_ℕ, coded_option}
use Rattle.std.specs.Ordering.{nat_cmp}
use Rattle.std.specs.FinMap.{FinMap, empty, from_entries, get, insert, is_sorted}
use Rattle.schedule_tables.specs.Maps.{Grouping}
use Rattle.schedule_tables.specs.declared.stop_time.StopTime.{StopTime}

abbrev pub BySequence : Type 0
BySequence = FinMap nat_cmp StopTime

-- a trip may have one stop time of each sequence
abbrev pub sequences : Grouping StopTime BySequence
sequences = record {
  first = λ time. insert empty time.sequence time;
  more = λ times time. if is_some (get times time.sequence) then None else Some (insert times time.sequence time);
}

-- stop times beside their sequences
abbrev pub keyed : List StopTime → List (ℕ × StopTime)
keyed ts = map (λ t. (t.sequence, t)) ts

-- each stop time stands under its sequence
abbrev pub AreKeyed : List (ℕ × StopTime) → Type 0
AreKeyed entries = keyed (map (λ entry. entry.1) entries) ≡ entries

-- the map of entries, where the first of a repeated sequence counts
abbrev pub by_sequence : List (ℕ × StopTime) → BySequence
by_sequence entries = from_entries entries

-- the entries of a map, none where it is absent
abbrev pub entries_in : Option (BTreeMap ℕ StopTime) → List (ℕ × StopTime)
entries_in times = unwrap_or (option_map (λ map. map.entries) times) []

-- the sequences strictly rise
abbrev pub AreRising : List StopTime → Type 0
AreRising ts = IsTrue (is_sorted nat_cmp (keyed ts))

abbrev pub no_time : StopTime
no_time = record { sequence = 0; stop = 0; arrival = None; departure = None }

-- the sequence at a place
abbrev pub sequence_at : List StopTime → ℕ → ℕ
sequence_at ts i = let t = slice_index_or ts i no_time in t.sequence

-- the stop time at a place has the sequence
pub record StandsAt (ts : List StopTime) (sequence i : ℕ) : Type 0 where
  pub in_range : i < length ts
  pub has : sequence_at ts i ≡ sequence

-- the sequence would go at a place: smaller ones stand before it, and greater ones from it on
pub record IsGapFor (ts : List StopTime) (sequence i : ℕ) : Type 0 where
  pub in_range : i ≤ length ts
  pub smaller : (j : ℕ) → j < i → sequence_at ts j < sequence
  pub greater : (j : ℕ) → i ≤ j → j < length ts → sequence < sequence_at ts j

-- a stop time as pairs of numbers
abbrev pub stop_time_code : Coded StopTime
stop_time_code =
    code_by ((ℕ × ℕ) × (Option ℕ × Option ℕ)) (coded× (coded× coded_ℕ coded_ℕ) (coded× (coded_option coded_ℕ) (coded_option coded_ℕ)))
    (λ t. ((t.sequence, t.stop), (t.arrival, t.departure)))
    (λ p. record { sequence = p.0.0; stop = p.0.1; arrival = p.1.0; departure = p.1.1 }) (λ _. refl)
