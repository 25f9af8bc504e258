-- Trips that visit a stop twice.
use Rattle.std.proofs.Common.{◌≡◌, List, [], false, Some, None, map, unwrap_or, sym, ap, ◌∙◌}
use Rattle.std.specs.FinMap.{empty, entries, get}
use Rattle.schedule_tables.specs.Maps.{Text}
use Rattle.schedule_tables.specs.Stops.{StopTable}
use Rattle.schedule_tables.specs.Times.{BySequence, keyed}
use Rattle.timetable.specs.Timetables.{returns_to, trip_times, visits_twice}
use Rattle.schedule_tables.proofs.RowLemmas.{unkeyed}
use Rattle.schedule_tables.proofs.SequenceLemmas.{entries-empty}
use Rattle.schedule_tables.specs.declared.stop_time.StopTime.{StopTime}

-- the stop times of a trip, by rising sequence, tell
pub returns_to-entries : (table : StopTable) (id : Text) (trip : BySequence) (ts : List StopTime) → Some trip ≡ get table.times id → keyed ts ≡ entries trip
    → returns_to [] ts ≡ visits_twice (trip_times table id)
returns_to-entries table id trip ts held same =
    ap (returns_to []) (sym (unkeyed ts) ∙ ap (map (λ e. e.1)) same) ∙ ap (λ o. visits_twice (unwrap_or o empty)) held

-- a trip without stop times visits none twice
pub no_stop_times : (table : StopTable) (id : Text) → None ≡ get table.times id → false ≡ visits_twice (trip_times table id)
no_stop_times table id none = sym (ap (λ es. returns_to [] (map (λ e. e.1) es)) entries-empty) ∙ ap (λ o. visits_twice (unwrap_or o empty)) none
