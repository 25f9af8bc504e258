-- Stop times hold the rows of stop_times.txt.
use Rattle.std.proofs.Common.{◌≡◌, ◌<◌, ◌≤◌, ◌+◌, ◌==◌, ◌&&◌, ◌++◌, ℕ, zero, suc, List, [], ◌∷◌, length, slice_get, unwrap_or, Bool, true, false, cond, Option, Some, None, Err, option_map, find, nat_cmp, refl, sym, ap, ◌∙◌, subst, arith, length-append}
use Rattle.std.proofs.lemmas.Cmp.{nat_cmp_total, nat_list_eq_equiv}
use Rattle.std.proofs.lemmas.Map.Keys.{IsDistinct-push}
use Rattle.std.proofs.lemmas.List.Folds.{find-append}
use Rattle.std.specs.Cmp.{unsigned_tied}
use Rattle.std.specs.FinMap.{empty, get, get-empty, get-insert, insert, nat_cmp-IsAntisymmetric}
use Rattle.std.specs.List.{IsDistinct, list_any}
use Rattle.std.specs.Option.{option_and_then, option_or}
use Rattle.std.specs.Ordering.{eq_by_cmp}
use Rattle.std.specs.Str.{bytes_eq}
use Rattle.schedule_tables.specs.Formats.{by_id}
use Rattle.schedule_tables.specs.Laws.{Keys, row_keys}
use Rattle.schedule_tables.specs.Maps.{ByText, Text, text_cmp}
use Rattle.schedule_tables.specs.Stops.{HaveStops, HoldsVisits, StopTable, ids_with, number_in, stop_time_at, stop_time_of, visit_key, visit_of, visits}
use Rattle.schedule_tables.specs.Times.{BySequence, sequences}
use Rattle.schedule_rows.specs.declared.cell_fault.CellFault.TheVariants.{NotText}
use Rattle.schedule_rows.specs.declared.visit.Visit.{Visit}
use Rattle.schedule_rows.specs.declared.row.Row.{Row}
use Rattle.schedule_tables.specs.declared.stop_time.StopTime.{StopTime}
use Rattle.schedule_tables.proofs.KeyLemmas.{KeepsItems, KeepsKeys, find-alike, keyed_by_id, one_text, or_none}
use Rattle.schedule_tables.proofs.KeyedLemmas.{one_key}
use Rattle.schedule_tables.proofs.LawLemmas.{Adds, Keeps}

-- ---- numbers of ids

-- what a list of ids with one more says of numbers
record Numbers (ids : List Text) (id : Text) : Type 0 where
  longer : length ids ≤ length (ids_with ids id)
  within : number_in ids id < length (ids_with ids id)
  named : slice_get (ids_with ids id) (number_in ids id) ≡ Some id
  kept : (n : ℕ) → n < length ids → slice_get (ids_with ids id) n ≡ slice_get ids n

slice_get-front : {X : Type 0} (xs ys : List X) (n : ℕ) → n < length xs → slice_get (xs ++ ys) n ≡ slice_get xs n
slice_get-front [] ys n h = absurd (omega arith)
slice_get-front (x ∷ xs) ys zero h = refl
slice_get-front (x ∷ xs) ys (suc n) h = slice_get-front xs ys n (omega arith)

slice_get-end : {X : Type 0} (xs : List X) (x : X) → slice_get (xs ++ x ∷ []) (length xs) ≡ Some x
slice_get-end [] x = refl
slice_get-end (y ∷ ys) x = slice_get-end ys x

-- the number of an id that is there is its place
there : (ids : List Text) (id : Text) → list_any (bytes_eq id) ids ≡ true → (number_in ids id < length ids) × (slice_get ids (number_in ids id) ≡ Some id)
there [] id h = cc h
there (x ∷ xs) id h = by (bytes_eq id x) refl (there xs id)
  where
    by : (b : Bool) → bytes_eq id x ≡ b → (list_any (bytes_eq id) xs ≡ true → (number_in xs id < length xs) × (slice_get xs (number_in xs id) ≡ Some id))
        → (number_in (x ∷ xs) id < length (x ∷ xs)) × (slice_get (x ∷ xs) (number_in (x ∷ xs) id) ≡ Some id)
    by true is later = rw is (omega arith, ap Some (sym (one_text id x is)))
    by false is later =
        let rest = later (rw is at h) in
        let next : suc (number_in xs id) ≡ 1 + number_in xs id = omega arith in
        rw is (omega (arith, rest.0), subst (λ n. slice_get (x ∷ xs) n ≡ Some id) next rest.1)

-- and that of a new one the length
gone : (ids : List Text) (id : Text) → list_any (bytes_eq id) ids ≡ false → number_in ids id ≡ length ids
gone [] id h = refl
gone (x ∷ xs) id h = by (bytes_eq id x) refl (gone xs id)
  where
    by : (b : Bool) → bytes_eq id x ≡ b → (list_any (bytes_eq id) xs ≡ false → number_in xs id ≡ length xs) → number_in (x ∷ xs) id ≡ length (x ∷ xs)
    by true is later = let h' = rw is at h in cc h'
    by false is later = let rest = later (rw is at h) in rw is (omega (arith, rest))

numbers : (ids : List Text) (id : Text) → Numbers ids id
numbers ids id = by (list_any (bytes_eq id) ids) refl
  where
    by : (b : Bool) → list_any (bytes_eq id) ids ≡ b → Numbers ids id
    by true is =
        let place = there ids id is in
        record { longer = rw is (omega arith); within = rw is place.0; named = rw is place.1; kept = λ n h. rw is refl }
    by false is =
        let last = gone ids id is in
        let size = length-append ids (id ∷ []) in
        record {
          longer = rw is (omega (arith, size));
          within = rw is (omega (arith, size, last));
          named = rw (is, last) (slice_get-end ids id);
          kept = λ n h. rw is (slice_get-front ids (id ∷ []) n h);
        }

-- no id has two numbers
no_ids : IsDistinct bytes_eq []
unfolding IsDistinct
no_ids = tt

distinct_with : (ids : List Text) (id : Text) → IsDistinct bytes_eq ids → IsDistinct bytes_eq (ids_with ids id)
distinct_with ids id distinct = by (list_any (bytes_eq id) ids) refl
  where
    by : (b : Bool) → list_any (bytes_eq id) ids ≡ b → IsDistinct bytes_eq (cond b ids (ids ++ id ∷ []))
    by true is = distinct
    by false is = IsDistinct-push nat_list_eq_equiv ids id distinct is

-- ---- stop times by sequence

-- a trip has one stop time of each sequence
abbrev pub sequence_key : Keys StopTime BySequence StopTime
sequence_key = record { same = λ a b. a.sequence == b.sequence; record_of = λ time. time; held = λ times time. get times time.sequence }

keeps_sequences : KeepsItems sequences sequence_key
keeps_sequences = record {
  first = λ item other. get-insert nat_cmp_total empty item.sequence item other.sequence
      ∙ ap (cond (eq_by_cmp nat_cmp other.sequence item.sequence) (Some item)) (get-empty nat_cmp other.sequence)
      ∙ ap (λ b. cond b (Some item) None) (unsigned_tied other.sequence item.sequence);
  fresh = λ times item free. record {
    more = insert times item.sequence item;
    grown = rw free refl;
    held = λ other. get-insert nat_cmp_total times item.sequence item other.sequence
        ∙ ap (λ b. cond b (Some item) (get times other.sequence)) (unsigned_tied other.sequence item.sequence);
  };
  repeated = λ times item v there. rw there refl;
  alike = λ a b x same. ap (λ n. n == x.sequence) (one_key nat_cmp nat_cmp-IsAntisymmetric a.sequence b.sequence (unsigned_tied a.sequence b.sequence ∙ same));
}

-- a row with a stop's number
abbrev numbered : Row Visit → ℕ → Row StopTime
numbered row stop = record { id = row.id; item = stop_time_of row.item stop }

by_trip : KeepsKeys (by_id visits.file (λ cells. Err NotText) sequences) (row_keys sequence_key)
by_trip = keyed_by_id visits.file (λ cells. Err NotText) sequences sequence_key keeps_sequences

unmapped : {X Y : Type 0} (f : X → Y) (o : Option X) → option_map f o ≡ None → o ≡ None
unmapped f None h = refl
unmapped f (Some x) h = cc h

mapped : {X Y : Type 0} (f : X → Y) (o : Option X) (y : Y) → option_map f o ≡ Some y → (x : X) × (o ≡ Some x)
mapped f None y h = cc h
mapped f (Some x) y h = (x, refl)

-- the table with a row of a new key holds it, and has a stop for it
holds_visit : (table : StopTable) (done : List (Row Visit)) (row : Row Visit) → HoldsVisits table done → find (visit_key.same row) done ≡ None → Adds visits HoldsVisits table done row
holds_visit table done row holds new =
    let stop = number_in table.stops row.item.stop in
    let free = unmapped (visit_of table.stops) (stop_time_at table.times row.id row.item.sequence) (holds.held row ∙ ap (option_map (λ r. r.item)) new) in
    let put = by_trip.fresh table.times (numbered row stop) free in
    let more : StopTable = record { stops = ids_with table.stops row.item.stop; times = put.more } in
    record {
      more = more;
      added = ap (option_map (λ times. record { stops = ids_with table.stops row.item.stop; times = times })) put.added;
      says = record {
        held = λ other. held other put.more put.held (visit_key.same other row) refl;
        stops = λ id sequence time at. stops put.more put.held id sequence time at;
        distinct = distinct_with table.stops row.item.stop holds.distinct;
      };
    }
  where
    n : ℕ
    n = number_in table.stops row.item.stop

    ids : Numbers table.stops row.item.stop
    ids = numbers table.stops row.item.stop

    -- what is held under each trip and sequence after the row
    Put : ByText BySequence → Type 0
    Put times = (other : Row StopTime) → stop_time_at times other.id other.item.sequence
        ≡ cond (bytes_eq other.id row.id && (other.item.sequence == row.item.sequence)) (Some (stop_time_of row.item n)) (stop_time_at table.times other.id other.item.sequence)

    stops : (times : ByText BySequence) → Put times → HaveStops (record { stops = ids_with table.stops row.item.stop; times = times })
    stops times put id sequence time at = by (bytes_eq id row.id && (sequence == row.item.sequence)) (sym (put (record { id = id; item = record { sequence = sequence; stop = 0; arrival = None; departure = None } })) ∙ at)
      where
        by : (b : Bool) → cond b (Some (stop_time_of row.item n)) (stop_time_at table.times id sequence) ≡ Some time → time.stop < length (ids_with table.stops row.item.stop)
        by true is = let same : stop_time_of row.item n ≡ time = cc is in subst (λ t. t.stop < length (ids_with table.stops row.item.stop)) same ids.within
        by false is = let old = holds.stops id sequence time is in omega (arith, old, ids.longer)

    -- stop times that were there keep their stops
    kept : (id : Text) (sequence : ℕ) (o : Option StopTime) → stop_time_at table.times id sequence ≡ o → option_map (visit_of (ids_with table.stops row.item.stop)) o ≡ option_map (visit_of table.stops) o
    kept id sequence None is = refl
    kept id sequence (Some time) is = ap (λ stop. Some (record { stop = unwrap_or stop []; sequence = time.sequence; arrival = time.arrival; departure = time.departure })) (ids.kept time.stop (holds.stops id sequence time is))

    alike : (a b x : Row Visit) → visit_key.same a b ≡ true → visit_key.same a x ≡ visit_key.same b x
    alike a b x same = by_trip.alike (numbered a 0) (numbered b 0) (numbered x 0) same

    held : (other : Row Visit) (times : ByText BySequence) → Put times → (b : Bool) → visit_key.same other row ≡ b
        → option_map (visit_of (ids_with table.stops row.item.stop)) (stop_time_at times other.id other.item.sequence) ≡ option_map (λ r. r.item) (find (visit_key.same other) (done ++ row ∷ []))
    held other times put true is =
        ap (option_map (visit_of (ids_with table.stops row.item.stop))) (put (numbered other 0) ∙ ap (λ b. cond b (Some (stop_time_of row.item n)) (stop_time_at table.times other.id other.item.sequence)) is)
        ∙ ap (λ stop. Some (record { stop = unwrap_or stop []; sequence = row.item.sequence; arrival = row.item.arrival; departure = row.item.departure })) ids.named
        ∙ sym (ap (option_map (λ r. r.item)) (find-append (visit_key.same other) done (row ∷ [])
        ∙ ap (λ o. option_or o (cond (visit_key.same other row) (Some row) None)) (find-alike (visit_key.same other) (visit_key.same row) (λ x. alike other row x is) done ∙ new)
        ∙ ap (λ b. cond b (Some row) None) is))
    held other times put false is =
        ap (option_map (visit_of (ids_with table.stops row.item.stop))) (put (numbered other 0) ∙ ap (λ b. cond b (Some (stop_time_of row.item n)) (stop_time_at table.times other.id other.item.sequence)) is)
        ∙ kept other.id other.item.sequence (stop_time_at table.times other.id other.item.sequence) refl
        ∙ holds.held other
        ∙ sym (ap (option_map (λ r. r.item)) (find-append (visit_key.same other) done (row ∷ [])
        ∙ ap (λ b. option_or (find (visit_key.same other) done) (cond b (Some row) None)) is
        ∙ or_none (find (visit_key.same other) done)))

pub keeps_visits : Keeps visits visit_key.same HoldsVisits
keeps_visits = record {
  empty = record {
    held = λ row. ap (λ o. option_map (visit_of []) (option_and_then (λ trip. get trip row.item.sequence) o)) (get-empty text_cmp row.id);
    distinct = no_ids;
    stops = λ id sequence time at. let none = sym (ap (option_and_then (λ trip. get trip sequence)) (get-empty text_cmp id)) ∙ at in cc none;
  };
  fresh = holds_visit;
  repeated = λ table done row earlier holds there.
      let at = mapped (visit_of table.stops) (stop_time_at table.times row.id row.item.sequence) earlier.item (holds.held row ∙ ap (option_map (λ r. r.item)) there) in
      ap (option_map (λ times. record { stops = ids_with table.stops row.item.stop; times = times }))
      (by_trip.repeated table.times (numbered row (number_in table.stops row.item.stop)) at.0 at.1);
}
