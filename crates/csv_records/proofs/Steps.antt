-- What a step of a reader of a slice does to the records that are left.
use Rattle.std.proofs.Common.{◌≡◌, ℕ, List, [], ◌∷◌, Option, Some, true, false, refl, sym, ap, ◌∙◌, Bor, unwrap_or}
use Rattle.csv.specs.Machine.{ends_at_end}
use Rattle.csv.specs.Reading.{ReadRecord, Reached, ReadsOn, default_config, reader_config, reader_state}
use Rattle.csv.specs.declared.parser.State.{State}
use Rattle.csv.proofs.ReadFacts.{rows-end, rows-more}
use Rattle.csv_records.specs.Records.{Record, left_from}
use Rattle.csv_records.specs.Reading.{IsReading, SliceReader, left_of, unread}
use Rattle.csv_records.proofs.Left.{left-none, left-some, next_leaves}

abbrev Bytes : Bor (List ℕ) → Option (List ℕ)
Bytes s = Some s.now

record Took (a b : SliceReader) (fields : Record) (y : List ℕ) : Type 0 where
  after : List ℕ
  known : unread b ≡ Some after
  left : left_from (reader_state a) y ≡ fields ∷ left_from (reader_state b) after
  between : ends_at_end (reader_state b) ≡ false

-- one record that was reached is the first of those that were left
one_reached : (s s2 : State) (y z : List ℕ) (fields : Record) → ends_at_end s ≡ false → Reached default_config s y (fields ∷ []) s2 z
    → (left_from s y ≡ fields ∷ left_from s2 z) × (ends_at_end s2 ≡ false)
unfolding Reached
one_reached s s2 y z fields between (p, is, same, ends) =
    let leaves = next_leaves s [] [] y p is in
    (left-some s y p is between ∙ rw (same, ends.0, ends.1) refl, rw (← ends.0) leaves.between)

start : (s : State) (xs : List ℕ) → Reached default_config s xs [] s xs
unfolding Reached
start s xs = (refl, refl)

took : (a b : SliceReader) (fields : Record) (y : List ℕ) → reader_config a ≡ default_config → unread a ≡ Some y → ends_at_end (reader_state a) ≡ false
    → ReadRecord Bytes a b true fields → Took a b fields y
took a b fields y plain known between r =
    let m = rows-more Bytes a b fields default_config (reader_state a) y y [] plain known (start (reader_state a) y) r in
    let first = one_reached (reader_state a) (reader_state b) y m.0 fields between m.2 in
    record { after = m.0; known = m.1; left = first.0; between = first.1 }

-- after a row the reader reads on
pub reads_on : (a b : SliceReader) (fields : Record) → IsReading a → ReadRecord Bytes a b true fields → ReadsOn a b → IsReading b
reads_on a b fields old step on =
    let t = took a b fields (unwrap_or (unread a) []) old.plain old.known old.between step in
    record {
      untrimmed = on.1 ∙ old.untrimmed;
      ready = (on.4 old.ready).0;
      plain = on.0 ∙ old.plain;
      lenient = on.2 ∙ old.lenient;
      known = t.known ∙ ap Some (sym (ap (λ o. unwrap_or o []) t.known));
      between = t.between;
    }

-- the row was the first of those that were left
pub row_was_first : (a b : SliceReader) (fields : Record) → IsReading a → ReadRecord Bytes a b true fields → left_of a ≡ fields ∷ left_of b
row_was_first a b fields old step =
    let t = took a b fields (unwrap_or (unread a) []) old.plain old.known old.between step in
    rw t.known t.left

-- where there was no row, none was left
pub none_was_left : (a b : SliceReader) (fields : Record) → IsReading a → ReadRecord Bytes a b false fields → left_of a ≡ []
none_was_left a b fields old step = left-none _ _ (rows-end Bytes a b fields default_config (unwrap_or (unread a) []) old.plain old.known step)
