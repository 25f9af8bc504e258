-- A search for a column, from one place to the next.
use Rattle.std.proofs.Common.{◌≡◌, ◌<◌, ◌+◌, ℕ, zero, suc, List, [], ◌∷◌, length, drop, Some, unwrap_or, Bool, true, false, refl, sym, ap, add-one, arith, cond}
use Rattle.std.specs.Str.{bytes_eq}
use Rattle.std.specs.List.{position_from}
use Rattle.csv.specs.Records.{field_at}
use Rattle.csv_records.specs.Records.{Record}
use Rattle.schedule_rows.specs.Fields.{field_in, is_named}

drop_field : (fs : Record) (i : ℕ) → i < length fs → drop i fs ≡ unwrap_or (field_at fs i) [] ∷ drop (suc i) fs
unfolding field_at
drop_field [] i h = absurd (omega arith)
drop_field (f ∷ fs) zero h = refl
drop_field (f ∷ fs) (suc i) h = drop_field fs i (omega arith)

one_more : (name : List ℕ) (fs : Record) (i : ℕ) (b : Bool) → i < length fs → bytes_eq name (field_in (Some i) fs) ≡ b
    → position_from (is_named name) i (drop i fs) ≡ cond b (Some i) (position_from (is_named name) (i + 1) (drop (i + 1) fs))
one_more name fs i b h e = rw (drop_field fs i h, add-one i) (ap (λ t. cond t (Some i) (position_from (is_named name) (suc i) (drop (suc i) fs))) e)

pub at_place : (name : List ℕ) (fs : Record) (i : ℕ) → i < length fs → bytes_eq name (field_in (Some i) fs) ≡ true → position_from (is_named name) i (drop i fs) ≡ Some i
at_place name fs i h e = one_more name fs i true h e

pub past_place : (name : List ℕ) (fs : Record) (i : ℕ) → i < length fs → bytes_eq name (field_in (Some i) fs) ≡ false
    → position_from (is_named name) (i + 1) (drop (i + 1) fs) ≡ position_from (is_named name) i (drop i fs)
past_place name fs i h e = sym (one_more name fs i false h e)
