-- Files as rows.
use Rattle.std.proofs.Common.{◌≡◌, ℕ, suc, ◌+◌, ◌<◌, ◌≤◌, List, [], ◌∷◌, ◌++◌, length, take, get_or, refl, sym, ap, ◌∙◌, subst, arith}
use Rattle.std.specs.List.{AllByRecursion}
use Rattle.std.proofs.lemmas.List.{take_more}
use Rattle.feed_list.specs.declared.row.SnapshotRow.{SnapshotRow}
use Rattle.run_rows.specs.Files.{file_rows}
use Rattle.run_rows.specs.Rows.{AreWithinLimits, paths_of}
use Rattle.run_rows.proofs.RowByRow.{length_take}

-- the paths of the rows are the files
pub paths_are : (feed moment : ℕ) (files : List (List ℕ)) → paths_of (file_rows feed moment files) ≡ files
paths_are feed moment [] = refl
paths_are feed moment (file ∷ files) = ap (λ fs. file ∷ fs) (paths_are (feed + 1) moment files)

rows_length : (feed moment : ℕ) (files : List (List ℕ)) → length (file_rows feed moment files) ≡ length files
rows_length feed moment [] = refl
rows_length feed moment (file ∷ files) = ap suc (rows_length (feed + 1) moment files)

feeds_fit : (feed moment : ℕ) (files : List (List ℕ)) → feed + length files ≤ 16 → AllByRecursion (λ row. row.feed < 16) (file_rows feed moment files)
feeds_fit feed moment [] few = tt
feeds_fit feed moment (file ∷ files) few = (omega (arith, few), feeds_fit (feed + 1) moment files (omega (arith, few)))

pub within_limits : (moment : ℕ) (files : List (List ℕ)) → length files ≤ 16 → AreWithinLimits (file_rows 0 moment files)
within_limits moment files few = record { few = subst (λ n. n ≤ 1000000) (sym (rows_length 0 moment files)) (omega (arith, few)); feeds = feeds_fit 0 moment files (omega (arith, few)) }

-- the rows of a front, and then the row of the next file
rows_more : (feed moment : ℕ) (front : List (List ℕ)) (file : List ℕ) →
    file_rows feed moment (front ++ file ∷ []) ≡ file_rows feed moment front ++ (record { feed = feed + length front; moment = moment; path = file }) ∷ []
rows_more feed moment [] file = ap (λ n. (let row : SnapshotRow = record { feed = n; moment = moment; path = file } in row) ∷ []) (none feed)
  where
    none : (n : ℕ) → n ≡ n + 0
    none n = omega arith
rows_more feed moment (f ∷ front) file =
    ap (λ rows. (let row : SnapshotRow = record { feed = feed; moment = moment; path = f } in row) ∷ rows)
    (rows_more (feed + 1) moment front file
    ∙ ap (λ n. file_rows (feed + 1) moment front ++ (let row : SnapshotRow = record { feed = n; moment = moment; path = file } in row) ∷ []) (next feed (length front)))
  where
    next : (n k : ℕ) → (n + 1) + k ≡ n + suc k
    next n k = omega arith

pub next_row : (moment : ℕ) (files : List (List ℕ)) (i : ℕ) (file : List ℕ) (rows new : List SnapshotRow) → i < length files → file ≡ get_or files i file →
    rows ≡ file_rows 0 moment (take i files) → new ≡ rows ++ (record { feed = i; moment = moment; path = file }) ∷ [] → new ≡ file_rows 0 moment (take (i + 1) files)
next_row moment files i file rows new l is before e =
    e ∙ ap (λ rs. rs ++ (let row : SnapshotRow = record { feed = i; moment = moment; path = file } in row) ∷ []) before
    ∙ ap (λ n. file_rows 0 moment (take i files) ++ (let row : SnapshotRow = record { feed = n; moment = moment; path = file } in row) ∷ []) (sym (length_take files i l))
    ∙ sym (rows_more 0 moment (take i files) file)
    ∙ ap (λ f. file_rows 0 moment (take i files ++ f ∷ [])) is
    ∙ ap (file_rows 0 moment) (sym (take_more files i file l))
