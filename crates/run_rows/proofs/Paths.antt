-- The paths of rows.
use Rattle.std.proofs.Common.{◌≡◌, ℕ, zero, suc, List, [], ◌∷◌, slice_get, ap, arith, Some}
use Rattle.std.specs.List.{Contains}
use Rattle.feed_list.specs.declared.row.SnapshotRow.{SnapshotRow}
use Rattle.run_rows.specs.Rows.{paths_of}

-- the path of a row is one of the list
pub row_path : (rows : List SnapshotRow) (i : ℕ) (row : SnapshotRow) → slice_get rows i ≡ Some row → Contains (paths_of rows) row.path
row_path [] i row e = absurd (cc e)
row_path (r ∷ rows) zero row e = (0, omega arith, ap (λ r. r.path) (same r row e))
  where
    same : (a b : SnapshotRow) → Some a ≡ Some b → a ≡ b
    same a b e = cc e
row_path (r ∷ rows) (suc i) row e = let there = row_path rows i row e in (suc there.0, omega (arith, there.1), there.2)
