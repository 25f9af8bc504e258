-- Cited cells, one more.
use Rattle.std.proofs.Common.{◌≡◌, ◌<◌, ◌+◌, ℕ, length, List, [], ◌∷◌, ◌++◌, map, take, slice_set, ◌∙◌, ap, arith}
use Rattle.std.proofs.lemmas.List.{take_more_set, map-append, length-append, length-take-le, length-map}
use Rattle.feed_values.specs.declared.cell_ref.CellRef.{CellRef}
use Rattle.feed_values.specs.Cells.{cell_value}

pub cells_more : (cells : List CellRef) (k : ℕ) (cell : CellRef) → k < length cells
    → map cell_value (take (k + 1) (slice_set cells k cell)) ≡ map cell_value (take k cells) ++ cell_value cell ∷ []
cells_more cells k cell h = ap (map cell_value) (take_more_set cells k cell h) ∙ map-append cell_value (take k cells) (cell ∷ [])

pub cells_count : (cells : List CellRef) (k : ℕ) (cell : CellRef) → k < length cells → k < length (map cell_value (take k cells) ++ cell_value cell ∷ [])
cells_count cells k cell h =
    rw (length-append (map cell_value (take k cells)) (cell_value cell ∷ []), length-map (take k cells) cell_value, length-take-le k cells (omega (arith, h))) (omega arith)
