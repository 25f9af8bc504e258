-- The findings of marks from an index on.
use Rattle.std.proofs.Common.{drop-cons, refl, add-one, drop, get_or}
use Rattle.std.specs.Prelude.{◌≡◌, ◌<◌, ◌+◌, ◌++◌, ℕ, suc, List, ◌∷◌, length, Option}
use Rattle.feed_values.specs.declared.cell_value.CellValue.{CellValue}
use Rattle.rule_table.specs.declared.ask.Ask.{Ask}
use Rattle.rule_table.specs.declared.key.EntityKey.{EntityKey}
use Rattle.rule_table.specs.declared.mark.Mark.{Mark}
use Rattle.rule_table.specs.Marked.{marked, marked_at}

-- those of the mark at an index, and of the marks after it
pub marked_from : (answer : Ask → Option CellValue) (key : EntityKey) (ms : List Mark) (i : ℕ) (m : Mark) → i < length ms
    → marked answer key (drop i ms) ≡ marked_at answer key (get_or ms i m) ++ marked answer key (drop (i + 1) ms)
marked_from answer key ms i m h = rw (add-one, drop-cons ms i m) refl
