-- The pairing rows of a kept snapshot.
use Rattle.std.specs.Prelude.{List, [], ◌∷◌, Option, Some, None}
use Rattle.rule_table.specs.declared.key.EntityKey.{EntityKey}
use Rattle.rule_table.specs.declared.kind.Kind.{Kind}
use Rattle.rule_table.specs.Pairs.{GivenIds, PairRow, row_with}
use Rattle.judging.specs.Judged.{seat_rows}
use Rattle.snapshot_keys.specs.declared.kept_rows.KeptRows.{KeptRows}
use Rattle.snapshot_keys.specs.Places.{placed}

-- the row with these ids, where there are any
abbrev pub given_rows : Kind → EntityKey → Option GivenIds → List PairRow
given_rows K key None = []
given_rows K key (Some ids) = row_with K key ids ∷ []

-- those of the entities at the places of a view
abbrev pub rows_in : KeptRows → List PairRow
rows_in s = seat_rows (placed s.kept.now s.places.now)
