-- Marks: rules that break at places of an entity, by which its findings are known.
use Rattle.std.specs.Prelude.{List, [], Option, slice_get}
use Rattle.std.specs.List.{flat_map}
use Rattle.feed_values.specs.Meaning.{option_case}
use Rattle.feed_values.specs.declared.cell_value.CellValue.{CellValue}
use Rattle.rule_table.specs.declared.ask.Ask.{Ask}
use Rattle.rule_table.specs.declared.key.EntityKey.{EntityKey}
use Rattle.rule_table.specs.declared.mark.Mark.{Mark}
use Rattle.rule_table.specs.declared.place.Place.TheVariants as place
use Rattle.rule_table.specs.Asked.{path_at}
use Rattle.rule_table.specs.Found.{Found}
use Rattle.rule_table.specs.Judged.{found_at}
use Rattle.rule_table.specs.Table.{slots_of}

-- the findings of a mark's rule at its place; none where the rule has no such slot
abbrev pub marked_at : (Ask → Option CellValue) → EntityKey → Mark → List Found
marked_at answer key m = option_case (slice_get (slots_of m.rule) m.number) [] (λ s. found_at m.rule answer (place.Entity key (path_at s m.index)))

-- those of marks, one after the other
abbrev pub marked : (Ask → Option CellValue) → EntityKey → List Mark → List Found
marked answer key ms = flat_map (marked_at answer key) ms
