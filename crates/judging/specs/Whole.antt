-- The findings of all rules at an entity and on a header, for what is known there.
use Rattle.std.specs.Prelude.{ℕ, List, Option}
use Rattle.std.specs.Option.{option_or}
use Rattle.feed_values.specs.Schema.{Value}
use Rattle.feed_values.specs.Messages.{entity}
use Rattle.feed_values.specs.declared.cell_value.CellValue.{CellValue}
use Rattle.timetable.specs.Timetables.{Tables}
use Rattle.rule_table.specs.declared.ask.Ask.{Ask}
use Rattle.rule_table.specs.declared.key.EntityKey.{EntityKey}
use Rattle.rule_table.specs.Answers.{Heads, Gathered, entity_answer}
use Rattle.rule_history.specs.Answered.{shared_answer}
use Rattle.rule_table.specs.Found.{Found}
use Rattle.rule_table.specs.Judged.{found_all, head_found_all}
use Rattle.rule_table.specs.Pairs.{PairRow}
use Rattle.rule_table.specs.Peaks.{no_peaks}
use Rattle.rule_table.specs.Table.{all_rules}

-- what is gathered of snapshots before which none stands: pairing rows, and no peaks
abbrev pub rows_alone : List PairRow → Gathered
rows_alone rows = record { rows = rows; peaks = no_peaks }

-- what is answered at an entity: by itself, and at all places of its feed
abbrev pub whole_answer : Option Tables → Gathered → Heads → EntityKey → Value entity → Ask → Option CellValue
whole_answer t u heads key e a = option_or (entity_answer key e a) (shared_answer t u heads a)

-- every rule at every place of an entity
unfoldable pub entity_found : Option Tables → Gathered → Heads → EntityKey → Value entity → List Found
entity_found t u heads key e = found_all all_rules (whole_answer t u heads key e) key e

-- every rule at every place of a header
unfoldable pub header_found : Option Tables → Gathered → Heads → ℕ → List Found
header_found t u heads feed = head_found_all all_rules (shared_answer t u heads) feed
