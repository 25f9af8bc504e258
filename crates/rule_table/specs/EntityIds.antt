-- Ids of entities. (GTFS Realtime Reference, "FeedEntity": `id`.)
use Rattle.std.specs.Prelude.{ℕ, List}
use Rattle.rule_table.specs.declared.entity_id.Words.{Words}
use Rattle.rule_table.specs.declared.entity_id.Words.TheVariants.{Short, Long}

-- the bytes of an id, wherever they are held
abbrev pub words_of : Words → List ℕ
words_of (Short words) = words.bytes
words_of (Long words) = words
