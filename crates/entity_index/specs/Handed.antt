-- What is handed out of a feed.
use Rattle.std.specs.Prelude.{List, [], Option, Some, None}
use denote.Ref.{Bor}
use Rattle.feed_values.specs.Schema.{Value}
use Rattle.feed_values.specs.Messages.{entity}
use Rattle.feed_values.specs.Views.{entity_value}
use Rattle.feed_values.specs.declared.entity.Entity.{Entity}
use Rattle.rule_table.specs.declared.key.EntityKey.{EntityKey}
use Rattle.entity_index.specs.Lists.{Lists}
use Rattle.entity_index.specs.Seats.{HeldSeat}

-- what is left of a feed, if it is held
abbrev pub listed : {A : Type 0} → Option (List A) → List A
listed None = []
listed (Some xs) = xs

-- a key and the seat under it
abbrev pub keyed_seat : Bor EntityKey × Bor HeldSeat → EntityKey × HeldSeat
keyed_seat x = (x.0.now, x.1.now)

-- a key and the four lists that are handed out with it
abbrev pub keyed_parts : Bor EntityKey × Bor Lists → EntityKey × Lists
keyed_parts x = (x.0.now, x.1.now)

-- a key and the value of the entity that is handed out with it
abbrev pub keyed_value : Bor EntityKey × Bor Entity → EntityKey × Value entity
keyed_value x = (x.0.now, entity_value x.1.now)
