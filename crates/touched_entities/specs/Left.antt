-- What closes at an entity that is gone.
use Rattle.std.specs.Prelude.{List, []}
use Rattle.rule_table.specs.declared.key.EntityKey.{EntityKey}
use Rattle.entity_index.specs.Held.{HeldEntities}
use Rattle.touched_entities.specs.Again.{list_under}
use Rattle.touched_entities.specs.Told.{Told, plus, told_between}

abbrev pub told_left : List HeldEntities → EntityKey → Told → Told
told_left index key told =
    plus (plus (plus (plus told (told_between (list_under index key 0) [])) (told_between (list_under index key 1) [])) (told_between (list_under index key 2) [])) (told_between (list_under index key 3) [])
