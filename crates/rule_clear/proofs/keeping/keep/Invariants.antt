use Rattle.timetable.specs.Lookups.{tables_in}
use Rattle.feed_values.specs.Views.{entity_value}
use Rattle.rule_clear.specs.Keeping.{KeepBelow}
use Rattle.rule_clear.proofs.keeping.keep.Given as goal

-- the updates so far keep to the timetable
abbrev pub invariant-loop-index : goal.invariant-loop-index
invariant-loop-index l = KeepBelow (tables_in l.table) (entity_value l.entity) l.index
