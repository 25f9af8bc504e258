use Rattle.std.proofs.Common.{◌≡◌, ◌++◌, ◌+◌, length}
use Rattle.rule_history.specs.Answered.{tables_of}
use Rattle.timetable_exchange.specs.Retested.{entities_held, keys_of_differing}
use Rattle.timetable_exchange.proofs.touching.touch.Given as goal

-- the keys that were put and those of the entities that are left are all, and so are their numbers; the timetables stay those that are compared
abbrev pub invariant-loop-key : goal.invariant-loop-key
invariant-loop-key l =
    (l.keys ++ keys_of_differing (tables_of l.engine.table) (tables_of l.table) l.key-iterator ≡ keys_of_differing (tables_of l.engine.table) (tables_of l.table) (entities_held l.engine.feeds))
    × (l.entities + length l.key-iterator ≡ length (entities_held l.engine.feeds)) × (l.comparison.before.now ≡ l.engine.table) × (l.comparison.after.now ≡ l.table)
