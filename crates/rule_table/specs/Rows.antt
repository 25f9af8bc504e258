-- The row of a rule at a place.
use Rattle.std.specs.Prelude.{List}
use Rattle.feed_values.specs.declared.slot.Slot.{Slot}
use Rattle.rule_table.specs.declared.rule.RuleId.{RuleId}
use Rattle.rule_table.specs.declared.row.Cite.{Cite}
use Rattle.rule_table.specs.declared.row.Atom.{Atom}
use Rattle.rule_table.specs.declared.place.Place.{Place}
use Rattle.rule_table.specs.declared.place.Place.TheVariants.{Head, Entity}
use Rattle.rule_table.specs.Table.{slots_of, head_slots_of, cites_of, head_cites_of, test_of, head_test_of}

abbrev pub slots_at : RuleId → Place → List Slot
slots_at rule (Head feed slot) = head_slots_of rule
slots_at rule (Entity key path) = slots_of rule

abbrev pub cites_at : RuleId → Place → List Cite
cites_at rule (Head feed slot) = head_cites_of rule
cites_at rule (Entity key path) = cites_of rule

abbrev pub test_at : RuleId → Place → List Atom
test_at rule (Head feed slot) = head_test_of rule
test_at rule (Entity key path) = test_of rule
