-- What depends on the bounds of timestamps.
use Rattle.std.specs.Prelude.{◌≡◌, ◌↔◌, ℕ, ◌+◌, ◌||◌, ℤ, pos, true, false, List, [], Option, Some, None}
use Rattle.std.specs.Int.{int_min}
use Rattle.feed_values.specs.declared.slot.Slot.{Slot}
use Rattle.feed_values.specs.Schema.{Value}
use Rattle.feed_values.specs.Messages.{entity}
use Rattle.feed_values.specs.Cells.{entity_cell}
use Rattle.timetable.specs.Timetables.{Tables}
use Rattle.rule_table.specs.declared.rule.RuleId.{RuleId}
use Rattle.rule_table.specs.declared.key.EntityKey.{EntityKey}
use Rattle.rule_table.specs.declared.bound_rule.Bound.{Bound}
use Rattle.rule_table.specs.Answers.{bound_answer}
use Rattle.rule_table.specs.Judged.{found_all}
use Rattle.rule_table.specs.Groups.{AreOf, IsUnder, has_rule}
use Rattle.rule_table.specs.Bounds.{bound_at, IsAbove, StandsAt, AreHeld, AreAtStamps, is_timestamp, stamp_at}
use Rattle.rule_history.specs.History.{Snapshot, Keyed, IsHistory}
use Rattle.rule_history.specs.Changed.{with, in_tested, in_bounded}
use Rattle.history_rules.specs.Rules.{bound_rules}
use Rattle.part_laws.specs.Parts.{FindBounded, IsThere, bounded_part}

-- One that is neither tested nor bounded keeps what bounds tell of it.
abbrev pub BoundedStays : FindBounded → Type 0
BoundedStays find = (t : Option Tables) (g : List Snapshot) (s : Snapshot) (e : Keyed) → IsHistory (with g s) → IsThere (with g s) e → (in_tested g s e || in_bounded t g s e) ≡ false →
    bounded_part find g e.0 ≡ bounded_part find (with g s) e.0

-- So it is for all that finds, by rules that have a bound each, a rule at a timestamp exactly where it is above the rule's bound, and nothing elsewhere.
pub record IsBounding (find : FindBounded) (rules : List RuleId) (bound : RuleId → Bound) : Type 0 where
  pub own : (t : Option ℤ) (m : ℕ) (k : EntityKey) (e : Value entity) → AreOf rules (IsUnder k) (find t m k e)
  pub exact : (t : Option ℤ) (m : ℕ) (k : EntityKey) (e : Value entity) (rule : RuleId) (slot : Slot) → AreHeld t m e slot → is_timestamp slot ≡ true → has_rule rules rule ≡ true →
      StandsAt (find t m k e) rule (stamp_at k slot) ↔ IsAbove (entity_cell e slot 0) (bound_at (bound rule) t m)
  pub at : (t : Option ℤ) (m : ℕ) (k : EntityKey) (e : Value entity) → AreAtStamps k (find t m k e)

-- ---- by what is held
-- the numbers of an entity, a header and a moment are such as are held, of 64 bits
abbrev pub AreNumbersHeld : Option ℤ → ℕ → Value entity → Type 0
AreNumbersHeld t m e = (slot : Slot) → is_timestamp slot ≡ true → AreHeld t m e slot

-- no timestamp of an entity is above a number
abbrev pub NoneAbove : Option ℤ → Value entity → Type 0
NoneAbove limit e = (slot : Slot) → is_timestamp slot ≡ true → IsAbove (entity_cell e slot 0) limit → ⊥

-- the lower bound: a minute after the moment, or the header's timestamp where that is less
abbrev pub low_bound : Option ℤ → ℕ → ℤ
low_bound None m = pos (m + 60)
low_bound (Some timestamp) m = int_min timestamp (pos (m + 60))

-- Nothing is found where no timestamp is above the lower bound, whatever the group.
abbrev pub NoneIsBounded : FindBounded → Type 0
NoneIsBounded find = (t : Option ℤ) (m : ℕ) (k : EntityKey) (e : Value entity) → AreNumbersHeld t m e → NoneAbove (Some (low_bound t m)) e → find t m k e ≡ []

-- The rules of the table that have bounds find something exactly where one is.
abbrev pub BoundsAreLow : Type 0
BoundsAreLow = (t : Option ℤ) (m : ℕ) (k : EntityKey) (e : Value entity) → AreNumbersHeld t m e → (found_all bound_rules (bound_answer t m k e) k e ≡ []) ↔ NoneAbove (Some (low_bound t m)) e
