-- All feeds, once a snapshot came and what it changes was judged.
use Rattle.std.specs.Prelude.{ℕ, ◌+◌, ◌*◌, List, Option}
use Rattle.timetable.specs.Timetables.{Tables}
use Rattle.rule_history.specs.History.{Snapshot}
use Rattle.rule_history.specs.Changed.{tested, paired, bounded, peaked}
use Rattle.engine_laws.specs.Delta.{IsChange, bounded_held, paired_held, peaked_held, tested_held}
use Rattle.engine_laws.specs.HeldFeeds.{HeldFeed, IsNext, held_after}
use Rattle.exchanged_timetables.specs.cached_laws.State.{State, IsState, feed_of}
use Rattle.exchanged_timetables.specs.cached_laws.Cached.{AreCached}
use Rattle.follow_engine.specs.Deltas.{delta_value}
use Rattle.follow_engine.specs.declared.delta.Delta.{Delta}

-- ---- how many rules are tested for a snapshot: ten on its header, and at each entity that is concerned those of the part
-- after a history
abbrev pub tests_of : Option Tables → List Snapshot → Snapshot → ℕ
tests_of t h s = 10 + (40 * tested h s + 3 * paired h s + 2 * bounded t h s + peaked h s)

-- by what is held of each feed before it
abbrev pub tests_owed : Option Tables → ℕ → Snapshot → (ℕ → HeldFeed) → ℕ
tests_owed t n s old = 10 + (40 * tested_held s old + 3 * paired_held s old (held_after t n s old) + 2 * bounded_held s old (held_after t n s old) + peaked_held s old (held_after t n s old))

-- ---- The feeds are what is owed for the snapshot, their lists are what each part finds, and the delta is what changed.
pub record IsFollowed (t : Option Tables) (n : ℕ) (s : Snapshot) (old new : State) (d : Delta) : Type 0 where
  pub was : IsState old
  pub is : IsState new
  pub next : IsNext t n s (feed_of old) (feed_of new)
  pub cached : AreCached t new.index (feed_of new)
  pub change : IsChange n s (feed_of old) (feed_of new) (delta_value d)
