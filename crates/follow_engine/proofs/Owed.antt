-- How many rules are tested for the keys of a snapshot.
use Rattle.std.specs.Prelude.{◌≡◌, ℕ, ◌+◌, ◌*◌, ◌<◌, List, length, Option}
use Rattle.std.proofs.Common.{ap, ◌∙◌}
use Rattle.timetable.specs.Timetables.{Tables}
use Rattle.rule_table.specs.declared.key.EntityKey.{EntityKey}
use Rattle.rule_history.specs.History.{Snapshot, IsTaken}
use Rattle.engine_laws.specs.Delta.{bounded_held, paired_held, tested_held}
use Rattle.engine_laws.specs.HeldFeeds.{held_after}
use Rattle.exchanged_timetables.specs.cached_laws.State.{State, IsState, feed_of}
use Rattle.exchanged_timetables.specs.cached_laws.Cached.{AreCached}
use Rattle.exchanged_timetables.specs.cached_laws.Keys.{AreTouched}
use Rattle.exchanged_timetables.specs.cached_laws.CountsProofs.{bounded_size, paired_size, peaked_size, tested_size}
use Rattle.follow_engine.specs.Followed.{tests_owed}

pub ticks_are : (state : State) (s : Snapshot) → IsState state → IsTaken s → s.feed < 16 → (t : Option Tables) (n : ℕ) → AreCached t state.index (feed_of state) → (local paired bounded peaked : List EntityKey) → AreTouched state s local paired bounded peaked →
    10 + (40 * length local + 3 * length paired + 2 * length bounded + length peaked) ≡ tests_owed t n s (feed_of state)
ticks_are state s is taken fits t n cached local paired bounded peaked touched =
    ap (λ x. 10 + (40 * x + 3 * length paired + 2 * length bounded + length peaked)) (tested_size state s is fits local touched.local_are)
    ∙ ap (λ x. 10 + (40 * tested_held s (feed_of state) + 3 * x + 2 * length bounded + length peaked)) (paired_size state s is fits paired touched.paired_are t n)
    ∙ ap (λ x. 10 + (40 * tested_held s (feed_of state) + 3 * paired_held s (feed_of state) (held_after t n s (feed_of state)) + 2 * x + length peaked)) (bounded_size state s is fits taken t n cached bounded touched.bounded_are)
    ∙ ap (λ x. 10 + (40 * tested_held s (feed_of state) + 3 * paired_held s (feed_of state) (held_after t n s (feed_of state)) + 2 * bounded_held s (feed_of state) (held_after t n s (feed_of state)) + x))
    (peaked_size state s is fits taken peaked touched.peaked_are t n)
