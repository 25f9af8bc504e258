use Rattle.std.proofs.Common.{◌≡◌, ◌==◌, ℕ, [], drop, map, take, nat_eq}
use Rattle.std.specs.HashSet.{contains}
use Rattle.std.specs.List.{list_any}
use Rattle.timetable.specs.Timetables.{returns_to}
use Rattle.timetable.proofs.twice.returns_to_a_stop.Given as goal

-- what is left goes on from the stops that were seen
abbrev pub invariant-loop-time : goal.invariant-loop-time
invariant-loop-time l = record {
  rest : returns_to (map (λ time. time.stop) (take l.time-index l.times)) (drop l.time-index l.times) ≡ returns_to [] l.times;
  seen : (stop : ℕ) → contains nat_eq l.seen stop ≡ list_any (λ s. stop == s) (map (λ time. time.stop) (take l.time-index l.times));
}
