use Rattle.std.proofs.Common.{◌≡◌, ◌++◌, false, not, map, filter, get_or}
use Rattle.entity_index.proofs.comparing.not_met.Given as goal

abbrev pub invariant-loop-key : goal.invariant-loop-key
invariant-loop-key l =
    l.gone ++ map (λ e. e.0) (filter (λ e. not (get_or l.met e.1.place false)) l.key-iterator) ≡ map (λ e. e.0) (filter (λ e. not (get_or l.met e.1.place false)) l.room.seats)
