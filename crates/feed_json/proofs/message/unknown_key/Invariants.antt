use Rattle.std.proofs.Common.{◌≡◌}
use Rattle.serde_json.specs.View.{members_view}
use Rattle.feed_json.specs.Unform.{first_unknown, is_key}
use Rattle.feed_json.proofs.message.unknown_key.Given as goal

-- what is left has the same first unknown key
abbrev pub invariant-loop-key : goal.invariant-loop-key
invariant-loop-key g l =
    (goal.iterator-loop-key g).can_next l.key-iterator × (goal.iterator-loop-key g).is_finite l.key-iterator
    × (first_unknown (is_key g.M.Slots.schema) (members_view l.key-iterator)
    ≡ first_unknown (is_key g.M.Slots.schema) (members_view l.members.entries))
