use Rattle.std.proofs.Common.{◌≡◌}
use Rattle.serde_json.specs.View.{members_view}
use Rattle.feed_json.specs.Unform.{first_unknown, is_item_key}
use Rattle.feed_json.proofs.unknown.unknown_key.Given as goal

-- what is left has the same first unknown key
abbrev pub invariant-loop-key : goal.invariant-loop-key
invariant-loop-key l =
    (goal.iterator-loop-key).can_next l.key-iterator × (goal.iterator-loop-key).is_finite l.key-iterator
    × (first_unknown is_item_key (members_view l.key-iterator) ≡ first_unknown is_item_key (members_view l.members.entries))
