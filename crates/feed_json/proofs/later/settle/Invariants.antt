use Rattle.std.proofs.Common.{◌≡◌, map}
use Rattle.std.specs.List.{AllByRecursion}
use Rattle.feed_values.specs.Views.{unknown_field}
use Rattle.feed_values.specs.WellFormed.{IsUnknown}
use Rattle.feed_json.specs.Holds.{Holds}
use Rattle.feed_json.specs.Later.{IsItem, settled}
use Rattle.feed_json.proofs.Settled.{ends}
use Rattle.feed_json.proofs.later.settle.Given as goal

-- what is left leads to the message that is settled
abbrev pub invariant-loop-field : goal.invariant-loop-field
invariant-loop-field g l =
    let s = g.M.Slots.schema in
    let rest = map unknown_field l.field-iterator.rest.items in
    record {
      leads : ends s (map unknown_field l.kept) rest (g.M.Slots.value l.message) ≡ settled s (g.M.Slots.value l.fn.message);
      holds : Holds s s (g.M.Slots.value l.message);
      kept : AllByRecursion (IsUnknown s) (map unknown_field l.kept);
      items : AllByRecursion (IsItem s) rest;
    }
