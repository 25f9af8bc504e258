use Rattle.std.proofs.Common.{◌≡◌, map, take}
use Rattle.serde_json.specs.View.{view}
use Rattle.feed_values.specs.Views.{unknown_field}
use Rattle.feed_json.specs.Form.{unknown_form}
use Rattle.feed_json.proofs.unknown.unknown_trees.Given as goal

abbrev pub invariant-loop-field : goal.invariant-loop-field
invariant-loop-field l = map view l.trees.items ≡ map unknown_form (map unknown_field (take l.field-index l.fields))
