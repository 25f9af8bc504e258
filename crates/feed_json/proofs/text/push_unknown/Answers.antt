use Rattle.std.proofs.Common.{ap, codes}
use Rattle.std.specs.String.{string_bytes}
use Rattle.serde_json.specs.View.{view}
use Rattle.serde_json.specs.Written.{compact_text}
use Rattle.rt_wire.specs.Placed.{field_of}
use Rattle.feed_json.specs.Form.{unknown_form}
use Rattle.feed_json.specs.Pieces.{before_item}
use Rattle.feed_json.proofs.Texts.{pushed_on}
use Rattle.feed_json.proofs.text.push_unknown.Goals as goal

pub returns : goal.returns
returns c =
    pushed_on c.push_tree.result (string_bytes c.args.text.now) (string_bytes c.push_before.new.text) (string_bytes c.push_tree.new.text)
    (before_item (codes ",\"unknown\":[") c.args.later) (compact_text (view c.in_ok-tree.tree)) (compact_text (unknown_form (field_of c.args.number c.args.value.now)))
    c.in_ok-push_before.ensures (ap compact_text c.in_ok-tree.ensures.tree) c.push_tree.ensures
