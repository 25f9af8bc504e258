use Rattle.std.proofs.Common.{codes, refl}
use Rattle.std.specs.String.{string_bytes}
use Rattle.serde_json.specs.Written.{compact_text}
use Rattle.feed_values.specs.Messages.{entity}
use Rattle.feed_values.specs.Views.{entity_value}
use Rattle.feed_json.specs.Form.{form}
use Rattle.feed_json.specs.Pieces.{before_item}
use Rattle.feed_json.proofs.Texts.{pushed_on}
use Rattle.feed_json.proofs.text.push_entity.Goals as goal

pub returns : goal.returns
returns c =
    let text = compact_text (form entity (entity_value c.args.entity.now)) in
    pushed_on c.push_message.result (string_bytes c.args.text.now) (string_bytes c.push_before.new.text) (string_bytes c.push_message.new.text)
    (before_item (codes "\"entity\":[") c.args.later) text text c.in_ok-push_before.ensures refl c.push_message.ensures
