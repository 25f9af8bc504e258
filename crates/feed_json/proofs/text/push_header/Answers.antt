use Rattle.std.proofs.Common.{◌++◌, codes, refl}
use Rattle.std.specs.String.{string_bytes}
use Rattle.serde_json.specs.Written.{compact_text}
use Rattle.feed_values.specs.Messages.{feed_header}
use Rattle.feed_values.specs.Views.{feed_header_value}
use Rattle.feed_json.specs.Form.{form}
use Rattle.feed_json.specs.Pieces.{behind_items}
use Rattle.feed_json.proofs.Texts.{pushed_on}
use Rattle.feed_json.proofs.text.push_header.Goals as goal

pub returns : goal.returns
returns c =
    let key = codes "\"header\":" in
    let text = compact_text (form feed_header (feed_header_value c.args.header.now)) in
    pushed_on c.push_message.result (string_bytes c.args.text.now) (string_bytes c.push_behind.new.text) (string_bytes c.push_message.new.text)
    (behind_items (codes "],") c.args.later) (key ++ text) (key ++ text) c.in_ok-push_behind.ensures refl
    (pushed_on c.push_message.result (string_bytes c.push_behind.new.text) (string_bytes c.push_str.new.self) (string_bytes c.push_message.new.text)
    key text text c.in_ok-push_str.ensures.bytes refl c.push_message.ensures)
