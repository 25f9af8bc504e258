use Rattle.std.proofs.Common.{ap, ◌∙◌, ◌++◌, map}
use Rattle.std.specs.Prelude.{false}
use Rattle.std.specs.String.{string_bytes}
use Rattle.feed_values.specs.Views.{entity_value, feed_header_value, feed_message_value, unknown_field}
use Rattle.feed_json.specs.Pieces.{array_from, end_piece, entity_piece, header_piece, unknown_piece}
use Rattle.feed_json.proofs.Texts.{all_pieces}
use Rattle.feed_json.proofs.text.to_text.Goals as goal

-- the pieces were appended one by one
pub returns : goal.returns
returns c =
    all_pieces (feed_message_value c.args.message.now) (string_bytes c.in_ok-text.text) (string_bytes c.push_entities.new.text) (string_bytes c.push_fields.new.text)
    c.in_ok-text.ensures.ok
    (c.in_ok-push_entities.ensures ∙ ap (λ es. string_bytes c.in_ok-text.text ++ array_from entity_piece (header_piece (feed_header_value c.args.message.now.header)) false (map entity_value es)) c.as_slice.ensures)
    (c.in_ok-push_fields.ensures ∙ ap (λ fs. string_bytes c.push_entities.new.text ++ array_from unknown_piece end_piece false (map unknown_field fs)) c.as_slice-2.ensures)
