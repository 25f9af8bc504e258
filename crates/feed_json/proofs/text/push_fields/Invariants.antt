use Rattle.std.specs.String.{string_bytes}
use Rattle.feed_values.specs.Views.{unknown_field}
use Rattle.feed_json.specs.Pieces.{end_piece, unknown_piece}
use Rattle.feed_json.proofs.Texts.{LeftFrom}
use Rattle.feed_json.proofs.text.push_fields.Given as goal

-- what was written and what is left are the whole array
abbrev pub invariant-loop-field : goal.invariant-loop-field
invariant-loop-field l =
    LeftFrom unknown_field unknown_piece end_piece (string_bytes l.fn.text) (string_bytes l.text) l.fields l.field-index l.later
