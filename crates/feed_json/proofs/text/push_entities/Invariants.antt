use Rattle.std.specs.String.{string_bytes}
use Rattle.feed_values.specs.Views.{entity_value, feed_header_value}
use Rattle.feed_json.specs.Pieces.{entity_piece, header_piece}
use Rattle.feed_json.proofs.Texts.{LeftFrom}
use Rattle.feed_json.proofs.text.push_entities.Given as goal

-- what was written and what is left are the whole array
abbrev pub invariant-loop-entity : goal.invariant-loop-entity
invariant-loop-entity l =
    LeftFrom entity_value entity_piece (header_piece (feed_header_value l.header)) (string_bytes l.fn.text) (string_bytes l.text) l.entities l.entity-index l.later
