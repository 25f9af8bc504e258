-- The snapshot that a text says. (RFC 8259; the form is this profile's.)
use Rattle.std.specs.Prelude.{ℕ, List, Option, Some, None, Result, Ok, Err, if◌then◌else◌}
use Rattle.std.specs.Str.{is_utf8}
use Rattle.serde_json.specs.Data.{Data}
use Rattle.serde_json.specs.Read.{read}
use Rattle.feed_values.specs.Schema.{Value}
use Rattle.feed_values.specs.Messages.{feed_message}
use Rattle.feed_json.specs.declared.json_fault.JsonFault.{JsonFault}
use Rattle.feed_json.specs.Unform.{unform}
use Rattle.json_entities.specs.declared.text_fault.TextFault.{TextFault}
use Rattle.json_entities.specs.declared.text_fault.TextFault.TheVariants.{NotJson, Message}

-- the tree of bytes, which are UTF-8 and JSON
abbrev pub tree_of : List ℕ → Option Data
tree_of bytes = if is_utf8 bytes then read bytes else None

-- what a tree says as a snapshot, as an answer to its text
abbrev pub answered : {A : Type 0} → Result A JsonFault → Result A TextFault
answered (Ok a) = Ok a
answered (Err fault) = Err (Message fault)

abbrev pub said_by : Option Data → Result (Value feed_message) TextFault
said_by None = Err NotJson
said_by (Some d) = answered (unform feed_message d)

-- the snapshot that bytes say as the text of its form
abbrev pub text_message : List ℕ → Result (Value feed_message) TextFault
text_message bytes = said_by (tree_of bytes)
