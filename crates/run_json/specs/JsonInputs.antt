-- What a JSON file says as a snapshot, or the first thing that is wrong with it, and how that is told. (This profile.)
use Rattle.std.specs.Prelude.{◌≡◌, ◌≢◌, ℕ, List, [], ◌++◌, length, codes, nat_lt, if◌then◌else◌, Option, Some, None, Result, Ok, Err}
use Rattle.feed_values.specs.Schema.{Value}
use Rattle.feed_values.specs.Messages.{feed_message}
use Rattle.feed_json.specs.declared.json_fault.JsonFault.{JsonFault}
use Rattle.feed_json.specs.declared.json_fault.JsonFault.TheVariants as json
use Rattle.json_entities.specs.declared.text_fault.TextFault.{TextFault}
use Rattle.json_entities.specs.declared.text_fault.TextFault.TheVariants as text
use Rattle.json_entities.specs.FromText.{text_message}
use Rattle.run_json.specs.declared.json_input_fault.JsonInputFault.{JsonInputFault}
use Rattle.run_json.specs.declared.json_input_fault.JsonInputFault.TheVariants.{MissingFile, TooLarge, NotJson, WrongKind, UnknownKey, OutOfRange, MissingKey, ReadFault, Memory}
use Rattle.run_base.specs.declared.input_fault.InputFault.{InputFault}
use Rattle.run_base.specs.Faults.{refused_text}
use Rattle.run_base.specs.Inputs.{TellsInput}

-- the most bytes that a JSON file has
abbrev pub json_limit : ℕ
json_limit = 268435456

-- a fault of a tree, as one of its file
abbrev pub input_fault : JsonFault → JsonInputFault
input_fault (json.WrongKind path) = WrongKind path
input_fault (json.UnknownKey path) = UnknownKey path
input_fault (json.OutOfRange path) = OutOfRange path
input_fault (json.MissingKey path) = MissingKey path
input_fault json.Memory = Memory

-- why a text is no snapshot, as a fault of its file
abbrev pub text_fault : TextFault → JsonInputFault
text_fault text.NotJson = NotJson
text_fault (text.Message fault) = input_fault fault

-- the snapshot that a text says
abbrev pub of_text : Result (Value feed_message) TextFault → Result (Value feed_message) JsonInputFault
of_text (Ok v) = Ok v
of_text (Err fault) = Err (text_fault fault)

-- the snapshot that a JSON file says, where it holds these bytes or isn't held
abbrev pub input_message : Option (List ℕ) → Result (Value feed_message) JsonInputFault
input_message None = Err MissingFile
input_message (Some bytes) = if nat_lt json_limit (length bytes) then Err TooLarge else of_text (text_message bytes)

-- what is wrong at a place in a tree
abbrev pub at_path : List ℕ → List ℕ → List ℕ
at_path path why = path ++ codes ": " ++ why

-- the text of a fault of a JSON file; a failed read and want of memory are no faults of what it holds, and have texts of
-- their own
abbrev pub input_text : List ℕ → JsonInputFault → List ℕ
input_text name MissingFile = refused_text name (codes "missing file")
input_text name TooLarge = refused_text name (codes "too large")
input_text name NotJson = refused_text name (codes "not JSON")
input_text name (WrongKind path) = refused_text name (at_path path (codes "wrong kind"))
input_text name (UnknownKey path) = refused_text name (at_path path (codes "unknown key"))
input_text name (OutOfRange path) = refused_text name (at_path path (codes "out of range"))
input_text name (MissingKey path) = refused_text name (at_path path (codes "missing key"))
input_text name ReadFault = []
input_text name Memory = []

-- what is told of a JSON file's fault: that its read failed, or why it is refused
abbrev pub TellsJsonFault : List ℕ → JsonInputFault → InputFault → Type 0
TellsJsonFault name fault why = TellsInput (λ file. (fault ≡ ReadFault) × (file ≡ name)) (λ text. (fault ≢ ReadFault) × (fault ≢ Memory) × (text ≡ input_text name fault)) why
