-- The finding that a line spells: it is read, and printed again. (This profile.)
use Rattle.std.specs.Prelude.{ℕ, Bool, List, bytes_eq, Option, Some, None, option_and_then, if◌then◌else◌}
use Rattle.std.specs.Str.{is_utf8}
use Rattle.serde_json.specs.Data.{Data}
use Rattle.serde_json.specs.Read.{read}
use Rattle.serde_json.specs.Written.{compact_text}
use Rattle.rt_report.specs.Findings.{finding_data}
use Rattle.report_verify.specs.declared.said.Said.{Said}
use Rattle.report_verify.specs.Said.{found_of, said_of}

-- the tree of a line, which is UTF-8 and JSON
abbrev pub tree_of : List ℕ → Option Data
tree_of text = if is_utf8 text then read text else None

-- whether a line is the text of what was said
abbrev pub is_printed : List ℕ → Said → Bool
is_printed text said = bytes_eq (compact_text (finding_data said.kind (found_of said) said.since)) text

abbrev pub if_printed : List ℕ → Said → Option Said
if_printed text said = if is_printed text said then Some said else None

abbrev pub spelled_in : List ℕ → Data → Option Said
spelled_in text d = option_and_then (if_printed text) (said_of d)

-- what a line spells
abbrev pub spelled : List ℕ → Option Said
spelled text = option_and_then (spelled_in text) (tree_of text)
