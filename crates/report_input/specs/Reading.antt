-- In the code: what was read of a text.
use Rattle.std.specs.Prelude.{◌≡◌, ℕ, ◌+◌, List, [], ◌∷◌, ◌++◌, None, Some, length, nat_lt, take, if◌then◌else◌, Result, Ok, Err}
use Rattle.std.specs.FinMap.{get}
use Rattle.rt_outside.specs.Store.{Contents}
use Rattle.rt_outside.specs.declared.read_end.ReadEnd.{ReadEnd}
use Rattle.rt_outside.specs.declared.read_end.ReadEnd.TheVariants as end
use Rattle.report_lines.specs.Lines.{line_limit}
use Rattle.report_counts.specs.Counts.{Ignored, counts_of}
use Rattle.report_counts.specs.declared.counts.Counts.{Counts}
use Rattle.report_input.specs.Lines.{lines_in, rest_behind, whole_lines}
use Rattle.report_input.specs.declared.reader.Reader.{Reader}

-- of a line, as many bytes as tell whether it is too long
abbrev pub held : List ℕ → List ℕ
held line = take (line_limit + 1) line

abbrev pub held_more : List ℕ → ℕ → List ℕ
held_more line byte = if nat_lt line_limit (length line) then line else line ++ byte ∷ []

pub record IsReading (ignored : Ignored) (came : List ℕ) (reader : Reader) : Type 0 where
  pub counts : reader.counts ≡ counts_of ignored (whole_lines [] came)
  pub line : reader.line.items ≡ held (rest_behind [] came)

-- ---- a file
-- the counts of the lines of the file of this name, or that it is absent; or a call or memory failed
abbrev pub TellsCounts : Ignored → Contents → List ℕ → Result Counts ReadEnd → Type 0
TellsCounts ignored contents name (Ok counts) = (bytes : List ℕ) × (get contents name ≡ Some bytes) × (counts ≡ counts_of ignored (lines_in bytes))
TellsCounts ignored contents name (Err end.Absent) = get contents name ≡ None
TellsCounts ignored contents name (Err end.TooLarge) = ⊥
TellsCounts ignored contents name (Err end.ReadFault) = Unit {0}
TellsCounts ignored contents name (Err end.Memory) = Unit {0}
