-- The verdicts on the lines of a report, and the lines that tell them. (This profile.)
use Rattle.std.specs.Prelude.{ℕ, ◌+◌, ◌<◌, ◌^◌, ◌==◌, ◌++◌, ◌||◌, nat_lt, Bool, true, false, List, [], ◌∷◌, codes, if◌then◌else◌}
use Rattle.serde_json.specs.Data.{Data, string, object, member, no_members}
use Rattle.snapshot_lines.specs.Lines.{count, line_of}
use Rattle.report_verify.specs.Verdicts.{verdict_of}
use Rattle.run_verify.specs.declared.judged.Judged.{Judged}
use Rattle.run_verify.specs.declared.judged.Judged.TheVariants.{Confirmed, Denied, Malformed, Other}
use Rattle.run_verify.specs.Judged.{judged_of}
use Rattle.run_verify.specs.declared.counts.Counts.{Counts}

-- ---- lines
-- a last line without a line feed counts where it isn't empty
abbrev pub last_line : List ℕ → List (List ℕ)
last_line [] = []
last_line (byte ∷ bytes) = (byte ∷ bytes) ∷ []

-- the lines of a text, behind the front of the first one; each ends at a line feed
abbrev pub lines_behind : List ℕ → List ℕ → List (List ℕ)
lines_behind front [] = last_line front
lines_behind front (byte ∷ bytes) = if byte == 10 then front ∷ lines_behind [] bytes else lines_behind (front ++ byte ∷ []) bytes

abbrev pub lines_in : List ℕ → List (List ℕ)
lines_in text = lines_behind [] text

-- ---- the line of a verdict
abbrev pub verdict : ℕ → List ℕ → Data
verdict number name = object
    (member (codes "line") (string (codes "verdict"))
    (member (codes "number") (count number)
    (member (codes "verdict") (string name) no_members)))

-- other lines of a report have none
abbrev pub verdict_text : ℕ → Judged → List ℕ
verdict_text number Confirmed = line_of (verdict number (codes "confirmed"))
verdict_text number Denied = line_of (verdict number (codes "denied"))
verdict_text number Other = []
verdict_text number Malformed = line_of (verdict number (codes "malformed"))

-- those of all lines, which are numbered one after the other
abbrev pub verdicts_text : ℕ → List (List ℕ) → List ℕ
verdicts_text number [] = []
verdicts_text number (line ∷ lines) = verdict_text number (judged_of (verdict_of line)) ++ verdicts_text (number + 1) lines

-- ---- their counts
abbrev pub is_confirmed : Judged → Bool
is_confirmed Confirmed = true
is_confirmed _ = false

abbrev pub is_denied : Judged → Bool
is_denied Denied = true
is_denied _ = false

abbrev pub is_malformed : Judged → Bool
is_malformed Malformed = true
is_malformed _ = false

abbrev pub is_other : Judged → Bool
is_other Other = true
is_other _ = false

abbrev pub one_if : Bool → ℕ
one_if b = if b then 1 else 0

-- how many lines have a verdict that passes
abbrev pub how_many : (Judged → Bool) → List (List ℕ) → ℕ
how_many test [] = 0
how_many test (line ∷ lines) = one_if (test (judged_of (verdict_of line))) + how_many test lines

abbrev pub counts_of : List (List ℕ) → Counts
counts_of lines = record { confirmed = how_many is_confirmed lines; denied = how_many is_denied lines; malformed = how_many is_malformed lines; other = how_many is_other lines }

-- the line that sums up
abbrev pub sum : Counts → Data
sum counts = object
    (member (codes "confirmed") (count counts.confirmed)
    (member (codes "denied") (count counts.denied)
    (member (codes "line") (string (codes "verify"))
    (member (codes "malformed") (count counts.malformed)
    (member (codes "other") (count counts.other) no_members)))))

-- whether a line is denied or malformed
abbrev pub is_bad : Counts → Bool
is_bad counts = nat_lt 0 counts.denied || nat_lt 0 counts.malformed

-- ---- in the code
abbrev pub none : Counts
none = record { confirmed = 0; denied = 0; malformed = 0; other = 0 }

-- with one line more
abbrev pub counted : Counts → Judged → Counts
counted counts v = record {
  confirmed = counts.confirmed + one_if (is_confirmed v);
  denied = counts.denied + one_if (is_denied v);
  malformed = counts.malformed + one_if (is_malformed v);
  other = counts.other + one_if (is_other v);
}

-- one more can be counted
pub record AreSmall (counts : Counts) : Type 0 where
  pub confirmed : counts.confirmed < 2 ^ 63
  pub denied : counts.denied < 2 ^ 63
  pub malformed : counts.malformed < 2 ^ 63
  pub other : counts.other < 2 ^ 63
