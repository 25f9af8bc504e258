-- The verdict on a line of a report. (This profile.)
use Rattle.std.specs.Prelude.{◌≡◌, ◌<◌, ◌^◌, ◌++◌, ℕ, Bool, true, false, List, [], ◌∷◌, bytes_eq, codes, Option, Some, None, if◌then◌else◌}
use Rattle.std.specs.List.{list_any}
use Rattle.std.specs.Str.{IsUtf8}
use Rattle.serde_json.specs.Data.{Data}
use Rattle.rule_table.specs.declared.fact.Fact.{Fact}
use Rattle.rule_table.specs.declared.place.Place.{Place}
use Rattle.rule_table.specs.declared.place.Place.TheVariants as place
use Rattle.rule_table.specs.Asked.{in_range}
use Rattle.rule_table.specs.Broken.{Breaks}
use Rattle.rule_table.specs.Found.{Found}
use Rattle.finding_names.specs.Laws.{IsAskWithin, IsPathWithin}
use Rattle.evidence.specs.DoesBreak.{does_break}
use Rattle.snapshot_lines.specs.Lines.{line_of}
use Rattle.rt_report.specs.Findings.{finding_data}
use Rattle.rt_report.specs.declared.finding.LineKind.{LineKind}
use Rattle.report_verify.specs.declared.said.Said.{Said}
use Rattle.report_verify.specs.declared.verdict.Verdict.{Verdict}
use Rattle.report_verify.specs.declared.verdict.Verdict.TheVariants as verdict
use Rattle.report_verify.specs.Said.{found_of, text_at}
use Rattle.report_verify.specs.Spelled.{spelled_in, tree_of}

-- ---- in the words of a report
-- a feed of 8 bits, an occurrence and an index of 32 bits, and the index 0 where the path's text shows none
abbrev pub IsPlaceWithin : Place → Type 0
IsPlaceWithin (place.Head feed slot) = feed < 2 ^ 8
IsPlaceWithin (place.Entity key path) = (key.feed < 2 ^ 8) × (key.occurrence < 2 ^ 32) × IsPathWithin path

-- asks whose paths, feeds and sequences are such, and numbers from -2^63 to 2^64 - 1
abbrev pub AreFactsWithin : List Fact → Type 0
AreFactsWithin [] = Unit {0}
AreFactsWithin (f ∷ fs) = (IsAskWithin f.ask × (in_range f.value ≡ true)) × AreFactsWithin fs

pub record IsWithin (f : Found) (since : ℕ) : Type 0 where
  pub place : IsPlaceWithin f.place
  pub facts : AreFactsWithin f.facts
  pub number : since < 2 ^ 64

-- a text, with a line feed, is the line of a finding, its numbers within bounds
pub record Spells (text : List ℕ) (f : Found) (since : ℕ) : Type 0 where
  pub kind : LineKind
  pub same : text ++ 10 ∷ [] ≡ line_of (finding_data kind f since)
  pub utf8 : IsUtf8 text
  pub within : IsWithin f since

-- the other lines of a report
abbrev pub other_names : List (List ℕ)
other_names = codes "accepted" ∷ codes "refused" ∷ codes "closed" ∷ codes "trial" ∷ codes "timetable" ∷ codes "refused_timetable" ∷ []

abbrev pub is_one_of : List (List ℕ) → Option (List ℕ) → Bool
is_one_of names None = false
is_one_of names (Some name) = list_any (bytes_eq name) names

-- an object whose `line` is one of them
abbrev pub is_other : Data → Bool
is_other d = is_one_of other_names (text_at (codes "line") d)

-- a text that is JSON, and such an object
abbrev pub is_other_line : Option Data → Bool
is_other_line None = false
is_other_line (Some d) = is_other d

-- a text spells no finding
abbrev pub SpellsNothing : List ℕ → Type 0
SpellsNothing text = (f : Found) (since : ℕ) → Spells text f since → ⊥

-- Confirmed where the text spells a finding whose facts break its rule, denied where they don't; where it spells none, other or
-- malformed.
abbrev pub IsVerdict : List ℕ → Verdict → Type 0
IsVerdict text (verdict.Confirmed f since) = Spells text f since × Breaks f.rule f.place f.facts
IsVerdict text verdict.Denied = (f : Found) × (since : ℕ) × Spells text f since × (Breaks f.rule f.place f.facts → ⊥)
IsVerdict text verdict.Other = SpellsNothing text × (is_other_line (tree_of text) ≡ true)
IsVerdict text verdict.Malformed = SpellsNothing text × (is_other_line (tree_of text) ≡ false)

-- ---- as it is computed
abbrev pub judged : Said → Verdict
judged said = if does_break said.rule said.place said.facts then verdict.Confirmed (found_of said) said.since else verdict.Denied

abbrev pub unspelled : Data → Verdict
unspelled d = if is_other d then verdict.Other else verdict.Malformed

abbrev pub judged_or : Verdict → Option Said → Verdict
judged_or unless None = unless
judged_or unless (Some said) = judged said

abbrev pub tree_verdict : List ℕ → Option Data → Verdict
tree_verdict text None = verdict.Malformed
tree_verdict text (Some d) = judged_or (unspelled d) (spelled_in text d)

abbrev pub verdict_of : List ℕ → Verdict
verdict_of text = tree_verdict text (tree_of text)
