-- Laws of counts.
use Rattle.std.specs.Prelude.{◌≡◌, ℕ, ◌+◌, List, length}
use Rattle.std.specs.List.{sum_by}
use Rattle.rule_tally.specs.declared.tally.Tally.{Tally}
use Rattle.report_counts.specs.Counts.{Ignored, counts_of}
use Rattle.report_counts.specs.declared.counts.Counts.{Counts}

abbrev pub lines_in : Tally → ℕ
lines_in tally = tally.findings + tally.closings

-- the lines of rules
abbrev pub lines_of_rules : List Tally → ℕ
lines_of_rules tallies = sum_by lines_in tallies

-- what isn't ignored counts once, and is of a snapshot, a timetable, a rule, a trial or none
abbrev pub counted : Counts → ℕ
counted counts = counts.accepted + counts.refused + counts.exchanged + counts.refused_timetables + counts.trials + counts.foreign + lines_of_rules counts.rules

abbrev pub EachLineCounts : Type 0
EachLineCounts = (ignored : Ignored) (lines : List (List ℕ)) → (counts_of ignored lines).ignored + counted (counts_of ignored lines) ≡ length lines
