-- What `merge` is to write and to answer. (This profile.)
use Rattle.std.specs.Prelude.{ℕ, ◌+◌, List, [], ◌∷◌, ◌++◌, map, length, nat_lt, is_ok, if◌then◌else◌, Result, Ok, Err}
use Rattle.std.specs.FinMap.{get}
use Rattle.std.specs.List.{list_all}
use Rattle.rt_outside.specs.Store.{Contents}
use Rattle.feed_values.specs.Schema.{Value}
use Rattle.feed_values.specs.Messages.{feed_message}
use Rattle.feed_values.specs.Accepted.{snapshot_limit}
use Rattle.feed_values.specs.Canonical.{canonical}
use Rattle.feed_codec.specs.declared.refusal.Refusal.{Refusal}
use Rattle.feed_merge.specs.Union.{united}
use Rattle.snapshot_lines.specs.Lines.{line_of, refused}
use Rattle.run_base.specs.declared.status.Status.{Status}
use Rattle.run_base.specs.declared.status.Status.TheVariants as answer
use Rattle.run_base.specs.Faults.{large_union_text}
use Rattle.run_base.specs.Found.{snapshot_in}
use Rattle.run_base.specs.Report.{Report, refused_input}

-- ---- what files hold
-- what the snapshot of each says, or why it is refused
abbrev pub Found : Type 0
Found = List (Result (Value feed_message) Refusal)

abbrev pub found_in : Contents → List (List ℕ) → Found
found_in contents files = map (λ file. snapshot_in (get contents file)) files

abbrev pub accepted_values : Found → List (Value feed_message)
accepted_values [] = []
accepted_values (Ok v ∷ found) = v ∷ accepted_values found
accepted_values (Err why ∷ found) = accepted_values found

-- the lines of those that are refused, by the numbers of their files, of which the first is given
abbrev pub refused_lines : ℕ → Found → List ℕ
refused_lines number [] = []
refused_lines number (Ok v ∷ found) = refused_lines (number + 1) found
refused_lines number (Err why ∷ found) = line_of (refused number why) ++ refused_lines (number + 1) found

-- ---- the report
-- these bytes, and this answer
abbrev pub written : List ℕ → Status → Report
written bytes status = record { text = bytes; errors = []; status = status }

-- a union, where it may be a snapshot
abbrev pub union_report : Value feed_message → Report
union_report v = if nat_lt snapshot_limit (length (canonical feed_message v)) then refused_input large_union_text else written (canonical feed_message v) answer.Clean

-- the union of all, where all are accepted, and else the lines of those that aren't
abbrev pub merged_report : Found → Report
merged_report found = if list_all is_ok found then union_report (united (accepted_values found)) else written (refused_lines 0 found) answer.Found

-- the report of `merge` on files, which are feeds in their order
abbrev pub merge_report : List (List ℕ) → Contents → Report
merge_report files contents = merged_report (found_in contents files)
