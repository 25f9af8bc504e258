-- What the code holds while it reads.
use Rattle.std.specs.Prelude.{◌≡◌, ℕ, List, [], ◌∷◌, ◌++◌, map, Result, Ok, Err}
use Rattle.feed_values.specs.Schema.{Value}
use Rattle.feed_values.specs.Messages.{feed_message}
use Rattle.feed_values.specs.Snapshot.{snapshot_value}
use Rattle.feed_codec.specs.declared.refusal.Refusal.{Refusal}
use Rattle.feed_merge.specs.Union.{united}
use Rattle.run_base.specs.declared.status.Status.TheVariants as answer
use Rattle.run_base.specs.Report.{Report}
use Rattle.run_merge.specs.declared.gathered.Gathered.{Gathered}
use Rattle.run_merge.specs.Merged.{Found, accepted_values, refused_lines, union_report, written}

-- what the bytes of a snapshot say, where it isn't refused
abbrev pub value_said : Result (List ℕ) Refusal → Result (Value feed_message) Refusal
value_said (Ok bytes) = Ok (snapshot_value bytes)
value_said (Err why) = Err why

-- what was found is gathered
pub record IsGathered (found : Found) (gathered : Gathered) : Type 0 where
  pub feeds_are : map snapshot_value gathered.feeds ≡ accepted_values found
  pub refused_are : gathered.refused.items ≡ refused_lines 0 found

-- what was found in the file of a number, its bytes or a refusal, was added
pub record Adds (number : ℕ) (one : Result (List ℕ) Refusal) (before after : Gathered) : Type 0 where
  pub feeds_are : map snapshot_value after.feeds ≡ map snapshot_value before.feeds ++ accepted_values (value_said one ∷ [])
  pub refused_are : after.refused.items ≡ before.refused.items ++ refused_lines number (value_said one ∷ [])

-- the report on what was gathered, where there are lines of refused ones or aren't
abbrev pub report_on : List (List ℕ) → List ℕ → Report
report_on feeds [] = union_report (united (map snapshot_value feeds))
report_on feeds (byte ∷ lines) = written (byte ∷ lines) answer.Found

abbrev pub gathered_report : Gathered → Report
gathered_report gathered = report_on gathered.feeds gathered.refused.items
