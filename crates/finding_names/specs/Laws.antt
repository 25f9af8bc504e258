-- The text of each thing is read as it. (This profile.)
use Rattle.std.specs.Prelude.{◌≡◌, ◌<◌, ◌^◌, ℕ, List, false, Option, Some, ⊤, option_and_then}
use Rattle.feed_values.specs.declared.path.Path.{Path}
use Rattle.feed_values.specs.Cells.{has_item, way, path_text}
use Rattle.rule_table.specs.declared.ask.Ask.{Ask}
use Rattle.rule_table.specs.declared.ask.Ask.TheVariants as ask
use Rattle.rule_table.specs.declared.kind.Kind.{Kind}
use Rattle.rule_table.specs.declared.rule.RuleId.{RuleId}
use Rattle.rule_table.specs.Rules.{rule_name}
use Rattle.rt_report.specs.Findings.{ask_keys, ask_name, kind_name}
use Rattle.finding_names.specs.Asks.{ask_of}
use Rattle.finding_names.specs.AskNames.{ask_name_of}
use Rattle.finding_names.specs.Names.{kind_named, rule_named}
use Rattle.finding_names.specs.Paths.{path_named}

-- an index of 32 bits, which is 0 where the path's text shows none
pub record IsPathWithin (p : Path) : Type 0 where
  pub plain : has_item (way p.slot) ≡ false → p.index ≡ 0
  pub small : p.index < 2 ^ 32

-- paths, sequences of 32 bits and feeds of 8 bits
abbrev pub IsAskWithin : Ask → Type 0
IsAskWithin (ask.Cell p) = IsPathWithin p
IsAskWithin (ask.StopAt trip n) = n < 2 ^ 32
IsAskWithin (ask.ArrivalAt trip n) = n < 2 ^ 32
IsAskWithin (ask.DepartureAt trip n) = n < 2 ^ 32
IsAskWithin (ask.FirstId feed vehicle) = feed < 2 ^ 8
IsAskWithin (ask.FirstOccurrence feed vehicle) = feed < 2 ^ 8
IsAskWithin (ask.Peak feed vehicle) = feed < 2 ^ 8
IsAskWithin _ = ⊤

-- what a name and keys say together
abbrev pub ask_read : List ℕ → List (List ℕ) → Option Ask
ask_read text keys = option_and_then (λ n. ask_of n keys) (ask_name_of text)

abbrev pub RuleIsRead : Type 0
RuleIsRead = (rule : RuleId) → rule_named (rule_name rule) ≡ Some rule

abbrev pub KindIsRead : Type 0
KindIsRead = (kind : Kind) → kind_named (kind_name kind) ≡ Some kind

abbrev pub PathIsRead : Type 0
PathIsRead = (p : Path) → IsPathWithin p → path_named (path_text p.slot p.index) ≡ Some p

abbrev pub AskIsRead : Type 0
AskIsRead = (a : Ask) → IsAskWithin a → ask_read (ask_name a) (ask_keys a) ≡ Some a
