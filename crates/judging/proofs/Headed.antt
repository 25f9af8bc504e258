-- The findings of the group on headers are those of all rules there.
use Rattle.std.specs.Prelude.{◌≡◌, ℕ, true, Option, refl}
use borrow.Author.Tests.{clash}
use Rattle.timetable.specs.Timetables.{Tables}
use Rattle.rule_table.specs.declared.ask.Ask.{Ask}
use Rattle.rule_table.specs.declared.ask.Ask.TheVariants as ask
use Rattle.rule_table.specs.Answers.{Gathered, Heads, heads_answer}
use Rattle.rule_table.specs.Judged.{head_found_all}
use Rattle.rule_table.specs.SameHeads.{heads_same}
use Rattle.rule_table.specs.Sources.{source_of, is_headed}
use Rattle.rule_history.specs.Answered.{shared_answer}
use Rattle.history_rules.specs.Rules.{head_rules}
use Rattle.judging.specs.Whole.{header_found}

module _ (t : Option Tables) (u : Gathered) (heads : Heads) where
  same : (q : Ask) → is_headed (source_of q) ≡ true → heads_answer heads q ≡ shared_answer t u heads q
  same (ask.HeadNow s) h = refl
  same (ask.HeadBefore s) h = refl
  same ask.Moment h = refl
  same ask.EntitiesChanged h = refl
  same _ h = absurd (clash h)

  -- the rules that aren't in the group have no place on a header
  pub headed_all : (f : ℕ) → head_found_all head_rules (heads_answer heads) f ≡ header_found t u heads f
  unfolding header_found
  headed_all f = heads_same (heads_answer heads) (shared_answer t u heads) same f head_rules refl
