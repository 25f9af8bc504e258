use Rattle.std.proofs.Common.{◌∙◌, List, sym, subst, refl}
use Rattle.feed_values.specs.Views.{natural}
use Rattle.rule_table.specs.declared.key.EntityKey.{EntityKey}
use Rattle.rule_history.specs.Answered.{tables_of}
use Rattle.rule_history.specs.Standing.{Standing}
use Rattle.held_feeds.specs.standing_walks.Walked.{IsInOrder}
use Rattle.history_rules.specs.HeldPeaks.{peak_of}
use Rattle.held_feeds.specs.entity_parts.Found.{bounded_found, local_found, paired_found, peaked_found}
use Rattle.held_feeds.specs.touched_entities.Again.{IsPassed}
use Rattle.snapshot_steps.proofs.Keys.{other_part}
use Rattle.snapshot_steps.proofs.parts.judge_parts.Goals as goal

pub judge_again-requires-clause-ordered : goal.judge_again-requires-clause-ordered
judge_again-requires-clause-ordered g c = λ k. c.requires.ordered k 0

pub judge_again-requires-2-clause-ordered : goal.judge_again-requires-2-clause-ordered
judge_again-requires-2-clause-ordered g c = λ k.
    subst (λ (xs : List Standing). IsInOrder xs)
    (sym (other_part 0 1 c.args.judges.now.applied (local_found (tables_of c.args.judges.now.local.table.now)) c.as_slice.result.now c.args.index.now c.judge_again.new.index c.args.tolds.now c.judge_again.new.tolds (λ l xs. refl) c.in_ok-judge_again.ensures.passed k))
    (c.requires.ordered k 1)

pub judge_again-requires-3-clause-ordered : goal.judge_again-requires-3-clause-ordered
judge_again-requires-3-clause-ordered g c = λ k.
    subst (λ (xs : List Standing). IsInOrder xs)
    (sym (other_part 1 2 c.args.judges.now.applied (paired_found c.args.judges.now.paired.rows.now) c.as_slice-2.result.now c.judge_again.new.index c.judge_again-2.new.index c.judge_again.new.tolds c.judge_again-2.new.tolds (λ l xs. refl) c.in_ok-judge_again-2.ensures.passed k
    ∙ other_part 0 2 c.args.judges.now.applied (local_found (tables_of c.args.judges.now.local.table.now)) c.as_slice.result.now c.args.index.now c.judge_again.new.index c.args.tolds.now c.judge_again.new.tolds (λ l xs. refl) c.in_ok-judge_again.ensures.passed k))
    (c.requires.ordered k 2)

pub judge_again-requires-4-clause-ordered : goal.judge_again-requires-4-clause-ordered
judge_again-requires-4-clause-ordered g c = λ k.
    subst (λ (xs : List Standing). IsInOrder xs)
    (sym (other_part 2 3 c.args.judges.now.applied (bounded_found (natural c.args.judges.now.bounded.header.now.timestamp) c.args.judges.now.bounded.moment) c.as_slice-3.result.now c.judge_again-2.new.index c.judge_again-3.new.index c.judge_again-2.new.tolds c.judge_again-3.new.tolds (λ l xs. refl) c.in_ok-judge_again-3.ensures.passed k
    ∙ other_part 1 3 c.args.judges.now.applied (paired_found c.args.judges.now.paired.rows.now) c.as_slice-2.result.now c.judge_again.new.index c.judge_again-2.new.index c.judge_again.new.tolds c.judge_again-2.new.tolds (λ l xs. refl) c.in_ok-judge_again-2.ensures.passed k
    ∙ other_part 0 3 c.args.judges.now.applied (local_found (tables_of c.args.judges.now.local.table.now)) c.as_slice.result.now c.args.index.now c.judge_again.new.index c.args.tolds.now c.judge_again.new.tolds (λ l xs. refl) c.in_ok-judge_again.ensures.passed k))
    (c.requires.ordered k 3)

pub returns-clause-passed : goal.returns-clause-passed
returns-clause-passed g c =
    let n = c.args.judges.now.applied in
    record {
      second = c.judge_again.new.index;
      third = c.judge_again-2.new.index;
      fourth = c.judge_again-3.new.index;
      second_told = c.judge_again.new.tolds;
      third_told = c.judge_again-2.new.tolds;
      fourth_told = c.judge_again-3.new.tolds;
      local_is = subst (λ (ks : List EntityKey). IsPassed 0 n (local_found (tables_of c.args.judges.now.local.table.now)) ks c.args.index.now c.judge_again.new.index c.args.tolds.now c.judge_again.new.tolds) c.as_slice.ensures c.in_ok-judge_again.ensures.passed;
      paired_is = subst (λ (ks : List EntityKey). IsPassed 1 n (paired_found c.args.judges.now.paired.rows.now) ks c.judge_again.new.index c.judge_again-2.new.index c.judge_again.new.tolds c.judge_again-2.new.tolds) c.as_slice-2.ensures c.in_ok-judge_again-2.ensures.passed;
      bounded_is = subst (λ (ks : List EntityKey). IsPassed 2 n (bounded_found (natural c.args.judges.now.bounded.header.now.timestamp) c.args.judges.now.bounded.moment) ks c.judge_again-2.new.index c.judge_again-3.new.index c.judge_again-2.new.tolds c.judge_again-3.new.tolds)
          c.as_slice-3.ensures c.in_ok-judge_again-3.ensures.passed;
      peaked_is = subst (λ (ks : List EntityKey). IsPassed 3 n (peaked_found (peak_of c.args.judges.now.peaked.peaks.now)) ks c.judge_again-3.new.index c.judge_again-4.new.index c.judge_again-3.new.tolds c.judge_again-4.new.tolds)
          c.as_slice-4.ensures c.in_ok-judge_again-4.ensures.passed;
    }
