use Rattle.std.proofs.Common.{◌≡◌, ℕ, ◌+◌, ◌*◌, ◌≤◌, drop, length}
use Rattle.rule_table.specs.declared.key.EntityKey.{EntityKey}
use Rattle.rule_table.specs.Order.{key_cmp}
use Rattle.rule_table.specs.Rises.{Rises}
use Rattle.entity_parts.specs.standing_walks.Walked.{IsInOrder}
use Rattle.touched_entities.specs.Again.{AreSameFeeds, list_under, lists_then, told_then}
use Rattle.touched_entities.specs.Told.{AreTolds, header_told}
use Rattle.touched_entities.proofs.again.judge_again.Given as goal

abbrev pub invariant-loop-key : goal.invariant-loop-key
invariant-loop-key g l =
    let part = l.renewal.part in
    let n = l.renewal.applied in
    let find = g.J.EntityPart.found l.renewal.judge.now in
    let count = g.J.EntityPart.count l.renewal.judge.now in
    let rest = drop l.key-index l.keys in
    record {
      lists_are : (k : EntityKey) → lists_then part n find rest l.index k ≡ lists_then part n find l.keys l.fn.index k;
      told_are : (k : EntityKey) → told_then part n find rest l.index l.tolds k ≡ told_then part n find l.keys l.fn.index l.fn.tolds k;
      feeds_are : AreSameFeeds l.fn.index l.index;
      headers_are : (f : ℕ) → header_told l.tolds f ≡ header_told l.fn.tolds f;
      own : AreTolds l.fn.tolds → AreTolds l.tolds;
      rises : Rises key_cmp rest;
      ordered : (k : EntityKey) → IsInOrder (list_under l.index k part);
      within : l.key-index ≤ length l.keys;
      ticked : l.tests ≡ l.fn.tests + count * l.key-index;
    }
