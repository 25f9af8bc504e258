use Rattle.std.proofs.Common.{◌≡◌, ℕ, drop}
use Rattle.std.specs.Prelude.{if◌then◌else◌}
use Rattle.rule_table.specs.declared.key.EntityKey.{EntityKey}
use Rattle.rule_table.specs.Order.{key_cmp}
use Rattle.rule_table.specs.Rises.{Rises}
use Rattle.entity_parts.specs.part_laws.Touched.{is_among}
use Rattle.touched_entities.specs.Left.{told_left}
use Rattle.touched_entities.specs.Told.{AreTolds, header_told, told_at}
use Rattle.touched_entities.proofs.leaving.close_gone.Given as goal

abbrev pub invariant-loop-key : goal.invariant-loop-key
invariant-loop-key l =
    record {
      told_are : (k : EntityKey) → (if is_among (drop l.key-index l.keys) k then told_left l.index k (told_at l.tolds k) else told_at l.tolds k) ≡ (if is_among l.keys k then told_left l.index k (told_at l.fn.tolds k) else told_at l.fn.tolds k);
      headers_are : (f : ℕ) → header_told l.tolds f ≡ header_told l.fn.tolds f;
      own : AreTolds l.fn.tolds → AreTolds l.tolds;
      rises : Rises key_cmp (drop l.key-index l.keys);
    }
