use Rattle.std.proofs.Common.{◌≡◌, ◌++◌, ℕ, map, false, true}
use Rattle.std.specs.Prelude.{◌==◌}
use Rattle.rule_table.specs.declared.key.EntityKey.{EntityKey}
use Rattle.rule_table.specs.Groups.{Each}
use Rattle.entity_parts.specs.part_laws.Touched.{is_among}
use Rattle.entity_index.specs.Held.{held_at}
use Rattle.touched_entities.specs.Again.{lists_under}
use Rattle.touched_entities.specs.Exchanged.{AreDistinct, values_of}
use Rattle.touched_entities.proofs.exchanging.move_lists.Given as goal

abbrev pub invariant-loop-incoming : goal.invariant-loop-incoming
invariant-loop-incoming l =
    record {
      values : values_of l.came ++ values_of l.incoming-iterator.rest.items ≡ values_of l.fn.coming;
      lists : Each (λ c. c.parts ≡ lists_under l.fn.index c.key) l.came;
      distinct : AreDistinct (map (λ c. c.key) l.incoming-iterator.rest.items);
      left : (k : EntityKey) → is_among (map (λ c. c.key) l.incoming-iterator.rest.items) k ≡ true → lists_under l.index k ≡ lists_under l.fn.index k;
      others : (k : EntityKey) → is_among (map (λ c. c.key) l.fn.coming) k ≡ false → lists_under l.index k ≡ lists_under l.fn.index k;
      bytes : (f : ℕ) → (held_at l.index f).bytes ≡ (held_at l.fn.index f).bytes;
      far : (f : ℕ) → ((k : EntityKey) → is_among (map (λ c. c.key) l.fn.coming) k ≡ true → (k.feed == f) ≡ false) → held_at l.index f ≡ held_at l.fn.index f;
      among : (k : EntityKey) → is_among (map (λ c. c.key) l.incoming-iterator.rest.items) k ≡ true → is_among (map (λ c. c.key) l.fn.coming) k ≡ true;
    }
