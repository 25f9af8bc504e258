use Rattle.std.proofs.Common.{◌≡◌, ◌||◌, ◌∷◌, [], length, ap, ◌∙◌, sym, refl, arith, rules}
use Rattle.std.proofs.Math.Bool.{or-false}
use Rattle.std.proofs.lemmas.List.{nil_from_length}
use Rattle.std.specs.BTreeSet.{contains}
use Rattle.std.specs.List.{list_any}
use Rattle.std.specs.Vec.Iter.{into_iter_items}
use Rattle.rule_table.specs.Order.{key_cmp, same_key}
use Rattle.pairing_rules.proofs.SharedKeys.{key-put}
use Rattle.held_feeds.specs.row_changes.ListsProofs.{one-less}
use Rattle.snapshot_steps.proofs.touching.put_keys.Goals as goal

pub loop-key-init : goal.loop-key-init
loop-key-init c = record {
  keys_are = λ k. ap (λ xs. contains key_cmp c.args.keys.now k || list_any (same_key k) xs) (c.into_iter-key-iterator.ensures.into_iter_gives.0 ∙ c.into_vec-key-items.ensures);
  length_is = search rules;
}

pub loop-key-preserved : goal.loop-key-preserved
loop-key-preserved c =
    let at = c.loop-key in
    let x = c.in-Some.key in
    let steps : into_iter_items at.key-iterator ≡ x ∷ into_iter_items c.next.new.self = c.in-Some.ensures.steps.0 in
    record {
      keys_are = λ k.
          one-less (same_key k) _ _ _ x _ (into_iter_items c.next.new.self) (c.in_ok-insert.ensures.updates.0 k ∙ key-put k x x (contains key_cmp at.keys k) refl) steps (at.invariant.keys_are k);
      length_is =
          let was = at.invariant.length_is in
          let gone = c.in-Some.ensures.steps.1 in
          let short = ap length steps in
          omega arith;
    }

pub returns : goal.returns
returns c = λ k.
    let at = c.loop-key in
    let none = c.in-None.ensures.steps in
    let empty : into_iter_items at.key-iterator ≡ [] = nil_from_length _ (sym at.invariant.length_is ∙ none.0) in
    sym (ap (λ xs. contains key_cmp at.keys k || list_any (same_key k) xs) empty ∙ or-false (contains key_cmp at.keys k)) ∙ at.invariant.keys_are k
