-- How many entities are judged again is what the definition counts after a history.
use Rattle.std.specs.Prelude.{◌≡◌, ℕ, ◌+◌, ◌*◌, ◌≤◌, List, Option, length}
use Rattle.std.proofs.Common.{ap, sym, subst, ◌∙◌, arith}
use Rattle.timetable.specs.Timetables.{Tables}
use Rattle.rule_table.specs.declared.key.EntityKey.{EntityKey}
use Rattle.rule_history.specs.Changed.{count_of}
use Rattle.rule_history.specs.History.{Snapshot}
use Rattle.follow_engine.specs.entity_index.Held.{KeyedValues}
use Rattle.timetable_exchange.specs.Retested.{differs, entities_after, keys_of_differing, retested}
use Rattle.timetable_exchange.proofs.Picked.{picked_count}

pub retested_is : (t x u : Option Tables) (h : List Snapshot) (es : KeyedValues) (keys : List EntityKey) → keys ≡ keys_of_differing t u es → t ≡ x → es ≡ entities_after h → length keys ≡ retested x u h
retested_is t x u h es keys k e a = ap (λ (ks : List EntityKey). length ks) k ∙ picked_count (differs t u) es ∙ ap (λ y. count_of (differs y u) es) e ∙ ap (count_of (differs x u)) a

-- so many tests were made for them, or at most so many
pub tests_are : (old new n m : ℕ) → n ≡ m → new ≡ old + 40 * n → new ≡ old + 40 * m
tests_are old new n m e h = subst (λ k. new ≡ old + 40 * k) e h

pub most_are : (old new n m : ℕ) → n ≡ m → new ≤ old + 40 * n → new ≤ old + 40 * m
most_are old new n m e h = subst (λ k. new ≤ old + 40 * k) e h
