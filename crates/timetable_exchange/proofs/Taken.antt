-- Entities that are taken one by one: the keys of those that differ, and how many there were.
use Rattle.std.specs.Prelude.{◌≡◌, ℕ, suc, ◌+◌, ◌^◌, ◌<◌, Bool, true, false, cond, List, [], ◌∷◌, ◌++◌, filter, length, map, Option, Some, None, refl}
use Rattle.std.specs.Iterator.{YieldsFirstBy}
use Rattle.std.proofs.Common.{sym, ap, ◌∙◌, subst, arith, append-nil, append_assoc}
use denote.Ref.{Bor}
use Rattle.feed_values.specs.Schema.{Value}
use Rattle.feed_values.specs.Messages.{entity}
use Rattle.feed_values.specs.declared.entity.Entity.{Entity}
use Rattle.timetable.specs.Timetables.{Tables}
use Rattle.rule_table.specs.declared.key.EntityKey.{EntityKey}
use Rattle.follow_engine.specs.entity_index.Held.{KeyedValues}
use Rattle.timetable_exchange.specs.Retested.{differs, keyed_value, keys_of_differing}

-- one that is handed out is the first of those that were left
pub handed_out : (left rest : KeyedValues) (r : Option (Bor EntityKey × Bor Entity)) (x : Bor EntityKey × Bor Entity) → r ≡ Some x → YieldsFirstBy keyed_value (λ l. l) left r rest → left ≡ keyed_value x ∷ rest
handed_out left rest r x e y = subst (λ o. YieldsFirstBy keyed_value (λ l. l) left o rest) e y

-- where none is, none was left
pub none_left : (left rest : KeyedValues) (r : Option (Bor EntityKey × Bor Entity)) → r ≡ None → YieldsFirstBy keyed_value (λ l. l) left r rest → left ≡ []
none_left left rest r e y = (subst (λ o. YieldsFirstBy keyed_value (λ l. l) left o rest) e y).0

module _ (t u : Option Tables) where
  given_first : (x : EntityKey × Value entity) (rest : KeyedValues) → keys_of_differing t u (x ∷ []) ++ keys_of_differing t u rest ≡ keys_of_differing t u (x ∷ rest)
  given_first x rest = elim (differs t u x) as (λ b. map {B = EntityKey} (λ (e : EntityKey × Value entity). e.0) (cond b (x ∷ []) []) ++ keys_of_differing t u rest ≡ map {B = EntityKey} (λ (e : EntityKey × Value entity). e.0) (cond b (x ∷ filter (differs t u) rest) (filter (differs t u) rest))) [
    | true ↦ refl
    | false ↦ refl
  ]

  -- its key comes to those that were taken, if it differs
  pub taken_more : (taken now : List EntityKey) (left : KeyedValues) (x : EntityKey × Value entity) (rest : KeyedValues) (all : List EntityKey) → left ≡ x ∷ rest → now ≡ taken ++ keys_of_differing t u (x ∷ []) →
      taken ++ keys_of_differing t u left ≡ all → now ++ keys_of_differing t u rest ≡ all
  taken_more taken now left x rest all next e before =
      ap (λ xs. xs ++ keys_of_differing t u rest) e
      ∙ append_assoc taken (keys_of_differing t u (x ∷ [])) (keys_of_differing t u rest)
      ∙ ap (λ xs. taken ++ xs) (given_first x rest)
      ∙ ap (λ es. taken ++ keys_of_differing t u es) (sym next)
      ∙ before

  -- where none is left, all are taken
  pub all_taken : (taken : List EntityKey) (left : KeyedValues) (all : List EntityKey) → left ≡ [] → taken ++ keys_of_differing t u left ≡ all → taken ≡ all
  all_taken taken left all none before = sym (append-nil taken) ∙ ap (λ es. taken ++ keys_of_differing t u es) (sym none) ∙ before

-- ---- how many there are
pub counted_more : (count : ℕ) (left : KeyedValues) (x : EntityKey × Value entity) (rest : KeyedValues) (all : ℕ) → left ≡ x ∷ rest → count + length left ≡ all → (count + 1) + length rest ≡ all
counted_more count left x rest all next before = over count (length rest) ∙ ap (λ es. count + length es) (sym next) ∙ before
  where
    over : (m n : ℕ) → (m + 1) + n ≡ m + suc n
    over m n = omega arith

pub all_counted : (count : ℕ) (left : KeyedValues) (all : ℕ) → left ≡ [] → count + length left ≡ all → count ≡ all
all_counted count left all none before = none_more count ∙ ap (λ es. count + length es) (sym none) ∙ before
  where
    none_more : (n : ℕ) → n ≡ n + 0
    none_more n = omega arith

-- one more can be counted
pub counted_fits : (count : ℕ) (left : KeyedValues) (x : EntityKey × Value entity) (rest : KeyedValues) (all : ℕ) → left ≡ x ∷ rest → count + length left ≡ all → all < 2 ^ 64 → count + 1 < 2 ^ 64
counted_fits count left x rest all next before few = under count (length rest) all (ap (λ es. count + length es) (sym next) ∙ before) few
  where
    under : (m n all : ℕ) → m + suc n ≡ all → all < 2 ^ 64 → m + 1 < 2 ^ 64
    under m n all e l = omega (arith, e, l)
