-- Entities that pass a test, and their keys.
use Rattle.std.specs.Prelude.{◌≡◌, ℕ, suc, ◌+◌, Bool, true, false, cond, List, [], ◌∷◌, ◌++◌, filter, length, map, Option, refl}
use Rattle.std.specs.List.{list_any}
use Rattle.std.specs.declared.cmp.Ordering.TheVariants.{Less}
use Rattle.std.proofs.Common.{sym, ap, ◌∙◌, subst, arith}
use Rattle.std.proofs.lemmas.Bool.{or_left, or_right}
use Rattle.feed_values.specs.Schema.{Value}
use Rattle.feed_values.specs.Messages.{entity}
use Rattle.timetable.specs.Timetables.{Tables}
use Rattle.rule_table.specs.declared.key.EntityKey.{EntityKey}
use Rattle.rule_table.specs.Groups.{Each}
use Rattle.rule_table.specs.GroupLaws.{each_weaken}
use Rattle.rule_table.specs.Order.{key_cmp, same_key}
use Rattle.rule_table.specs.Rises.{Rises, Rising}
use Rattle.rule_history.specs.Changed.{count_of}
use Rattle.engine_laws.proofs.Spots.{key_self}
use Rattle.follow_engine.specs.entity_index.Held.{KeyedValues}
use Rattle.follow_engine.specs.entity_parts.Found.{local_found}
use Rattle.follow_engine.specs.Retabled.{AreKeysOf, FindAlikeBeside}

clash : {P : Type 0} → true ≡ false → P
clash e = cc

module _ (test : EntityKey × Value entity → Bool) where
  abbrev pub picked : KeyedValues → List EntityKey
  picked es = map (λ e. e.0) (filter test es)

  abbrev with_first : EntityKey × Value entity → KeyedValues → Bool → List EntityKey
  with_first e es b = map {B = EntityKey} (λ e. e.0) (cond b (e ∷ filter test es) (filter test es))

  abbrev is_in : List EntityKey → EntityKey → Bool
  is_in keys k = list_any (λ q. same_key q k) keys

  -- ---- in order
  above : (k : EntityKey) (es : KeyedValues) → Each (λ d. key_cmp k d.0 ≡ Less) es → Each (λ q. key_cmp k q ≡ Less) (picked es)
  above k [] h = tt
  above k (e ∷ es) h = elim (test e) as (λ b. Each (λ q. key_cmp k q ≡ Less) (with_first e es b)) [ true ↦ (h.0, above k es h.1) | false ↦ above k es h.1 ]

  picked_rise : (es : KeyedValues) → Rising es → Rises key_cmp (picked es)
  picked_rise [] h = tt
  picked_rise (e ∷ es) h = elim (test e) as (λ b. Rises key_cmp (with_first e es b)) [ true ↦ (above e.0 es h.0, picked_rise es h.1) | false ↦ picked_rise es h.1 ]

  -- ---- each of some entities

  all_in : (es : KeyedValues) → Each (λ e. is_in (map (λ d. d.0) es) e.0 ≡ true) es
  all_in [] = tt
  all_in (e ∷ es) = (
    or_left (same_key e.0 e.0) (is_in (map (λ d. d.0) es) e.0) (key_self e.0),
    each_weaken (λ d. is_in (map (λ x. x.0) es) d.0 ≡ true) (λ d. is_in (map (λ x. x.0) (e ∷ es)) d.0 ≡ true) (λ d m. or_right (same_key e.0 d.0) (is_in (map (λ x. x.0) es) d.0) m) es (all_in es),
  )

  each_picked : (P : EntityKey → Type 0) (es : KeyedValues) → Each (λ e. P e.0) es → Each P (picked es)
  each_picked P [] h = tt
  each_picked P (e ∷ es) h = elim (test e) as (λ b. Each P (with_first e es b)) [ true ↦ (h.0, each_picked P es h.1) | false ↦ each_picked P es h.1 ]

  pub named : (es : KeyedValues) → Rising es → AreKeysOf es (picked es)
  named es h = record { rise = picked_rise es h; among = each_picked (λ k. is_in (map (λ d. d.0) es) k ≡ true) es (all_in es) }

  -- ---- those that pass are among them
  passed_in : (es : KeyedValues) → Each (λ e. test e ≡ true → is_in (picked es) e.0 ≡ true) es
  passed_in [] = tt
  passed_in (e ∷ es) = (first, each_weaken (λ d. test d ≡ true → is_in (picked es) d.0 ≡ true) (λ d. test d ≡ true → is_in (picked (e ∷ es)) d.0 ≡ true) later es (passed_in es))
    where
      first : test e ≡ true → is_in (picked (e ∷ es)) e.0 ≡ true
      first h = ap (λ b. is_in (with_first e es b) e.0) h ∙ or_left (same_key e.0 e.0) (is_in (picked es) e.0) (key_self e.0)

      later : (d : EntityKey × Value entity) → (test d ≡ true → is_in (picked es) d.0 ≡ true) → test d ≡ true → is_in (picked (e ∷ es)) d.0 ≡ true
      later d m h = elim (test e) as (λ b. is_in (with_first e es b) d.0 ≡ true) [ true ↦ or_right (same_key e.0 d.0) (is_in (picked es) d.0) (m h) | false ↦ m h ]

  -- so two timetables that find the same by all that don't pass find the same beside those that do
  pub alike_beside : (t u : Option Tables) → ((e : EntityKey × Value entity) → test e ≡ false → local_found t e.0 e.1 ≡ local_found u e.0 e.1) → (es : KeyedValues) → FindAlikeBeside (picked es) t u es
  alike_beside t u alike es =
      each_weaken (λ e. test e ≡ true → is_in (picked es) e.0 ≡ true) (λ e. is_in (picked es) e.0 ≡ false → local_found t e.0 e.1 ≡ local_found u e.0 e.1)
      (λ e m h. either e (test e) refl m h) es (passed_in es)
    where
      either : (e : EntityKey × Value entity) (b : Bool) → test e ≡ b → (test e ≡ true → is_in (picked es) e.0 ≡ true) → is_in (picked es) e.0 ≡ false → local_found t e.0 e.1 ≡ local_found u e.0 e.1
      either e true q m h = clash (sym (m q) ∙ h)
      either e false q m h = alike e q

  -- ---- how many pass
  pub picked_count : (es : KeyedValues) → length (picked es) ≡ count_of test es
  picked_count [] = refl
  picked_count (e ∷ es) = elim (test e) as (λ b. length (with_first e es b) ≡ cond b 1 0 + count_of test es) [
    | true ↦ one (length (picked es)) (count_of test es) (picked_count es)
    | false ↦ none (length (picked es)) (count_of test es) (picked_count es)
  ]
    where
      one : (m n : ℕ) → m ≡ n → suc m ≡ 1 + n
      one m n h = omega (arith, h)

      none : (m n : ℕ) → m ≡ n → m ≡ 0 + n
      none m n h = omega (arith, h)
