-- Bytes are those of a group exactly where they are read as one between tags.
use Rattle.std.proofs.Common.{◌≡◌, ℕ, zero, suc, ◌<◌, List, [], ◌∷◌, ◌++◌, map, Option, Some, None, Result, Ok, Err, Bool, true, false, refl, sym, ap, subst, arith}
use Rattle.std.specs.Prelude.{slice_index, IsTrue, ◌↔◌}
use Rattle.std.proofs.lemmas.List.{append-nil, get_or_past}
use Rattle.std.proofs.lemmas.Slice.Eq.{bytes_eq-Decides}
use Rattle.rt_wire.specs.declared.fault.WireFault.{WireFault}
use Rattle.rt_wire.specs.Fields.{WireField, WireValue, Varint, Fixed64, Len, Group, Fixed32, Joins, Spells, IsBytes}
use Rattle.rt_wire.specs.Placed.{PlacedField, placed_fields}
use Rattle.rt_wire.specs.Varint.{minimal, minimal_for}
use Rattle.rt_wire.specs.Writing.{spell, GroupIsWhole}
use Rattle.rt_wire.specs.Laws.{fault_last}
use Rattle.rt_wire.proofs.Writes.{writing_is_exact}
use Rattle.rt_wire.proofs.Whole.{spelled_is_read, read_is_spelled}
use Rattle.feed_json.specs.Unform.{is_group, is_one_group, is_whole, between_tags, field}
use Rattle.feed_json.proofs.Members.{same_text}

spell_between : (group : List ℕ) → spell (field 1 (Group group)) ≡ between_tags group
unfolding spell minimal minimal_for
spell_between group = refl

spelled : (group : List ℕ) → GroupIsWhole (Group group) → Spells 100 (field 1 (Group group)) (between_tags group)
spelled group whole = subst (λ (b : List ℕ). Spells 100 (field 1 (Group group)) b) (spell_between group) (writing_is_exact.spelled (field 1 (Group group)) (record { positive = omega arith; small = omega arith; group = whole }) tt)

one_group : (group : List ℕ) (f : WireField) (parts : List (Result PlacedField WireFault)) (places : List PlacedField) → f
    ≡ field 1 (Group group) → parts ≡ map (λ p. Ok p) places → map (λ p. p.field) places ≡ f ∷ [] → is_one_group group parts ≡ true
one_group group f parts [] is all fields = cc
one_group group f parts (p ∷ []) is all fields =
    let same : p.field ≡ field 1 (Group group) = cc in
    rw (all, same) (same_text group)
one_group group f parts (p ∷ q ∷ ps) is all fields = cc

pub whole_group : (group : List ℕ) → GroupIsWhole (Group group) → is_whole group ≡ true
whole_group group whole =
    let h = spelled_is_read (field 1 (Group group) ∷ []) (between_tags group) (
      between_tags group,
      [],
      sym (append-nil (between_tags group)),
      spelled group whole,
      refl,
    ) in
    one_group group (field 1 (Group group)) (placed_fields (between_tags group)) h.places refl h.all h.fields

-- ---- what is read as a group is one

-- what stands alone, and no fault
alone : (parts : List (Result PlacedField WireFault)) (p : PlacedField) (fields : List PlacedField) (fault : Option WireFault) → parts
    ≡ Ok p ∷ [] → parts ≡ map (λ q. Ok q) fields ++ fault_last fault → (fields ≡ p ∷ []) × (fault ≡ None)
alone parts p [] None one all = cc
alone parts p [] (Some f) one all = cc
alone parts p (q ∷ []) None one all = (cc, refl)
alone parts p (q ∷ []) (Some f) one all = cc
alone parts p (q ∷ r ∷ fields) fault one all = cc

past : (group : List ℕ) (i : ℕ) → IsBytes group → slice_index (group ++ 12 ∷ []) i < 256
past [] zero ok = omega arith
past [] (suc i) ok = let none : slice_index (12 ∷ []) (suc i) ≡ 0 =
    get_or_past {X = ℕ} (12 ∷ []) (suc i) 0 (omega arith) in omega (arith, none)
past (b ∷ group) zero ok = ok 0
past (b ∷ group) (suc i) ok = past group i (λ k. ok (suc k))

tagged_bytes : (group : List ℕ) → IsBytes group → IsBytes (between_tags group)
tagged_bytes group ok zero = omega arith
tagged_bytes group ok (suc i) = past group i ok

at_field : (group : List ℕ) (p : PlacedField) → IsBytes group → placed_fields (between_tags group) ≡ Ok p ∷ [] → p.field.value
    ≡ Group group → GroupIsWhole (Group group)
at_field group p ok one is =
    let h = read_is_spelled (between_tags group) (tagged_bytes group ok) in
    let e = alone (placed_fields (between_tags group)) p h.fields h.fault one h.parts in
    let j : Joins (Spells 100) (p.field ∷ []) h.front = rw e.0 at h.joins in
    rw is at (writing_is_exact.can p.field j.0 j.3).0.group

value_is : (group : List ℕ) (x : WireValue) → is_group group x ≡ true → x ≡ Group group
value_is group (Group g) e = ap Group ((bytes_eq-Decides g group).0 e)
value_is group (Varint n) e = cc e
value_is group (Fixed64 n) e = cc e
value_is group (Len p) e = cc e
value_is group (Fixed32 n) e = cc e

from_parts : (group : List ℕ) (parts : List (Result PlacedField WireFault)) → IsBytes group → placed_fields (between_tags group) ≡ parts
    → is_one_group group parts ≡ true → GroupIsWhole (Group group)
from_parts group [] ok e one = cc one
from_parts group (Ok p ∷ []) ok e one = at_field group p ok e (value_is group p.field.value one)
from_parts group (Ok p ∷ q ∷ parts) ok e one = cc one
from_parts group (Err f ∷ parts) ok e one = cc one

pub group_whole : (group : List ℕ) → IsBytes group → is_whole group ≡ true → GroupIsWhole (Group group)
group_whole group ok e = from_parts group (placed_fields (between_tags group)) ok refl e

-- whether bytes are those of a group, told either way
pub by_whole : (group : List ℕ) (b : Bool) → IsBytes group → IsTrue b ↔ GroupIsWhole (Group group) → b ≡ is_whole group
by_whole group b ok same = by_case b (is_whole group) refl refl
  where
    by_case : (x y : Bool) → b ≡ x → is_whole group ≡ y → x ≡ y
    by_case true true ex ey = refl
    by_case false false ex ey = refl
    by_case true false ex ey = cc (whole_group group (same.0 ex))
    by_case false true ex ey = cc (same.1 (group_whole group ok ey))
