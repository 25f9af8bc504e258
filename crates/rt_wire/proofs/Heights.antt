-- The depth of a list of fields is the greatest height of its groups.
use Rattle.std.proofs.Common.{◌≡◌, ℕ, zero, suc, ◌≤◌, List, [], ◌∷◌, ◌⊎◌, inl, inr, refl, sym, ap, subst, arith}
use Rattle.rt_wire.specs.Fields.{WireValue, Varint, Fixed64, Len, Group, Fixed32, WireField, NoGroup, Joins, Spells, ValueSpelled}
use Rattle.rt_wire.specs.Depth.{IsGroupDepth, Nest, no_field, plain, group, greatest_height, NestsAs, DepthIsHeight}
use Rattle.rt_wire.proofs.Sound.{joins_more, spells_more, plain_spells}
use Rattle.rt_wire.proofs.Whole.{spelling_is_unique}

-- the bytes between a group's tags
abbrev payload_of : WireValue → List ℕ
payload_of (Group p) = p
payload_of _ = []

-- a list that is spelled with lower groups is spelled with higher ones
joins_higher : (low high : ℕ) (l : List WireField) (bytes : List ℕ) → low ≤ high → Joins (Spells low) l bytes → Joins (Spells high) l bytes
joins_higher low high l bytes le j = joins_more (Spells low) (Spells high) l bytes (λ r b s. spells_more low high r b le s) j

-- ---- spelled at the height

plain_fits : (k : ℕ) (r : WireField) (b : List ℕ) → NoGroup r.value → Spells 100 r b → Spells k r b
unfolding Spells
plain_fits k r b is_plain s = plain_spells k (Spells 99) r b is_plain s

value_fits : (k number : ℕ) (x : WireValue) (p b : List ℕ) (fields : List WireField) → x ≡ Group p → Joins (Spells k) fields p → ValueSpelled (Spells 99) number x b → ValueSpelled (Spells k) number x b
value_fits k number (Group q) p b fields e j v = (fields, v.1, subst (λ (s : List ℕ). Joins (Spells k) fields s) (sym (ap payload_of e)) j, v.3, v.4)
value_fits k number (Varint n) p b fields e j v = absurd cc
value_fits k number (Fixed64 n) p b fields e j v = absurd cc
value_fits k number (Len q) p b fields e j v = absurd cc
value_fits k number (Fixed32 n) p b fields e j v = absurd cc

group_fits : (k : ℕ) (r : WireField) (p b : List ℕ) (fields : List WireField) → r.value ≡ Group p → Joins (Spells k) fields p → Spells 100 r b → Spells (suc k) r b
unfolding Spells
group_fits k r p b fields e j s = (s.0, s.1, s.2, s.3, value_fits k r.number r.value p s.1 fields e j s.4)

fits : (t : Nest) (l : List WireField) (bytes : List ℕ) (k : ℕ) → NestsAs t l → greatest_height t ≤ k → Joins (Spells 100) l bytes → Joins (Spells k) l bytes
fits no_field [] bytes k n le j = j
fits no_field (r ∷ l) bytes k n le j = absurd n
fits (plain others) [] bytes k n le j = absurd n
fits (plain others) (r ∷ l) bytes k n le j = (j.0, j.1, j.2, plain_fits k r j.0 n.0 j.3, fits others l j.1 k n.1 le j.4)
fits (group inside others) [] bytes k n le j = absurd n
fits (group inside others) (r ∷ l) bytes zero n le j = absurd (omega (arith, le))
fits (group inside others) (r ∷ l) bytes (suc k) n le j =
    let low : greatest_height inside ≤ k = omega (arith, le) in
    let last : greatest_height others ≤ suc k = omega (arith, le) in
    (j.0, j.1, j.2, group_fits k r n.0 j.0 n.1 n.2 (fits inside n.1 n.0 k n.4 low n.3) j.3, fits others l j.1 (suc k) n.5 last j.4)

-- ---- and no lower

inside_value : (h number : ℕ) (x : WireValue) (p b : List ℕ) → x ≡ Group p → ValueSpelled (Spells h) number x b → (fields : List WireField) × Joins (Spells h) fields p
inside_value h number (Group q) p b e v = (v.0, subst (λ (s : List ℕ). Joins (Spells h) v.0 s) (ap payload_of e) v.2)
inside_value h number (Varint n) p b e v = absurd cc
inside_value h number (Fixed64 n) p b e v = absurd cc
inside_value h number (Len q) p b e v = absurd cc
inside_value h number (Fixed32 n) p b e v = absurd cc

inside_group : (h : ℕ) (r : WireField) (p b : List ℕ) → r.value ≡ Group p → Spells (suc h) r b → (fields : List WireField) × Joins (Spells h) fields p
unfolding Spells
inside_group h r p b e s = inside_value h r.number r.value p s.1 e s.4

no_group_at_zero : (r : WireField) (p b : List ℕ) → r.value ≡ Group p → Spells zero r b → ⊥
unfolding Spells
no_group_at_zero r p b e s = subst NoGroup e s.0

least : (t : Nest) (l : List WireField) (bytes : List ℕ) (h : ℕ) → h ≤ 100 → NestsAs t l → Joins (Spells h) l bytes → greatest_height t ≤ h
least no_field l bytes h le n j = omega arith
least (plain others) [] bytes h le n j = absurd n
least (plain others) (r ∷ l) bytes h le n j = least others l j.1 h le n.1 j.4
least (group inside others) [] bytes h le n j = absurd n
least (group inside others) (r ∷ l) bytes zero le n j = absurd (no_group_at_zero r n.0 j.0 n.2 j.3)
least (group inside others) (r ∷ l) bytes (suc h) le n j =
    let v = inside_group h r n.0 j.0 n.2 j.3 in
    let same : v.0 ≡ n.1 = spelling_is_unique.list v.0 n.1 n.0 (joins_higher h 100 v.0 n.0 (omega (arith, le)) v.1) n.3 in
    let low : greatest_height inside ≤ h = least inside n.1 n.0 h (omega (arith, le)) n.4 (subst (λ (m : List WireField). Joins (Spells h) m n.0) same v.1) in
    let last : greatest_height others ≤ suc h = least others l j.1 (suc h) le n.5 j.4 in
    omega (arith, low, last)

-- ---- every list nests

-- what a value is: no group, or one whose fields nest
abbrev ValueNests : WireValue → Type 0
ValueNests x = NoGroup x ⊎ ((payload : List ℕ) × (fields : List WireField) × (inside : Nest) × (x ≡ Group payload) × Joins (Spells 100) fields payload × NestsAs inside fields)

list_nests : (S : WireField → List ℕ → Type 0) → ((r : WireField) (b : List ℕ) → S r b → ValueNests r.value) → (l : List WireField) (bytes : List ℕ) → Joins S l bytes → (t : Nest) × NestsAs t l
list_nests S each [] bytes j = (no_field, tt)
list_nests S each (r ∷ l) bytes j =
    let rest = list_nests S each l j.1 j.4 in
    elim (each r j.0 j.3) [
      | inl is_plain ↦ (plain rest.0, (is_plain, rest.1))
      | inr g ↦ (group g.2 rest.0, (g.0, g.1, g.3, g.4, g.5, rest.1))
    ]

value_nests : (h number : ℕ) (x : WireValue) (b : List ℕ) → h ≤ 99 → ((r : WireField) (c : List ℕ) → Spells h r c → ValueNests r.value) → ValueSpelled (Spells h) number x b → ValueNests x
value_nests h number (Group p) b le each v = let t = list_nests (Spells h) each v.0 p v.2 in inr (p, v.0, t.0, refl, joins_higher h 100 v.0 p (omega (arith, le)) v.2, t.1)
value_nests h number (Varint n) b le each v = inl tt
value_nests h number (Fixed64 n) b le each v = inl tt
value_nests h number (Len q) b le each v = inl tt
value_nests h number (Fixed32 n) b le each v = inl tt

field_nests : (h : ℕ) → h ≤ 100 → (r : WireField) (b : List ℕ) → Spells h r b → ValueNests r.value
unfolding Spells
field_nests zero le r b s = inl s.0
field_nests (suc h) le r b s = value_nests h r.number r.value s.1 (omega (arith, le)) (field_nests h (omega (arith, le))) s.4

nests : (l : List WireField) (bytes : List ℕ) → Joins (Spells 100) l bytes → (t : Nest) × NestsAs t l
nests l bytes j = list_nests (Spells 100) (field_nests 100 (omega arith)) l bytes j

height : (bytes : List ℕ) (d : ℕ) (l : List WireField) (t : Nest) → IsGroupDepth bytes d → Joins (Spells 100) l bytes → NestsAs t l → d ≡ greatest_height t
height bytes d l t m j n =
    let same : m.fields ≡ l = spelling_is_unique.list m.fields l bytes (joins_higher d 100 m.fields bytes m.limit m.joins) j in
    let low : greatest_height t ≤ d = least t l bytes d m.limit n (subst (λ (k : List WireField). Joins (Spells d) k bytes) same m.joins) in
    let high : d ≤ greatest_height t = m.least (greatest_height t) l (fits t l bytes (greatest_height t) n (omega arith) j) in
    omega (arith, low, high)

pub depth_is_height : DepthIsHeight
depth_is_height = record { nests = nests; height = height }
