-- Fronts of groups: what stands behind one makes a longer front, a whole group, or a fault of the whole.
use Rattle.std.proofs.Common.{◌≡◌, ℕ, zero, suc, ◌+◌, ◌-◌, ◌<◌, ◌≤◌, List, [], ◌∷◌, ◌++◌, length, append_assoc, append-nil, refl, sym, ap, subst, ◌∙◌, arith}
use Rattle.std.proofs.lemmas.List.{length-append}
use Rattle.rt_wire.specs.declared.fault.WireFault.{WireFault}
use Rattle.rt_wire.specs.Fields.{WireField, Group, IsTag, Joins, Spells}
use Rattle.rt_wire.specs.Placed.{fault_moved}
use Rattle.rt_wire.specs.Faults.{fault_at, FieldGoesWrong, in_group, NoFieldNorEnd, no_field, GroupGoesWrong, GoesWrong}
use Rattle.rt_wire.proofs.FaultsRead.{moved_twice}
use Rattle.field_pieces.specs.Fronts.{Opens}

pub joins_append : (Spelled : WireField → List ℕ → Type 0) (l m : List WireField) (a b : List ℕ) → Joins Spelled l a → Joins Spelled m b → Joins Spelled (l ++ m) (a ++ b)
joins_append Spelled [] m a b j k = rw j k
joins_append Spelled (r ∷ l) m a b j k = (j.0, j.1 ++ b, ap (λ (t : List ℕ). t ++ b) j.2 ∙ append_assoc j.0 j.1 b, j.3, joins_append Spelled l m j.1 b j.4 k)

pub joins_one : (Spelled : WireField → List ℕ → Type 0) (r : WireField) (c : List ℕ) → Spelled r c → Joins Spelled (r ∷ []) c
joins_one Spelled r c s = (c, [], sym (append-nil c), s, refl)

-- what stands behind a front stands behind its last part
behind : (b tag front rest c : List ℕ) → b ≡ tag ++ (front ++ rest) → b ++ c ≡ tag ++ (front ++ (rest ++ c))
behind b tag front rest c e = ap (λ (t : List ℕ). t ++ c) e ∙ append_assoc tag (front ++ rest) c ∙ ap (λ (t : List ℕ). tag ++ t) (append_assoc front rest c)

-- the innermost group has one more field
last_more : (b tag front rest c : List ℕ) → b ≡ tag ++ (front ++ rest) → rest ≡ [] → b ++ c ≡ tag ++ ((front ++ c) ++ [])
last_more b tag front rest c e none = behind b tag front rest c e ∙ ap (λ (r : List ℕ). tag ++ (front ++ (r ++ c))) none ∙ ap (λ (t : List ℕ). tag ++ t) (sym (append-nil (front ++ c)))

pub opens_field_last : (levels n : ℕ) (ns b c : List ℕ) (r : WireField) → Opens levels (ns ++ n ∷ []) b → Spells (levels - suc (length ns)) r c → Opens levels (ns ++ n ∷ []) (b ++ c)
opens_field_last zero n [] b c r o s = absurd o
opens_field_last zero n (m ∷ ns) b c r o s = absurd o
opens_field_last (suc k) n [] b c r o s =
    let level : suc k - 1 ≡ k = omega arith in
    let one : Joins (Spells k) (r ∷ []) c = joins_one (Spells k) r c (subst (λ (h : ℕ). Spells h r c) level s) in
    (o.0, o.1 ++ c, [], o.3 ++ (r ∷ []), last_more b o.0 o.1 o.2 c o.4 o.7, o.5, joins_append (Spells k) o.3 (r ∷ []) o.1 c o.6 one, refl)
opens_field_last (suc k) n (m ∷ ns) b c r o s =
    let level : suc k - suc (length (m ∷ ns)) ≡ k - suc (length ns) = omega arith in
    (o.0, o.1, o.2 ++ c, o.3, behind b o.0 o.1 o.2 c o.4, o.5, o.6, opens_field_last k n ns o.2 c r o.7 (subst (λ (h : ℕ). Spells h r c) level s))

pub opens_group : (levels n : ℕ) (ns b tag : List ℕ) → Opens levels ns b → IsTag tag n 3 → length ns < levels → Opens levels (ns ++ n ∷ []) (b ++ tag)
opens_group zero n ns b tag o t lt = absurd (omega (arith, lt))
opens_group (suc k) n [] b tag o t lt = (tag, [], [], [], ap (λ (l : List ℕ). l ++ tag) o ∙ sym (append-nil tag), t, refl, refl)
opens_group (suc k) n (m ∷ ns) b tag o t lt = (o.0, o.1, o.2 ++ tag, o.3, behind b o.0 o.1 o.2 tag o.4, o.5, o.6, opens_group k n ns o.2 tag o.7 t (omega (arith, lt)))

abbrev pub group_field : ℕ → List ℕ → WireField
group_field n payload = record { number = n; value = Group payload }

-- the outermost group ends
pub closed_last : (levels n : ℕ) (b end : List ℕ) → Opens levels (n ∷ []) b → IsTag end n 4 → (payload : List ℕ) × Spells levels (group_field n payload) (b ++ end)
unfolding Spells
closed_last zero n b end o t = absurd o
closed_last (suc k) n b end o t =
    let is : b ++ end ≡ o.0 ++ (o.1 ++ end) = behind b o.0 o.1 o.2 end o.4 ∙ ap (λ (r : List ℕ). o.0 ++ (o.1 ++ (r ++ end))) o.7 in
    (o.1, (o.0, o.1 ++ end, is, o.5, (o.3, end, o.6, t, refl)))

-- one inside another ends, and is a field of that one
pub closed_inner : (levels m n : ℕ) (ns b end : List ℕ) → Opens levels (m ∷ (ns ++ n ∷ [])) b → IsTag end n 4 → Opens levels (m ∷ ns) (b ++ end)
closed_inner zero m n ns b end o t = absurd o
closed_inner (suc k) m n [] b end o t =
    let g = closed_last k n o.2 end o.7 t in
    let r = group_field n g.0 in
    let c = o.2 ++ end in
    let is : b ++ end ≡ o.0 ++ ((o.1 ++ c) ++ []) = behind b o.0 o.1 o.2 end o.4 ∙ ap (λ (l : List ℕ). o.0 ++ l) (sym (append-nil (o.1 ++ c))) in
    (o.0, o.1 ++ c, [], o.3 ++ (r ∷ []), is, o.5, joins_append (Spells k) o.3 (r ∷ []) o.1 c o.6 (joins_one (Spells k) r c g.1), refl)
closed_inner (suc k) m n (p ∷ ns) b end o t = (o.0, o.1, o.2 ++ end, o.3, behind b o.0 o.1 o.2 end o.4, o.5, o.6, closed_inner k p n ns o.2 end o.7 t)

-- what goes wrong in the innermost group goes wrong in all
pub opens_wrong : (levels n : ℕ) (ns b rest : List ℕ) (f : WireFault) → Opens levels (ns ++ n ∷ []) b → NoFieldNorEnd (GoesWrong (levels - suc (length ns))) n rest f
    → GoesWrong levels (b ++ rest) (fault_moved (length b) f)
unfolding GoesWrong
opens_wrong zero n [] b rest f o h = absurd o
opens_wrong zero n (m ∷ ns) b rest f o h = absurd o
opens_wrong (suc k) n [] b rest f o h =
    let level : suc k - 1 ≡ k = omega arith in
    let is : b ++ rest ≡ o.0 ++ (o.1 ++ rest) = behind b o.0 o.1 o.2 rest o.4 ∙ ap (λ (r : List ℕ). o.0 ++ (o.1 ++ (r ++ rest))) o.7 in
    let len : length b ≡ length o.0 + length o.1 = omega (arith, ap (λ (l : List ℕ). length l) o.4, length-append o.0 (o.1 ++ o.2), length-append o.1 o.2, ap (λ (l : List ℕ). length l) o.7) in
    let inner = fault_moved (length o.1) f in
    in_group o.0 (o.1 ++ rest) n is o.5 (
      inner,
      record { fields = o.3; front = o.1; rest = rest; whole = refl; joins = o.6; first = f; wrong = subst (λ (i : ℕ). NoFieldNorEnd (GoesWrong i) n rest f) level h; place = refl },
      ap (λ (i : ℕ). fault_moved i f) len ∙ moved_twice (length o.0) (length o.1) f,
    )
opens_wrong (suc k) n (m ∷ ns) b rest f o h =
    let level : suc k - suc (length (m ∷ ns)) ≡ k - suc (length ns) = omega arith in
    let below = opens_wrong k n ns o.2 rest f o.7 (subst (λ (i : ℕ). NoFieldNorEnd (GoesWrong i) n rest f) level h) in
    let len : length b ≡ length o.0 + (length o.1 + length o.2) = omega (arith, ap (λ (l : List ℕ). length l) o.4, length-append o.0 (o.1 ++ o.2), length-append o.1 o.2) in
    let first = fault_moved (length o.2) f in
    let inner = fault_moved (length o.1) first in
    in_group o.0 (o.1 ++ (o.2 ++ rest)) m (behind b o.0 o.1 o.2 rest o.4) o.5 (
      inner,
      record { fields = o.3; front = o.1; rest = o.2 ++ rest; whole = refl; joins = o.6; first = first; wrong = no_field below; place = refl },
      ap (λ (i : ℕ). fault_moved i f) len ∙ moved_twice (length o.0) (length o.1 + length o.2) f ∙ ap (fault_moved (length o.0)) (moved_twice (length o.1) (length o.2) f),
    )
