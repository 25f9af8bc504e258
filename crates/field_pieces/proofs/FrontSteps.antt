-- What is read behind a front of a group.
use Rattle.std.proofs.Common.{◌≡◌, ◌≢◌, ℕ, zero, suc, ◌+◌, ◌-◌, ◌<◌, ◌≤◌, List, [], ◌∷◌, ◌++◌, length, take, drop, append_assoc, append-nil, Result, Ok, Err, refl, sym, ap, subst, ◌∙◌, arith}
use Rattle.std.proofs.lemmas.List.{length-append, length-drop, length-take, drop_at, drop-drop, drop-append-le, take-append-drop}
use Rattle.rt_wire.specs.declared.fault.WireReason.TheVariants.{GroupMismatch, TooDeep}
use Rattle.rt_wire.specs.declared.fault.WireFault.{WireFault}
use Rattle.rt_wire.specs.declared.tag.Tag.{Tag}
use Rattle.rt_wire.specs.declared.tag.WireType.{WireType}
use Rattle.rt_wire.specs.declared.tag.WireType.TheVariants as types
use Rattle.rt_wire.specs.Fields.{WireField, Group, IsBytes, IsTag, Spells, FieldSpelled}
use Rattle.rt_wire.specs.Reading.{tag_from, value_end, end_at, code_of, group_from}
use Rattle.rt_wire.specs.Placed.{PlacedField, fault_moved, field_from, spelled_at}
use Rattle.rt_wire.specs.Faults.{fault_at, NoFieldNorEnd, another_end, GoesWrong, OwnFault}
use Rattle.rt_wire.specs.Faults as faults
use Rattle.rt_wire.proofs.Places.{At, Stands, behind, behind_part, respelled, stands_within}
use Rattle.rt_wire.proofs.Complete.{field_reads, some_of}
use Rattle.rt_wire.proofs.Sound.{IsTagOf, tag_sound, ends_value, tag_and_value, plain_spells}
use Rattle.rt_wire.proofs.FaultsRead.{FailsAt, tag_fails, value_fails, group_fails, moved_twice, own_reads}
use Rattle.rt_wire.proofs.FaultsFound.{FoundAs, field_says}
use Rattle.field_pieces.specs.Fronts.{Opens, IsFront, IsGroupTo, FrontStays}
use Rattle.field_pieces.proofs.FrontLaws.{opens_field_last, opens_group, closed_last, closed_inner, opens_wrong, group_field}

-- behind the front stands the rest
rest_is : (bytes numbers : List ℕ) (start at : ℕ) (f : IsFront bytes start numbers at) → drop at bytes ≡ f.rest
rest_is bytes numbers start at f =
    ap (λ (n : ℕ). drop n bytes) f.place ∙ sym (drop-drop (length f.front) start bytes) ∙ ap (λ (l : List ℕ). drop (length f.front) l) f.stands ∙ drop_at f.front f.rest (length f.front) refl

pub front_within : (bytes numbers : List ℕ) (start at : ℕ) → start ≤ length bytes → IsFront bytes start numbers at → at ≤ length bytes
front_within bytes numbers start at le f =
    omega (arith, f.place, length-drop start bytes, ap (λ (l : List ℕ). length l) f.stands, length-append f.front f.rest)

-- a longer front, by what stands behind it
longer : {A : Type 0} (S : A → List ℕ → Type 0) (v : A) (bytes ns ms : List ℕ) (start at next : ℕ) (f : IsFront bytes start ns at) (s : Stands S v bytes at next) → Opens 100 ms (f.front ++ s.bytes) → IsFront bytes start ms next
longer S v bytes ns ms start at next f s o =
    let rest : f.rest ≡ s.bytes ++ s.rest = sym (rest_is bytes ns start at f) ∙ behind bytes at s.bytes s.rest s.here in
    record {
      front = f.front ++ s.bytes;
      rest = s.rest;
      stands = f.stands ∙ ap (λ (l : List ℕ). f.front ++ l) rest ∙ sym (append_assoc f.front s.bytes s.rest);
      place = omega (arith, s.stop, f.place, length-append f.front s.bytes);
      opens = o;
    }

abbrev nothing : (bytes : List ℕ) (start : ℕ) → IsFront bytes start [] start
nothing bytes start = record { front = []; rest = drop start bytes; stands = refl; place = omega arith; opens = refl }

tag_as : (w : WireType) (number : ℕ) (b : List ℕ) (tag : Tag) → tag.wire ≡ w → tag.number ≡ number → IsTagOf tag b → IsTag b number (code_of w)
tag_as w number b tag e f t = subst (λ (n : ℕ). IsTag b n (code_of w)) f (subst (λ (v : WireType). IsTag b tag.number (code_of v)) e t)

-- longer bytes begin with the same front
pub grows : FrontStays
grows bytes more start at numbers le f = record {
  front = f.front;
  rest = f.rest ++ more;
  stands = drop-append-le start bytes more le ∙ ap (λ (l : List ℕ). l ++ more) f.stands ∙ append_assoc f.front f.rest more;
  place = f.place;
  opens = f.opens;
}

pub enters : (bytes : List ℕ) (start : ℕ) (tag : Tag) → start ≤ length bytes → tag_from bytes start ≡ Ok tag → tag.wire ≡ types.StartGroup → IsFront bytes start (tag.number ∷ []) tag.next
enters bytes start tag le e w =
    let t = (tag_sound bytes start tag le e).0 in
    longer IsTagOf tag bytes [] (tag.number ∷ []) start start tag.next (nothing bytes start) t
    (opens_group 100 tag.number [] [] t.bytes refl (tag_as types.StartGroup tag.number t.bytes tag w refl t.spelled) (omega arith))

pub field : (bytes ns : List ℕ) (start n at next : ℕ) (tag : Tag) → IsBytes bytes → start ≤ length bytes → IsFront bytes start (ns ++ n ∷ []) at
    → (tag.wire ≡ types.StartGroup → ⊥) → (tag.wire ≡ types.EndGroup → ⊥) → tag_from bytes at ≡ Ok tag → value_end bytes tag ≡ Ok next
    → IsFront bytes start (ns ++ n ∷ []) next
unfolding value_end
field bytes ns start n at next tag ok le f p q e v =
    let within = front_within bytes (ns ++ n ∷ []) start at le f in
    let t = (tag_sound bytes at tag within e).0 in
    let x = ends_value (λ _ _. ⊥) tag.number bytes tag.next next tag.wire p q ok (stands_within IsTagOf tag bytes at tag.next t) v in
    let r : WireField = record { number = tag.number; value = x.0 } in
    let s = tag_and_value (λ _ _. ⊥) bytes tag x.0 at next x.2 t x.3 in
    longer (FieldSpelled (λ _ _. ⊥)) r bytes (ns ++ n ∷ []) (ns ++ n ∷ []) start at next f s
    (opens_field_last 100 n ns f.front s.bytes r f.opens (plain_spells (100 - suc (length ns)) (λ _ _. ⊥) r s.bytes x.1 s.spelled))

pub group : (bytes ns : List ℕ) (start n at : ℕ) (tag : Tag) → start ≤ length bytes → IsFront bytes start (ns ++ n ∷ []) at
    → tag_from bytes at ≡ Ok tag → tag.wire ≡ types.StartGroup → length (ns ++ n ∷ []) < 100 → IsFront bytes start ((ns ++ n ∷ []) ++ tag.number ∷ []) tag.next
group bytes ns start n at tag le f e w lt =
    let t = (tag_sound bytes at tag (front_within bytes (ns ++ n ∷ []) start at le f) e).0 in
    longer IsTagOf tag bytes (ns ++ n ∷ []) ((ns ++ n ∷ []) ++ tag.number ∷ []) start at tag.next f t
    (opens_group 100 tag.number (ns ++ n ∷ []) f.front t.bytes f.opens (tag_as types.StartGroup tag.number t.bytes tag w refl t.spelled) lt)

inner_ends_first : (bytes ns : List ℕ) (start m n at : ℕ) (tag : Tag) → start ≤ length bytes → IsFront bytes start (m ∷ (ns ++ n ∷ [])) at
    → tag_from bytes at ≡ Ok tag → tag.wire ≡ types.EndGroup → tag.number ≡ n → IsFront bytes start (m ∷ ns) tag.next
inner_ends_first bytes ns start m n at tag le f e w same =
    let t = (tag_sound bytes at tag (front_within bytes (m ∷ (ns ++ n ∷ [])) start at le f) e).0 in
    longer IsTagOf tag bytes (m ∷ (ns ++ n ∷ [])) (m ∷ ns) start at tag.next f t
    (closed_inner 100 m n ns f.front t.bytes f.opens (tag_as types.EndGroup n t.bytes tag w same t.spelled))

pub inner_ends : (bytes ns : List ℕ) (start m n at : ℕ) (tag : Tag) → start ≤ length bytes → IsFront bytes start ((ns ++ m ∷ []) ++ n ∷ []) at
    → tag_from bytes at ≡ Ok tag → tag.wire ≡ types.EndGroup → tag.number ≡ n → IsFront bytes start (ns ++ m ∷ []) tag.next
inner_ends bytes [] start m n at tag le f e w same = inner_ends_first bytes [] start m n at tag le f e w same
inner_ends bytes (q ∷ ns) start m n at tag le f e w same = inner_ends_first bytes (ns ++ m ∷ []) start q n at tag le f e w same

pub ends : (bytes : List ℕ) (start n at : ℕ) (tag : Tag) → start ≤ length bytes → IsFront bytes start (n ∷ []) at
    → tag_from bytes at ≡ Ok tag → tag.wire ≡ types.EndGroup → tag.number ≡ n → IsGroupTo bytes start tag.next
ends bytes start n at tag le f e w same =
    let t = (tag_sound bytes at tag (front_within bytes (n ∷ []) start at le f) e).0 in
    let g = closed_last 100 n f.front t.bytes f.opens (tag_as types.EndGroup n t.bytes tag w same t.spelled) in
    let r = group_field n g.0 in
    let rest : f.rest ≡ t.bytes ++ t.rest = sym (rest_is bytes (n ∷ []) start at f) ∙ behind bytes at t.bytes t.rest t.here in
    let here : At bytes start (f.front ++ t.bytes) t.rest = record {
      front = take start bytes;
      is = sym (take-append-drop start bytes) ∙ ap (λ (l : List ℕ). take start bytes ++ l) (f.stands ∙ ap (λ (l : List ℕ). f.front ++ l) rest ∙ sym (append_assoc f.front t.bytes t.rest));
      place = omega (arith, le, length-take start bytes);
    } in
    record {
      found = spelled_at start r (f.front ++ t.bytes);
      reads = field_reads r (f.front ++ t.bytes) bytes start t.rest g.1 here;
      stop_is = omega (arith, t.stop, f.place, length-append f.front t.bytes);
      after = omega (arith, t.stop, f.place, length-append f.front t.bytes, some_of 100 r (f.front ++ t.bytes) g.1);
      number = n;
      payload = g.0;
      group = refl;
    }

-- what goes wrong behind the front goes wrong in the field that begins at its start
wrong : (bytes ns : List ℕ) (start n at : ℕ) (f : WireFault) → start < length bytes → IsFront bytes start (ns ++ n ∷ []) at
    → FoundAs (NoFieldNorEnd (GoesWrong (100 - suc (length ns))) n) bytes at f → field_from bytes start ≡ Err f
wrong bytes ns start n at f lt front h =
    let g = h.0 in
    let w = opens_wrong 100 n ns front.front (drop at bytes) g front.opens h.1 in
    let whole : front.front ++ drop at bytes ≡ drop start bytes = ap (λ (l : List ℕ). front.front ++ l) (rest_is bytes (ns ++ n ∷ []) start at front) ∙ sym front.stands in
    let here : At bytes start (drop start bytes) [] = record {
      front = take start bytes;
      is = sym (take-append-drop start bytes) ∙ ap (λ (l : List ℕ). take start bytes ++ l) (sym (append-nil (drop start bytes)));
      place = omega (arith, lt, length-take start bytes);
    } in
    let some : 0 < length (drop start bytes) = omega (arith, lt, length-drop start bytes) in
    let own : OwnFault (drop start bytes) (fault_moved (length front.front) g) = faults.no_field some (subst (λ (l : List ℕ). GoesWrong 100 l (fault_moved (length front.front) g)) whole w) in
    own_reads (drop start bytes) (fault_moved (length front.front) g) bytes start own here
    ∙ ap (λ (k : WireFault). Err k) (sym (moved_twice start (length front.front) g) ∙ ap (λ (i : ℕ). fault_moved i g) (sym front.place) ∙ sym h.2)

found_field : (levels : ℕ) (bytes : List ℕ) (n at : ℕ) (f : WireFault) → FoundAs (GoesWrong levels) bytes at f → FoundAs (NoFieldNorEnd (GoesWrong levels) n) bytes at f
found_field levels bytes n at f h = (h.0, faults.NoFieldNorEnd.no_field h.1, h.2)

pub no_tag : (bytes ns : List ℕ) (start n at : ℕ) (f : WireFault) → IsBytes bytes → start < length bytes → IsFront bytes start (ns ++ n ∷ []) at
    → tag_from bytes at ≡ Err f → field_from bytes start ≡ Err f
no_tag bytes ns start n at f ok lt front e =
    let k = 100 - suc (length ns) in
    wrong bytes ns start n at f lt front (found_field k bytes n at f (field_says k bytes ok at f (front_within bytes (ns ++ n ∷ []) start at (omega (arith, lt)) front) (tag_fails e)))

pub no_value : (bytes ns : List ℕ) (start n at : ℕ) (tag : Tag) (f : WireFault) → IsBytes bytes → start < length bytes → IsFront bytes start (ns ++ n ∷ []) at
    → (tag.wire ≡ types.StartGroup → ⊥) → (tag.wire ≡ types.EndGroup → ⊥) → tag_from bytes at ≡ Ok tag → value_end bytes tag ≡ Err f
    → field_from bytes start ≡ Err f
unfolding value_end
no_value bytes ns start n at tag f ok lt front p q e v =
    let k = 100 - suc (length ns) in
    wrong bytes ns start n at f lt front (found_field k bytes n at f (field_says k bytes ok at f (front_within bytes (ns ++ n ∷ []) start at (omega (arith, lt)) front) (value_fails tag e p q v)))

pub another : (bytes ns : List ℕ) (start n at : ℕ) (tag : Tag) → start < length bytes → IsFront bytes start (ns ++ n ∷ []) at
    → tag_from bytes at ≡ Ok tag → tag.wire ≡ types.EndGroup → tag.number ≢ n → field_from bytes start ≡ Err (fault_at tag.at GroupMismatch)
another bytes ns start n at tag lt front e w other =
    let t = tag_sound bytes at tag (front_within bytes (ns ++ n ∷ []) start at (omega (arith, lt)) front) e in
    let b = t.0.bytes in
    let place : fault_at tag.at GroupMismatch ≡ fault_moved at (fault_at 0 GroupMismatch) = ap (λ (i : ℕ). fault_at i GroupMismatch) (t.1 ∙ omega arith) in
    wrong bytes ns start n at (fault_at tag.at GroupMismatch) lt front
    (fault_at 0 GroupMismatch, another_end b t.0.rest tag.number (behind bytes at b t.0.rest t.0.here) (tag_as types.EndGroup tag.number b tag w refl t.0.spelled) other refl, place)

deep_levels : (bytes : List ℕ) (tag : Tag) (levels : ℕ) → levels ≡ 0 → group_from levels bytes tag ≡ Err (fault_at tag.at TooDeep)
unfolding group_from
deep_levels bytes tag levels e = rw e refl

pub too_deep : (bytes ns : List ℕ) (start n at : ℕ) (tag : Tag) → IsBytes bytes → start < length bytes → IsFront bytes start (ns ++ n ∷ []) at
    → tag_from bytes at ≡ Ok tag → tag.wire ≡ types.StartGroup → 100 ≤ length (ns ++ n ∷ []) → field_from bytes start ≡ Err (fault_at tag.at TooDeep)
too_deep bytes ns start n at tag ok lt front e w deep =
    let k = 100 - suc (length ns) in
    let none : k ≡ 0 = omega (arith, deep, length-append ns (n ∷ [])) in
    let f = fault_at tag.at TooDeep in
    wrong bytes ns start n at f lt front (found_field k bytes n at f (field_says k bytes ok at f (front_within bytes (ns ++ n ∷ []) start at (omega (arith, lt)) front) (group_fails tag e w (deep_levels bytes tag k none))))
