-- The first fault of a snapshot is the one that the relation says, and a snapshot without one is accepted.
use Rattle.std.proofs.Common.{◌≡◌, ℕ, ◌≤◌, Bool, true, false, cond, eqb, ltb, List, [], ◌∷◌, length, Option, Some, None, refl, sym, ap, ◌∙◌, inl, inr, ◌⊎◌}
use Rattle.std.specs.Prelude.{IfSome}
use Rattle.std.specs.Bool.{MatchBool}
use Rattle.std.specs.Option.{option_or}
use Rattle.std.specs.List.{AllByRecursion}
use Rattle.std.proofs.lemmas.Bool.{lt-ltb, le-ltb, ltb-true, ltb-false}
use Rattle.rt_wire.specs.Fields.{IsBytes, WireField}
use Rattle.rt_wire.specs.Placed.{placed_fields}
use Rattle.feed_values.specs.declared.required.Required.{Required}
use Rattle.feed_values.specs.declared.required.Required.TheVariants as required
use Rattle.feed_values.proofs.SnapshotFields.{fields_are}
use Rattle.feed_values.specs.Schema.{Schema, Needed}
use Rattle.feed_values.specs.Messages.{feed_message, feed_header, entity}
use Rattle.feed_values.specs.Meaning.{fields, given, in_slot, payload_in, option_case}
use Rattle.feed_values.specs.Accepted.{IsWhole, IsMessage, IsAccepted, missing, missing_message, first_missing, header_fields, is_differential, snapshot_limit}
use Rattle.feed_codec.specs.declared.refusal.Reason.TheVariants.{MissingField, Differential, TooLarge}
use Rattle.feed_codec.specs.declared.refusal.Refusal.{Refusal}
use Rattle.feed_codec.specs.Refusal.{refused, first_in, in_payload, first_fault, entity_fault, part_fault, missing_at, end_fault, refusal}
use Rattle.feed_codec.specs.FirstFault.{FirstFault, EntityWrong, IsEntity, PartWhole, PartWrong, EndWrong, lacks, differs, IsRefused, too_large, in_field, at_end, RefusalIsFirst}
use Rattle.feed_codec.proofs.ValidTexts.{nothing, neither}
use Rattle.feed_codec.proofs.Firsts.{Agrees, found_first, first_found, none_faultless, faultless_none, either}
use Rattle.feed_codec.proofs.FirstFaults.{AgreesHere, slot_agrees, end_agrees, message_agrees, agrees_of}

-- ---- the payloads of a snapshot

pub bytes_agree : (s : Schema) → AgreesHere (first_fault s) (FirstFault s) (IsMessage s)
unfolding first_fault
bytes_agree s = message_agrees s (agrees_of s)

missing_some : (at : ℕ) (o : Option Required) (r : Refusal) → missing_at at o ≡ Some r → (which : Required) × (o ≡ Some which) × (r ≡ refused at (MissingField which))
missing_some at None r e = absurd cc
missing_some at (Some which) r e = (which, refl, cc)

missing_none : (at : ℕ) (o : Option Required) → missing_at at o ≡ nothing → o ≡ None
missing_none at None e = refl
missing_none at (Some which) e = absurd cc

entity_found : (p : List ℕ) (r : Refusal) → IsBytes p → entity_fault p ≡ Some r → EntityWrong p r
unfolding entity_fault
entity_found p r ok e = elim (either (first_fault entity p) _ r e) [
  | inl here ↦ inl ((bytes_agree entity).found p r ok here)
  | inr end ↦ inr ((bytes_agree entity).none p ok end.0, missing_some (length p) (missing entity (fields p)) r end.1)
]

entity_is : (p : List ℕ) (r : Refusal) → IsBytes p → EntityWrong p r → entity_fault p ≡ Some r
unfolding entity_fault
entity_is p r ok (inl w) = rw ((bytes_agree entity).is p r ok w) refl
entity_is p r ok (inr w) = rw ((bytes_agree entity).whole p ok w.0, w.1.1) (ap (λ (x : Refusal). Some x) (sym w.1.2))

entity_none : (p : List ℕ) → IsBytes p → entity_fault p ≡ nothing → IsEntity p
unfolding entity_fault
entity_none p ok e =
    let n = neither (first_fault entity p) (missing_at (length p) (missing entity (fields p))) e in
    ((bytes_agree entity).none p ok n.0, missing_none (length p) (missing entity (fields p)) n.1)

entity_whole : (p : List ℕ) → IsBytes p → IsEntity p → entity_fault p ≡ nothing
unfolding entity_fault
entity_whole p ok m = rw ((bytes_agree entity).whole p ok m.0, m.1) refl

entity_agrees : AgreesHere entity_fault EntityWrong IsEntity
entity_agrees = record { found = entity_found; is = entity_is; none = entity_none; whole = entity_whole }

pub parts_agree : Agrees part_fault PartWrong PartWhole
parts_agree = slot_agrees 1 (bytes_agree feed_header) (slot_agrees 2 entity_agrees end_agrees)

-- ---- the snapshot's end

end_found : (bytes : List ℕ) (r : Refusal) → end_fault (length bytes) (fields bytes) ≡ Some r → EndWrong bytes r
end_found bytes r e = elim (either (missing_at (length bytes) (missing feed_message (fields bytes))) _ r e) [
  | inl here ↦ let m = missing_some (length bytes) (missing feed_message (fields bytes)) r here in lacks m.0 m.1 m.2
  | inr end ↦
      let d = differential_some (is_differential (header_fields (fields bytes))) (refused (length bytes) Differential) r end.1 in
      differs (missing_none (length bytes) (missing feed_message (fields bytes)) end.0) d.0 d.1
]
  where
    differential_some : (b : Bool) (q r : Refusal) → cond b (Some q) nothing ≡ Some r → (b ≡ true) × (r ≡ q)
    differential_some true q r e = (refl, cc)
    differential_some false q r e = absurd cc

end_is : (bytes : List ℕ) (r : Refusal) → EndWrong bytes r → end_fault (length bytes) (fields bytes) ≡ Some r
end_is bytes r (lacks which e f) = rw e (ap (λ (x : Refusal). Some x) (sym f))
end_is bytes r (differs e d f) = rw (e, d) (ap (λ (x : Refusal). Some x) (sym f))

-- ---- the snapshot

found_case : (bytes : List ℕ) (r : Refusal) → IsBytes bytes → (b : Bool) → ltb snapshot_limit (length bytes) ≡ b
    → cond b (Some (refused snapshot_limit TooLarge)) (option_or (first_in (in_payload part_fault) (placed_fields bytes)) (end_fault (length bytes) (fields bytes))) ≡ Some r → IsRefused bytes r
found_case bytes r ok true lt e = too_large (ltb-true snapshot_limit (length bytes) lt) cc
found_case bytes r ok false ge e =
    let le : length bytes ≤ snapshot_limit = ltb-false snapshot_limit (length bytes) ge in
    elim (either (first_in (in_payload part_fault) (placed_fields bytes)) _ r e) [
      | inl here ↦ in_field le (found_first parts_agree bytes r ok here)
      | inr end ↦ let m = none_faultless parts_agree bytes ok end.0 in at_end le m.0 m.1 m.2 (end_found bytes r end.1)
    ]

pub refusal_found : (bytes : List ℕ) (r : Refusal) → IsBytes bytes → refusal bytes ≡ Some r → IsRefused bytes r
unfolding refusal
refusal_found bytes r ok e = found_case bytes r ok (ltb snapshot_limit (length bytes)) refl e

pub refused_is : (bytes : List ℕ) (r : Refusal) → IsBytes bytes → IsRefused bytes r → refusal bytes ≡ Some r
unfolding refusal
refused_is bytes r ok (too_large lt e) = rw (lt-ltb snapshot_limit (length bytes) lt) (ap (λ (x : Refusal). Some x) (sym e))
refused_is bytes r ok (in_field le w) = rw (le-ltb snapshot_limit (length bytes) le, first_found parts_agree bytes r ok w) refl
refused_is bytes r ok (at_end le l j w end) = rw (le-ltb snapshot_limit (length bytes) le, faultless_none parts_agree bytes ok (l, j, w)) (end_is bytes r end)

-- ---- what is accepted

-- a field that is whole as a part of a snapshot is a whole field of it
weaker : (b : Bool) (o : Option (List ℕ)) (P Q : List ℕ → Type 0) (R S : Type 0) → ((p : List ℕ) → P p → Q p) → (R → S) → MatchBool b (IfSome o P) R → MatchBool b (IfSome o Q) S
weaker true None P Q R S f g m = tt
weaker true (Some p) P Q R S f g m = f p m
weaker false o P Q R S f g m = g m

part_is_whole : (f : WireField) → PartWhole f → IsWhole feed_message f
part_is_whole f w =
    weaker (eqb f.number 1) (payload_in f.value) (IsMessage feed_header) (IsMessage feed_header) _ _ (λ p h. h)
    (weaker (eqb f.number 2) (payload_in f.value) IsEntity (IsMessage entity) (Unit {0}) (Unit {0}) (λ p h. h.0) (λ u. u)) w

parts_are_whole : (l : List WireField) → AllByRecursion PartWhole l → AllByRecursion (IsWhole feed_message) l
parts_are_whole [] w = tt
parts_are_whole (f ∷ l) w = (part_is_whole f w.0, parts_are_whole l w.1)

-- where no entity lacks a slot, a whole field is whole as a part of a snapshot
abbrev complete : List WireField → Option Required
complete l = first_missing (missing entity) (given (in_slot payload_in 2) l)

first_complete : (o : Option (List ℕ)) (ps : List (List ℕ)) → first_missing (missing entity) (option_case o ps (λ p. p ∷ ps)) ≡ None → IfSome o (λ p. missing entity (fields p) ≡ None) × (first_missing (missing entity) ps ≡ None)
first_complete None ps e = (tt, e)
first_complete (Some p) ps e = no_one (missing entity (fields p)) (first_missing (missing entity) ps) e
  where
    no_one : (o q : Option Required) → option_or o q ≡ None → (o ≡ None) × (q ≡ None)
    no_one None q e = (refl, e)
    no_one (Some x) q e = absurd cc

whole_entity : (b : Bool) (o : Option (List ℕ)) → IfSome (cond b o None) (λ p. missing entity (fields p) ≡ None) → MatchBool b (IfSome o (IsMessage entity)) (Unit {0}) → MatchBool b (IfSome o IsEntity) (Unit {0})
whole_entity true None c m = tt
whole_entity true (Some p) c m = (m, c)
whole_entity false o c m = tt

whole_part : (f : WireField) → IfSome (in_slot payload_in 2 f) (λ p. missing entity (fields p) ≡ None) → IsWhole feed_message f → PartWhole f
whole_part f c w = later (eqb f.number 1) (payload_in f.value) _ _ (whole_entity (eqb f.number 2) (payload_in f.value) c) w
  where
    later : (b : Bool) (o : Option (List ℕ)) (R S : Type 0) → (R → S) → MatchBool b (IfSome o (IsMessage feed_header)) R → MatchBool b (IfSome o (IsMessage feed_header)) S
    later true o R S g m = m
    later false o R S g m = g m

whole_parts : (l : List WireField) → complete l ≡ None → AllByRecursion (IsWhole feed_message) l → AllByRecursion PartWhole l
whole_parts [] c w = tt
whole_parts (f ∷ l) c w =
    let d = first_complete (in_slot payload_in 2 f) (given (in_slot payload_in 2) l) c in
    (whole_part f d.0 w.0, whole_parts l d.1 w.1)

entities_complete : (l : List WireField) → missing feed_message l ≡ None → complete l ≡ None
entities_complete l e = last_none (missing_message (Needed required.Header) (missing feed_header) (given (in_slot payload_in 1) l)) (complete l) e
  where
    last_none : (o q : Option Required) → option_or o (option_or q None) ≡ None → q ≡ None
    last_none None None e = refl
    last_none None (Some x) e = absurd cc
    last_none (Some x) q e = absurd cc

accepted_case : (bytes : List ℕ) → IsBytes bytes → (b : Bool) → ltb snapshot_limit (length bytes) ≡ b
    → cond b (Some (refused snapshot_limit TooLarge)) (option_or (first_in (in_payload part_fault) (placed_fields bytes)) (end_fault (length bytes) (fields bytes))) ≡ nothing → IsAccepted bytes
accepted_case bytes ok true lt e = absurd cc
accepted_case bytes ok false ge e =
    let n = neither (first_in (in_payload part_fault) (placed_fields bytes)) (end_fault (length bytes) (fields bytes)) e in
    let m = none_faultless parts_agree bytes ok n.0 in
    let d = neither (missing_at (length bytes) (missing feed_message (fields bytes))) _ n.1 in
    record {
      small = ltb-false snapshot_limit (length bytes) ge;
      whole = (m.0, m.1, parts_are_whole m.0 m.2);
      complete = missing_none (length bytes) (missing feed_message (fields bytes)) d.0;
      full = not_differential (is_differential (header_fields (fields bytes))) (refused (length bytes) Differential) d.1;
    }
  where
    not_differential : (b : Bool) (q : Refusal) → cond b (Some q) nothing ≡ nothing → b ≡ false
    not_differential true q e = absurd cc
    not_differential false q e = refl

pub accepted_found : (bytes : List ℕ) → IsBytes bytes → refusal bytes ≡ nothing → IsAccepted bytes
unfolding refusal
accepted_found bytes ok e = accepted_case bytes ok (ltb snapshot_limit (length bytes)) refl e

pub accepted_is : (bytes : List ℕ) → IsBytes bytes → IsAccepted bytes → refusal bytes ≡ nothing
unfolding refusal
accepted_is bytes ok a =
    let l = a.whole.0 in
    let same : fields bytes ≡ l = fields_are l bytes a.whole.1 in
    let complete : complete l ≡ None = rw same at (entities_complete (fields bytes) a.complete) in
    let w = whole_parts l complete a.whole.2 in
    rw (le-ltb snapshot_limit (length bytes) a.small, faultless_none parts_agree bytes ok (l, a.whole.1, w), a.complete, a.full) refl

-- ---- the law

one_of : (bytes : List ℕ) → IsBytes bytes → (o : Option Refusal) → refusal bytes ≡ o → IsAccepted bytes ⊎ ((r : Refusal) × IsRefused bytes r)
one_of bytes ok None e = inl (accepted_found bytes ok e)
one_of bytes ok (Some r) e = inr (r, refusal_found bytes r ok e)

pub refusal_is_first : RefusalIsFirst
refusal_is_first = record {
  refused = λ bytes r ok. (refusal_found bytes r ok, refused_is bytes r ok);
  accepted = λ bytes ok. (accepted_found bytes ok, accepted_is bytes ok);
  either = λ bytes ok. one_of bytes ok (refusal bytes) refl;
  not_both = λ bytes r ok a w. never (sym (accepted_is bytes ok a) ∙ refused_is bytes r ok w);
}
  where
    never : {r : Refusal} → nothing ≡ Some r → ⊥
    never e = cc
