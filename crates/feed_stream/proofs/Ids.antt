-- The id of an entity that passes.
use Rattle.std.proofs.Common.{◌≡◌, ℕ, Bool, true, false, cond, eqb, List, [], ◌∷◌, Option, Some, None, refl, sym, ap, subst}
use Rattle.std.specs.Prelude.{IfSome, unwrap_or}
use Rattle.std.specs.Bool.{MatchBool}
use Rattle.std.specs.Option.{option_or}
use Rattle.std.specs.List.{AllByRecursion}
use Rattle.std.specs.Str.{IsUtf8}
use Rattle.rt_wire.specs.Fields.{IsBytes, WireField}
use Rattle.feed_values.specs.declared.required.Required.{Required}
use Rattle.feed_values.specs.declared.required.Required.TheVariants as required
use Rattle.feed_values.specs.Schema.{Needed}
use Rattle.feed_values.specs.Messages.{entity}
use Rattle.feed_values.specs.Meaning.{fields, given, in_slot, payload_in, last_of, option_case, meaning}
use Rattle.feed_values.specs.Accepted.{IsWhole, absent}
use Rattle.feed_values.specs.Snapshot.{entity_of}
use Rattle.feed_values.proofs.SnapshotFields.{fields_are}
use Rattle.feed_codec.specs.Refusal.{entity_fault}
use Rattle.feed_codec.specs.FirstFault.{IsEntity}
use Rattle.feed_codec.specs.LastPayloads.{last_at}
use Rattle.feed_codec.proofs.SnapshotFaults.{parts_agree}
use Rattle.feed_codec.proofs.Snapshots.{complete_entity}

abbrev ids : List WireField → List (List ℕ)
ids l = given (in_slot payload_in 1) l

-- each payload of slot 1 of whole fields is a text
text_in : (b : Bool) (o : Option (List ℕ)) (ps : List (List ℕ)) (R : Type 0) → MatchBool b (IfSome o IsUtf8) R → AllByRecursion IsUtf8 ps → AllByRecursion IsUtf8 (option_case (cond b o None) ps (λ p. p ∷ ps))
text_in true None ps R m all = all
text_in true (Some p) ps R m all = (m, all)
text_in false o ps R m all = all

texts : (l : List WireField) → AllByRecursion (IsWhole entity) l → AllByRecursion IsUtf8 (ids l)
texts [] w = tt
texts (f ∷ l) w = text_in (eqb f.number 1) (payload_in f.value) (ids l) _ w.0 (texts l w.1)

last_by : (o : Option (List ℕ)) (q p : List ℕ) → IsUtf8 q → ((x : List ℕ) → o ≡ Some x → IsUtf8 x) → option_or o (Some q) ≡ Some p → IsUtf8 p
last_by None q p h k e = let same : q ≡ p = cc in subst IsUtf8 same h
last_by (Some x) q p h k e = k p e

last_text : (ps : List (List ℕ)) (p : List ℕ) → AllByRecursion IsUtf8 ps → last_of ps ≡ Some p → IsUtf8 p
last_text [] p all e = absurd cc
last_text (q ∷ qs) p all e = last_by (last_of qs) q p all.0 (λ x h. last_text qs x all.1 h) e

-- an id that isn't missing is there
some_last : (ps : List (List ℕ)) (rest : Option Required) → option_or (absent (Needed required.Id) ps) rest ≡ None → (p : List ℕ) × (last_of ps ≡ Some p)
some_last [] rest e = absurd cc
some_last (p ∷ ps) rest e = by_rest (last_of ps)
  where
    by_rest : (o : Option (List ℕ)) → (q : List ℕ) × (option_or o (Some p) ≡ Some q)
    by_rest None = (p, refl)
    by_rest (Some x) = (x, refl)

pub record IdIn (p : List ℕ) : Type 0 where
  pub id : List ℕ
  pub last : last_at [] 1 (fields p) ≡ Some id
  pub text : IsUtf8 id
  pub value : id ≡ (entity_of p).0

pub id_found : (p : List ℕ) → IsBytes p → entity_fault p ≡ None → IdIn p
unfolding last_at meaning
id_found p ok e =
    let m : IsEntity p = parts_agree.none 2 p ok e in
    let same : fields p ≡ m.0.0 = fields_are m.0.0 p m.0.1 in
    let found = some_last (ids (fields p)) _ (complete_entity p e).1 in
    record {
      id = found.0;
      last = found.1;
      text = last_text (ids (fields p)) found.0 (subst (λ (l : List WireField). AllByRecursion IsUtf8 (ids l)) (sym same) (texts m.0.0 m.0.2)) found.1;
      value = sym (ap (λ (o : Option (List ℕ)). unwrap_or o []) found.1);
    }

pub never : (id : List ℕ) → None ≡ Some id → ⊥
never id e = cc
