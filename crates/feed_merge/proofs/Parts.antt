-- The union, feed by feed and entity by entity: its entities and its bytes.
use Rattle.std.proofs.Common.{◌≡◌, ℕ, suc, ◌+◌, ◌≤◌, ◌<◌, ℤ, List, [], ◌∷◌, ◌++◌, map, length, take, drop, get_or, slice_get, Some, refl, ap, sym, ◌∙◌, arith, append-nil, append_assoc, length-append}
use Prim.Native.String.{String}
use Rattle.std.specs.Prelude.{Result, Ok, Err, OnOk, is_ok, if◌then◌else◌}
use Rattle.std.specs.declared.option.Option.{Option}
use Rattle.std.specs.List.{flat_map}
use Rattle.std.proofs.lemmas.Grind.{flat_map-append}
use Rattle.std.proofs.lemmas.List.{map_more, map-append, length-map, length-take-le, take_all, take-append-drop}
use Rattle.std.proofs.lemmas.Option.{get_or_from_slice_get}
use Rattle.rt_wire.specs.Fields.{Len}
use Rattle.feed_values.specs.Schema as schema
use Rattle.feed_values.specs.Schema.{Schema, Value}
use Rattle.feed_values.specs.Accepted.{snapshot_limit}
use Rattle.feed_values.specs.Canonical.{canonical, spelled_slot}
use Rattle.feed_values.specs.Messages.{feed_message, feed_header, entity}
use Rattle.feed_values.specs.Snapshot.{entity_of, entity_payloads, snapshot_value}
use Rattle.feed_values.specs.declared.required.Required.{Required}
use Rattle.feed_values.specs.declared.required.Required.TheVariants as required
use Rattle.feed_values.proofs.SnapshotFields.{snapshot_is_its_fields}
use Rattle.feed_merge.specs.Spelled.{entities_spelled, entity_spelled}
use Rattle.feed_merge.specs.Union.{prefix, renamed, prefixed, entities_in, united_from, greatest_stamp, headed, union_header, united}

-- ---- entities
-- of feeds behind others
united_append : (g : ℕ) (us vs : List (Value feed_message)) → united_from g (us ++ vs) ≡ united_from g us ++ united_from (g + length us) vs
united_append g [] vs = ap (λ n. united_from n vs) (here g)
  where
    here : (n : ℕ) → n ≡ n + 0
    here n = omega arith
united_append g (w ∷ us) vs =
    ap (λ xs. map (prefixed g) (entities_in w) ++ xs) (united_append (g + 1) us vs)
    ∙ sym (append_assoc (map (prefixed g) (entities_in w)) (united_from (g + 1) us) (united_from ((g + 1) + length us) vs))
    ∙ ap (λ n. (map (prefixed g) (entities_in w) ++ united_from (g + 1) us) ++ united_from n vs) (next g (length us))
  where
    next : (n k : ℕ) → (n + 1) + k ≡ n + suc k
    next n k = omega arith

-- of the first feeds of some, by what each says
abbrev pub front : {A : Type 0} → (A → Value feed_message) → List A → ℕ → List (Value entity)
front says xs i = united_from 0 (map says (take i xs))

module _ {A : Type 0} (says : A → Value feed_message) (xs : List A) where
  -- and of one feed more
  front_more : (i : ℕ) (x : A) → i < length xs → front says xs (i + 1) ≡ front says xs i ++ map (prefixed i) (entities_in (says (get_or xs i x)))
  front_more i x l =
      ap (united_from 0) (map_more says xs i x l)
      ∙ united_append 0 (map says (take i xs)) (says (get_or xs i x) ∷ [])
      ∙ ap (λ es. front says xs i ++ es) (append-nil (map (prefixed (0 + length (map says (take i xs)))) (entities_in (says (get_or xs i x)))))
      ∙ ap (λ n. front says xs i ++ map (prefixed n) (entities_in (says (get_or xs i x)))) (number (length (map says (take i xs))) (length-map (take i xs) says ∙ length-take-le i xs (omega arith)))
    where
      number : (n : ℕ) → n ≡ i → 0 + n ≡ i
      number n e = omega arith

  pub entities_next : (i : ℕ) (x : A) (old new : List (Value entity)) → i < length xs → x ≡ get_or xs i x → old ≡ front says xs i →
      new ≡ old ++ map (prefixed i) (entities_in (says x)) → new ≡ front says xs (i + 1)
  entities_next i x old new l is before e =
      e ∙ ap (λ es. es ++ map (prefixed i) (entities_in (says x))) before
      ∙ ap (λ y. front says xs i ++ map (prefixed i) (entities_in (says y))) is
      ∙ sym (front_more i x l)

  front_rest : (i : ℕ) → united_from 0 (map says xs) ≡ front says xs i ++ united_from (0 + length (map says (take i xs))) (map says (drop i xs))
  front_rest i =
      ap (λ ys. united_from 0 (map says ys)) (sym (take-append-drop i xs))
      ∙ ap (united_from 0) (map-append says (take i xs) (drop i xs))
      ∙ united_append 0 (map says (take i xs)) (map says (drop i xs))

-- ---- bytes
-- of any message with a required slot 1 and a repeated slot 2
module _ (name other : String) (why : Required) (m e : Schema) (head : Value m) where
  abbrev bytes : List (Value e) → List ℕ
  bytes es = canonical (schema.message 1 name (schema.Needed why) m (schema.repeated 2 other e schema.end)) (head, (es, []))

  abbrev first : List ℕ
  first = spelled_slot 1 (Len (canonical m head))

  abbrev items : List (Value e) → List ℕ
  items es = flat_map (λ w. spelled_slot 2 (Len (canonical e w))) es

  pub behind : (es : List (Value e)) → bytes es ≡ bytes [] ++ items es
  behind es = ap (λ xs. first ++ xs) (append-nil (items es)) ∙ ap (λ xs. xs ++ items es) (sym (append-nil first))

-- of a union with this timestamp and these entities
abbrev pub union_bytes : Option ℤ → List (Value entity) → List ℕ
union_bytes stamp es = canonical feed_message (headed stamp es)

behind_header : (stamp : Option ℤ) (es : List (Value entity)) → union_bytes stamp es ≡ union_bytes stamp [] ++ entities_spelled es
behind_header stamp = behind "header" "entity" required.Header feed_header entity (union_header stamp)

union_more : (stamp : Option ℤ) (done es : List (Value entity)) → union_bytes stamp done ++ entities_spelled es ≡ union_bytes stamp (done ++ es)
union_more stamp done es =
    ap (λ xs. xs ++ entities_spelled es) (behind_header stamp done)
    ∙ append_assoc (union_bytes stamp []) (entities_spelled done) (entities_spelled es)
    ∙ ap (λ xs. union_bytes stamp [] ++ xs) (sym (flat_map-append entity_spelled done es))
    ∙ sym (behind_header stamp (done ++ es))

-- ---- the entities of a kept snapshot
module _ (number : ℕ) (kept : List ℕ) where
  -- the first of them, as they stand in the union
  abbrev pub kept_front : ℕ → List (Value entity)
  kept_front i = map (prefixed number) (map entity_of (take i (entity_payloads kept)))

  abbrev pub kept_all : List (Value entity)
  kept_all = map (prefixed number) (entities_in (snapshot_value kept))

  kept_more : (i : ℕ) (p : List ℕ) → i < length (entity_payloads kept) → Some p ≡ slice_get (entity_payloads kept) i → kept_front (i + 1) ≡ kept_front i ++ prefixed number (entity_of p) ∷ []
  kept_more i p l at =
      ap (map (prefixed number)) (map_more entity_of (entity_payloads kept) i p l)
      ∙ map-append (prefixed number) (map entity_of (take i (entity_payloads kept))) (entity_of (get_or (entity_payloads kept) i p) ∷ [])
      ∙ ap (λ q. kept_front i ++ prefixed number (entity_of q) ∷ []) (get_or_from_slice_get (entity_payloads kept) i p p (sym at))

  -- one more is written
  pub kept_next : (i : ℕ) (p text : List ℕ) (e : Value entity) (start old new : List ℕ) → i < length (entity_payloads kept) → Some p ≡ slice_get (entity_payloads kept) i →
      text ≡ prefix number → e ≡ entity_of p → old ≡ start ++ entities_spelled (kept_front i) → new ≡ old ++ entity_spelled (renamed text e) → new ≡ start ++ entities_spelled (kept_front (i + 1))
  kept_next i p text e start old new l at named is before next =
      next ∙ ap (λ xs. xs ++ entity_spelled (renamed text e)) before
      ∙ append_assoc start (entities_spelled (kept_front i)) (entity_spelled (renamed text e))
      ∙ ap (λ t. start ++ (entities_spelled (kept_front i) ++ entity_spelled (renamed t e))) named
      ∙ ap (λ x. start ++ (entities_spelled (kept_front i) ++ entity_spelled (prefixed number x))) is
      ∙ ap (λ xs. start ++ (entities_spelled (kept_front i) ++ xs)) (sym (append-nil (entity_spelled (prefixed number (entity_of p)))))
      ∙ ap (λ xs. start ++ xs) (sym (flat_map-append entity_spelled (kept_front i) (prefixed number (entity_of p) ∷ [])))
      ∙ ap (λ es. start ++ entities_spelled es) (sym (kept_more i p l at))

  -- all of them
  pub kept_ends : (i : ℕ) (start bytes : List ℕ) → i ≡ length (entity_payloads kept) → bytes ≡ start ++ entities_spelled (kept_front i) → bytes ≡ start ++ entities_spelled kept_all
  kept_ends i start bytes at is =
      is ∙ ap (λ ps. start ++ entities_spelled (map (prefixed number) (map entity_of ps))) (take_all i (entity_payloads kept) (omega arith))
      ∙ ap (λ es. start ++ entities_spelled (map (prefixed number) es)) (sym (snapshot_is_its_fields.entities kept))

  -- where the first are too many, all are
  kept_rest : (i : ℕ) → kept_all ≡ kept_front i ++ map (prefixed number) (map entity_of (drop i (entity_payloads kept)))
  kept_rest i =
      ap (map (prefixed number)) (snapshot_is_its_fields.entities kept)
      ∙ ap (λ ps. map (prefixed number) (map entity_of ps)) (sym (take-append-drop i (entity_payloads kept)))
      ∙ ap (map (prefixed number)) (map-append entity_of (take i (entity_payloads kept)) (drop i (entity_payloads kept)))
      ∙ map-append (prefixed number) (map entity_of (take i (entity_payloads kept))) (map entity_of (drop i (entity_payloads kept)))

  pub kept_too_large : (i : ℕ) (start bytes : List ℕ) → bytes ≡ start ++ entities_spelled (kept_front i) → snapshot_limit < length bytes → snapshot_limit < length (start ++ entities_spelled kept_all)
  kept_too_large i start bytes is l =
      let rest = map (prefixed number) (map entity_of (drop i (entity_payloads kept))) in
      let all : start ++ entities_spelled kept_all ≡ bytes ++ entities_spelled rest =
      ap (λ es. start ++ entities_spelled es) (kept_rest i)
      ∙ ap (λ xs. start ++ xs) (flat_map-append entity_spelled (kept_front i) rest)
      ∙ sym (append_assoc start (entities_spelled (kept_front i)) (entities_spelled rest))
      ∙ ap (λ xs. xs ++ entities_spelled rest) (sym is) in
      let long : length (start ++ entities_spelled kept_all) ≡ length bytes + length (entities_spelled rest) = ap length all ∙ length-append bytes (entities_spelled rest) in
      omega (arith, l, long)

-- ---- the bytes of the first feeds, and of one more
module _ (stamp : Option ℤ) (feeds : List (List ℕ)) where
  pub written_next : (i : ℕ) (kept old new : List ℕ) → i < length feeds → kept ≡ get_or feeds i kept → old ≡ union_bytes stamp (front snapshot_value feeds i) →
      new ≡ old ++ entities_spelled (kept_all i kept) → new ≡ union_bytes stamp (front snapshot_value feeds (i + 1))
  written_next i kept old new l is before e =
      e ∙ ap (λ xs. xs ++ entities_spelled (kept_all i kept)) before
      ∙ union_more stamp (front snapshot_value feeds i) (kept_all i kept)
      ∙ ap (union_bytes stamp) (entities_next snapshot_value feeds i kept (front snapshot_value feeds i) (front snapshot_value feeds i ++ kept_all i kept) l is refl refl)

  -- they aren't more than those of all
  front_fits : (i : ℕ) → length (union_bytes stamp (front snapshot_value feeds i)) ≤ length (union_bytes stamp (united_from 0 (map snapshot_value feeds)))
  front_fits i = rises (front snapshot_value feeds i) _ (union_bytes stamp (united_from 0 (map snapshot_value feeds))) (ap (union_bytes stamp) (front_rest snapshot_value feeds i))
    where
      rises : (done es : List (Value entity)) (all : List ℕ) → all ≡ union_bytes stamp (done ++ es) → length (union_bytes stamp done) ≤ length all
      rises done es all e =
          let l : length all ≡ length (union_bytes stamp done) + length (entities_spelled es) = ap length (e ∙ sym (union_more stamp done es)) ∙ length-append (union_bytes stamp done) (entities_spelled es) in
          omega (arith, l)

-- so where those are too many, these are
pub too_large : (feeds items : List (List ℕ)) (i : ℕ) (bytes : List ℕ) → items ≡ feeds → bytes ≡ union_bytes (greatest_stamp (map snapshot_value feeds)) (front snapshot_value items i) →
    snapshot_limit < length bytes → snapshot_limit < length (canonical feed_message (united (map snapshot_value feeds)))
too_large feeds items i bytes same is l = above (front_fits (greatest_stamp (map snapshot_value feeds)) feeds i)
  where
    above : length (union_bytes (greatest_stamp (map snapshot_value feeds)) (front snapshot_value feeds i)) ≤ length (canonical feed_message (united (map snapshot_value feeds))) →
        snapshot_limit < length (canonical feed_message (united (map snapshot_value feeds)))
    above r =
        let long : length bytes ≡ length (union_bytes (greatest_stamp (map snapshot_value feeds)) (front snapshot_value feeds i)) =
        ap length is ∙ ap (λ xs. length (union_bytes (greatest_stamp (map snapshot_value feeds)) (front snapshot_value xs i))) same in
        omega (arith, l, r, long)

-- what a call leaves where it took effect
pub if_taken : {A E X : Type 0} (r : Result A E) (x a b : X) → x ≡ (if is_ok r then a else b) → OnOk r (x ≡ a)
if_taken (Ok v) x a b h = h
if_taken (Err e) x a b h = tt

-- a fault that is handed on is the one that came
pub handed_on : {E T U : Type 0} (s : Result U E) (came told fault : E) → s ≡ Err told → told ≡ came → s ≡ Err fault → (let q : Result T E = Err came in q) ≡ Err fault
handed_on s came told fault now same is = cc
