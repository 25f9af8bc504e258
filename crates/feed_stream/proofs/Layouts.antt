-- A layout, field by field, and when more bytes come.
use Rattle.std.proofs.Common.{◌≡◌, ℕ, ◌-◌, Bool, true, false, cond, eqb, List, [], ◌∷◌, ◌++◌, append-nil, map, take, drop, Option, Some, None, Result, Ok, refl, sym, ap, subst, ◌∙◌, arith}
use Rattle.std.specs.Option.{option_map}
use Rattle.std.proofs.lemmas.List.{map-append, length-append, length-drop, drop-append-le, take-append-le}
use Rattle.std.proofs.lemmas.List.Folds.{concat-append}
use Rattle.std.specs.List.{AllByRecursion, concat}
use Rattle.rt_wire.specs.declared.fault.WireFault.{WireFault}
use Rattle.rt_wire.specs.declared.field.RawField.{RawField}
use Rattle.rt_wire.specs.Fields.{WireField, Group}
use Rattle.rt_wire.specs.Placed.{PlacedField, LiesIn, placed_field, placed_fields}
use Rattle.feed_values.specs.Meaning.{fields, in_slot, payload_in, option_case}
use Rattle.feed_stream.specs.declared.header.Header.{Header}
use Rattle.feed_stream.specs.declared.header.Header.TheVariants as held
use Rattle.feed_stream.specs.declared.layout.Layout.{Layout}
use Rattle.feed_stream.specs.declared.part.Part.{Part}
use Rattle.feed_stream.specs.Layouts.{IsLayoutOf, TakesField, header_more}
use Rattle.feed_stream.specs.Payloads.{Payload, header_payloads, joined_header, payloads_in}
use Rattle.feed_stream.specs.Parts.{IsHeader, IsWithin, header_bytes, header_held, part_bytes, parts_in, payload_at}
use Rattle.feed_stream.proofs.Payloads.{all_found, found_more, payloads_given, payloads_in-more, ranges_bytes, within_more}
use Rattle.feed_stream.proofs.Bases.{payloads_behind}

abbrev bytes_of : List Payload → List (List ℕ)
bytes_of ps = map (λ p. p.bytes) ps

-- ---- joined payloads

pub joined_more : (ps qs : List (List ℕ)) → joined_header (ps ++ qs) ≡ header_more (joined_header ps) qs
joined_more [] [] = refl
joined_more [] (q ∷ qs) = refl
joined_more (p ∷ ps) [] = ap (λ (l : List (List ℕ)). Some (concat (p ∷ l))) (append-nil ps)
joined_more (p ∷ ps) (q ∷ qs) = ap (λ (b : List ℕ). Some b) (concat-append (p ∷ ps) (q ∷ qs))

-- the bytes of a header that came are its payloads, joined, and none where none came
pub header_joined : (bytes : List ℕ) (h : Header) (ps : List (List ℕ)) → header_held bytes h ≡ joined_header ps → header_bytes bytes h ≡ concat ps
header_joined bytes held.Missing [] e = refl
header_joined bytes held.Missing (p ∷ ps) e = absurd cc
header_joined bytes (held.Whole part) [] e = absurd cc
header_joined bytes (held.Whole part) (p ∷ ps) e = cc
header_joined bytes (held.Joined parts) [] e = absurd cc
header_joined bytes (held.Joined parts) (p ∷ ps) e = cc

pub header_bytes_are : (bytes : List ℕ) (h : Header) → header_held bytes h ≡ joined_header (bytes_of (payloads_in 1 (placed_fields bytes))) → header_bytes bytes h ≡ concat (header_payloads bytes)
unfolding fields
header_bytes_are bytes h e = header_joined bytes h (header_payloads bytes) (e ∙ ap joined_header (payloads_given 1 (placed_fields bytes)))

-- ---- one more field

abbrev whole : List PlacedField → List (Result PlacedField WireFault)
whole places = map (λ p. Ok p) places

-- what a field gives
here : (bytes : List ℕ) (n : ℕ) (f : RawField) → LiesIn bytes f → map (payload_at bytes) (parts_in n (placed_field f)) ≡ payloads_in n (Ok (placed_field f) ∷ [])
here bytes n f lies = sym (append-nil (map (payload_at bytes) (parts_in n (placed_field f)))) ∙ payloads_in-more bytes n f lies []

header_after : (bytes : List ℕ) (places : List PlacedField) (f : RawField) (held : Option (List ℕ)) → LiesIn bytes f → held ≡ joined_header (bytes_of (payloads_in 1 (whole places)))
    → header_more held (map (part_bytes bytes) (parts_in 1 (placed_field f))) ≡ joined_header (bytes_of (payloads_in 1 (whole places ++ Ok (placed_field f) ∷ [])))
header_after bytes places f held lies e =
    let before = payloads_in 1 (whole places) in
    let now = payloads_in 1 (Ok (placed_field f) ∷ []) in
    let given : map (part_bytes bytes) (parts_in 1 (placed_field f)) ≡ bytes_of now = sym (ranges_bytes bytes (parts_in 1 (placed_field f))) ∙ ap (λ (ps : List Payload). bytes_of ps) (here bytes 1 f lies) in
    ap (λ (h : Option (List ℕ)). header_more h (map (part_bytes bytes) (parts_in 1 (placed_field f)))) e
    ∙ ap (λ (ps : List (List ℕ)). header_more (joined_header (bytes_of before)) ps) given
    ∙ sym (joined_more (bytes_of before) (bytes_of now))
    ∙ ap joined_header (sym (map-append (λ (p : Payload). p.bytes) before now) ∙ ap (λ (ps : List Payload). bytes_of ps) (sym (payloads_behind 1 places (Ok (placed_field f) ∷ []))))

pub layout_more : (bytes : List ℕ) (places : List PlacedField) (f : RawField) (old new : Layout) → LiesIn bytes f → IsLayoutOf bytes (whole places) old → TakesField bytes (placed_field f) old new
    → IsLayoutOf bytes (whole places ++ Ok (placed_field f) ∷ []) new
layout_more bytes places f old new lies before takes =
    let one : List (Result PlacedField WireFault) = Ok (placed_field f) ∷ [] in
    let all = payloads_in 2 (whole places ++ one) in
    let so_far : map (payload_at bytes) old.entities.items ++ payloads_in 2 one ≡ all = ap (λ (ps : List Payload). ps ++ payloads_in 2 one) before.entities ∙ sym (payloads_behind 2 places one) in
    record {
      entities = ap (λ (ps : List Part). map (payload_at bytes) ps) takes.entities
          ∙ all_found (map (payload_at bytes) (old.entities.items ++ parts_in 2 (placed_field f))) [] all refl (found_more bytes 2 f lies old.entities.items [] all so_far);
      entities_within = subst (λ (ps : List Part). AllByRecursion (IsWithin bytes) ps) (sym takes.entities) (within_more bytes 2 f lies old.entities.items before.entities_within);
      header = takes.header ∙ header_after bytes places f (header_held bytes old.header) lies before.header;
      header_within = takes.header_within;
    }

-- a group has no payload
no_payload : (n base k : ℕ) (q : List ℕ) (b : Bool) → option_case (option_map (λ x. record { base = base; bytes = x }) (cond b (payload_in (Group q)) None)) [] (λ (x : Payload). x ∷ []) ≡ []
no_payload n base k q true = refl
no_payload n base k q false = refl

group_none : (n k : ℕ) (q : List ℕ) (p : PlacedField) → p.field ≡ record { number = k; value = Group q } → payloads_in n (Ok p ∷ []) ≡ []
group_none n k q p e =
    ap (λ (f : WireField). option_case (option_map (λ x. record { base = p.body; bytes = x }) (in_slot payload_in n f)) [] (λ (x : Payload). x ∷ [])) e ∙ no_payload n p.body k q (eqb k n)

no_more : (n k : ℕ) (q : List ℕ) (places : List PlacedField) (p : PlacedField) → p.field ≡ record { number = k; value = Group q } → payloads_in n (whole places) ≡ payloads_in n (whole places ++ Ok p ∷ [])
no_more n k q places p e =
    sym (payloads_behind n places (Ok p ∷ []) ∙ ap (λ (ps : List Payload). payloads_in n (whole places) ++ ps) (group_none n k q p e) ∙ append-nil (payloads_in n (whole places)))

pub layout_group : (bytes : List ℕ) (places : List PlacedField) (p : PlacedField) (k : ℕ) (q : List ℕ) (layout : Layout) → p.field ≡ record { number = k; value = Group q } → IsLayoutOf bytes (whole places) layout
    → IsLayoutOf bytes (whole places ++ Ok p ∷ []) layout
layout_group bytes places p k q layout e before = record {
  entities = before.entities ∙ no_more 2 k q places p e;
  entities_within = before.entities_within;
  header = before.header ∙ ap (λ (ps : List Payload). joined_header (bytes_of ps)) (no_more 1 k q places p e);
  header_within = before.header_within;
}

-- ---- more bytes

part_grows : (bytes more : List ℕ) (p : Part) → IsWithin bytes p → part_bytes (bytes ++ more) p ≡ part_bytes bytes p
part_grows bytes more p w =
    let order = w.order in
    let within = w.within in
    let left = length-drop p.start bytes in
    ap (take (p.end - p.start)) (drop-append-le p.start bytes more (omega (arith, order, within))) ∙ take-append-le (p.end - p.start) (drop p.start bytes) more (omega (arith, left, order, within))

parts_grow : (bytes more : List ℕ) (ps : List Part) → AllByRecursion (IsWithin bytes) ps → map (payload_at (bytes ++ more)) ps ≡ map (payload_at bytes) ps
parts_grow bytes more [] w = refl
parts_grow bytes more (p ∷ ps) w =
    ap (λ (b : List ℕ). record { base = p.start; bytes = b } ∷ map (payload_at (bytes ++ more)) ps) (part_grows bytes more p w.0)
    ∙ ap (λ (l : List Payload). payload_at bytes p ∷ l) (parts_grow bytes more ps w.1)

within_grows : (bytes more : List ℕ) (p : Part) → IsWithin bytes p → IsWithin (bytes ++ more) p
within_grows bytes more p w = record { order = w.order; within = omega (arith, w.within, length-append bytes more) }

all_within : (bytes more : List ℕ) (ps : List Part) → AllByRecursion (IsWithin bytes) ps → AllByRecursion (IsWithin (bytes ++ more)) ps
all_within bytes more [] w = tt
all_within bytes more (p ∷ ps) w = (within_grows bytes more p w.0, all_within bytes more ps w.1)

header_grows : (bytes more : List ℕ) (h : Header) → IsHeader bytes h → header_held (bytes ++ more) h ≡ header_held bytes h
header_grows bytes more held.Missing w = refl
header_grows bytes more (held.Whole part) w = ap (λ (b : List ℕ). Some b) (part_grows bytes more part w)
header_grows bytes more (held.Joined parts) w = refl

header_still : (bytes more : List ℕ) (h : Header) → IsHeader bytes h → IsHeader (bytes ++ more) h
header_still bytes more held.Missing w = tt
header_still bytes more (held.Whole part) w = within_grows bytes more part w
header_still bytes more (held.Joined parts) w = tt

pub layout_grows : (bytes more : List ℕ) (parts : List (Result PlacedField WireFault)) (layout : Layout) → IsLayoutOf bytes parts layout → IsLayoutOf (bytes ++ more) parts layout
layout_grows bytes more parts layout l = record {
  entities = parts_grow bytes more layout.entities.items l.entities_within ∙ l.entities;
  entities_within = all_within bytes more layout.entities.items l.entities_within;
  header = header_grows bytes more layout.header l.header_within ∙ l.header;
  header_within = header_still bytes more layout.header l.header_within;
}
