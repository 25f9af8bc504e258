-- A step of going through a snapshot.
use Rattle.std.proofs.Common.{◌≡◌, ℕ, ◌+◌, ◌-◌, ◌<◌, ◌≤◌, List, [], ◌∷◌, ◌++◌, length, map, take, drop, append_assoc, Option, Some, None, Result, Ok, Err, refl, sym, ap, subst, ◌∙◌, arith}
use Rattle.std.specs.Prelude.{IfSome}
use Rattle.std.specs.Option.{option_map}
use Rattle.std.specs.List.{AllByRecursion}
use Rattle.std.proofs.lemmas.List.{length-append, length-take, take_at, take-append-drop, take-append-le}
use Rattle.std.proofs.Math.ListN.{drop_of_length-le}
use Rattle.rt_wire.specs.declared.fault.WireFault.{WireFault}
use Rattle.rt_wire.specs.declared.field.RawField.{RawField}
use Rattle.rt_wire.specs.Fields.{IsBytes, WireField, WireValue, Varint, Fixed64, Len, Group, Fixed32, Joins, Spells}
use Rattle.rt_wire.specs.Placed.{LiesIn, PlacedField, field_from, placed_field, placed_fields, spelled_at, value_offset, moved, place_moved}
use Rattle.rt_wire.proofs.Places.{At, behind, ok_is}
use Rattle.rt_wire.proofs.Complete.{field_reads}
use Rattle.rt_wire.proofs.Sound.{field_sound}
use Rattle.rt_wire.proofs.FaultsFound.{own_found}
use Rattle.rt_wire.proofs.Whole.{join_is_read, spelled_is_read}
use Rattle.field_pieces.specs.Fronts.{IsGroupTo}
use Rattle.field_pieces.specs.Stays.{Stays}
use Rattle.field_pieces.proofs.FrontLaws.{joins_append, joins_one}
use Rattle.feed_values.specs.Meaning.{option_case, payload_in}
use Rattle.feed_codec.specs.declared.refusal.Refusal.{Refusal}
use Rattle.feed_codec.specs.Refusal.{in_payload, own_fault, part_fault, shifted}
use Rattle.feed_codec.specs.FirstFault.{FrontGoesWrong, no_field, inside, FirstIn, PartWhole, PartWrong}
use Rattle.feed_codec.proofs.Bytes.{HasBytes, bytes_left, bytes_right, field_bytes}
use Rattle.feed_codec.proofs.Firsts.{field_whole, one_place}
use Rattle.feed_codec.proofs.SnapshotFaults.{parts_agree}
use Rattle.feed_codec.proofs.ValidTexts.{nothing}
use Rattle.feed_stream.specs.declared.layout.Layout.{Layout}
use Rattle.feed_stream.specs.Inside.{GoesWrong}
use Rattle.feed_stream.specs.Layouts.{IsLayoutOf, TakesField}
use Rattle.feed_stream.specs.Walks.{WalkedTo, EndsEarly}
use Rattle.feed_stream.proofs.Layouts.{layout_group, layout_more}

all_append : {A : Type 0} (P : A → Type 0) (xs ys : List A) → AllByRecursion P xs → AllByRecursion P ys → AllByRecursion P (xs ++ ys)
all_append P [] ys h k = k
all_append P (x ∷ xs) ys h k = (h.0, all_append P xs ys h.1 k)

taken : (bytes : List ℕ) (next : ℕ) (b rest : List ℕ) (h : At bytes next b rest) → (take next bytes ≡ h.front) × (take (next + length b) bytes ≡ h.front ++ b)
taken bytes next b rest h = (
  ap (take next) h.is ∙ take_at h.front (b ++ rest) next (sym h.place),
  ap (take (next + length b)) (h.is ∙ sym (append_assoc h.front b rest)) ∙ take_at (h.front ++ b) rest (next + length b) (omega (arith, h.place, length-append h.front b)),
)

pub front_length : (bytes : List ℕ) (next : ℕ) → next ≤ length bytes → length (take next bytes) ≡ next
front_length bytes next le = omega (arith, le, length-take next bytes)

-- ---- a whole field

-- the bytes that spell it stand behind the front
pub record Next (bytes : List ℕ) (next : ℕ) (p : PlacedField) : Type 0 where
  pub bytes_of : List ℕ
  pub rest : List ℕ
  pub here : At bytes next bytes_of rest
  pub spelled : Spells 100 p.field bytes_of
  pub stop : p.stop ≡ next + length bytes_of
  pub is : p ≡ spelled_at next p.field bytes_of
  pub front : take p.stop bytes ≡ take next bytes ++ bytes_of

pub stands_next : (bytes : List ℕ) (next : ℕ) (p : PlacedField) → IsBytes bytes → next ≤ length bytes → field_from bytes next ≡ Ok p → Next bytes next p
stands_next bytes next p ok le e =
    let s = field_sound bytes next p ok le e in
    let t = taken bytes next s.bytes s.rest s.here in
    record {
      bytes_of = s.bytes;
      rest = s.rest;
      here = s.here;
      spelled = s.spelled;
      stop = s.stop;
      is = ok_is p (spelled_at next p.field s.bytes) (sym e ∙ field_reads p.field s.bytes bytes next s.rest s.spelled s.here);
      front = ap (λ (n : ℕ). take n bytes) s.stop ∙ t.1 ∙ ap (λ (l : List ℕ). l ++ s.bytes) (sym t.0);
    }

pub has_bytes : (bytes : List ℕ) (next : ℕ) (p : PlacedField) → IsBytes bytes → Next bytes next p → HasBytes p.field
has_bytes bytes next p ok n =
    let all : IsBytes (n.here.front ++ (n.bytes_of ++ n.rest)) = subst (λ (b : List ℕ). IsBytes b) n.here.is ok in
    field_bytes p.field n.bytes_of n.spelled (bytes_left n.bytes_of n.rest (bytes_right n.here.front (n.bytes_of ++ n.rest) all))

pub walked_more : (bytes : List ℕ) (next : ℕ) (p : PlacedField) → WalkedTo bytes next → Next bytes next p → PartWhole p.field → WalkedTo bytes p.stop
walked_more bytes next p w n whole = record {
  within = omega (arith, n.stop, n.here.place, ap (λ (l : List ℕ). length l) n.here.is, length-append n.here.front (n.bytes_of ++ n.rest), length-append n.bytes_of n.rest);
  fields = w.fields ++ p.field ∷ [];
  joins = subst (λ (b : List ℕ). Joins (Spells 100) (w.fields ++ p.field ∷ []) b) (sym n.front)
      (joins_append (Spells 100) w.fields (p.field ∷ []) (take next bytes) n.bytes_of w.joins (joins_one (Spells 100) p.field n.bytes_of n.spelled));
  whole = all_append PartWhole w.fields (p.field ∷ []) w.whole (whole, tt);
}

-- what is handed out of the front with one more field
moved_on : (n m : ℕ) (f : WireField) (b : List ℕ) → n ≡ m → place_moved n (spelled_at 0 f b) ≡ spelled_at m f b
moved_on n m f b e =
    let start : n + 0 ≡ m = omega (arith, e) in
    let body : n + (0 + value_offset f.value b) ≡ m + value_offset f.value b = omega (arith, e) in
    let stop : n + (0 + length b) ≡ m + length b = omega (arith, e) in
    λ i. record { field = f; start = start i; body = body i; stop = stop i }

pub places_more : (bytes : List ℕ) (next : ℕ) (p : PlacedField) → (w : WalkedTo bytes next) → Next bytes next p → placed_fields (take p.stop bytes) ≡ placed_fields (take next bytes) ++ Ok p ∷ []
places_more bytes next p w n =
    let front = take next bytes in
    ap placed_fields n.front ∙ join_is_read w.fields front n.bytes_of w.joins
    ∙ ap (λ (t : List (Result PlacedField WireFault)). placed_fields front ++ map (moved (length front)) t) (one_place p.field n.bytes_of n.spelled)
    ∙ ap (λ (q : PlacedField). placed_fields front ++ Ok q ∷ []) (moved_on (length front) next p.field n.bytes_of (front_length bytes next w.within) ∙ sym n.is)

-- the layout with one more field
abbrev LayoutAt : List ℕ → ℕ → Layout → Type 0
LayoutAt bytes next layout = IsLayoutOf bytes (placed_fields (take next bytes)) layout

pub field_laid : (bytes : List ℕ) (next : ℕ) (f : RawField) (old new : Layout) → (w : WalkedTo bytes next) → Next bytes next (placed_field f) → LiesIn bytes f → LayoutAt bytes next old → TakesField bytes (placed_field f) old new
    → LayoutAt bytes f.end new
field_laid bytes next f old new w n lies before takes =
    let h = spelled_is_read w.fields (take next bytes) w.joins in
    let all : placed_fields (take f.end bytes) ≡ map (λ p. Ok p) h.places ++ Ok (placed_field f) ∷ [] = places_more bytes next (placed_field f) w n ∙ ap (λ (t : List (Result PlacedField WireFault)). t ++ Ok (placed_field f) ∷ []) h.all in
    subst (λ (t : List (Result PlacedField WireFault)). IsLayoutOf bytes t new) (sym all)
    (layout_more bytes h.places f old new lies (subst (λ (t : List (Result PlacedField WireFault)). IsLayoutOf bytes t old) h.all before) takes)

-- and with a group
pub record GroupPassed (bytes : List ℕ) (stop : ℕ) (layout : Layout) : Type 0 where
  pub walked : WalkedTo bytes stop
  pub laid : LayoutAt bytes stop layout

pub group_passed : (bytes : List ℕ) (next stop : ℕ) (layout : Layout) → IsBytes bytes → WalkedTo bytes next → LayoutAt bytes next layout → IsGroupTo bytes next stop → GroupPassed bytes stop layout
group_passed bytes next stop layout ok w before g =
    let p = g.found in
    let n = stands_next bytes next p ok w.within g.reads in
    let h = spelled_is_read w.fields (take next bytes) w.joins in
    let all : placed_fields (take p.stop bytes) ≡ map (λ p. Ok p) h.places ++ Ok p ∷ [] = places_more bytes next p w n ∙ ap (λ (t : List (Result PlacedField WireFault)). t ++ Ok p ∷ []) h.all in
    let laid : LayoutAt bytes p.stop layout = subst (λ (t : List (Result PlacedField WireFault)). IsLayoutOf bytes t layout) (sym all)
    (layout_group bytes h.places p g.number g.payload layout g.group (subst (λ (t : List (Result PlacedField WireFault)). IsLayoutOf bytes t layout) h.all before)) in
    let walked : WalkedTo bytes p.stop = walked_more bytes next p w n (subst PartWhole (sym g.group) (no_part g.number)) in
    record {
      walked = subst (λ (m : ℕ). WalkedTo bytes m) g.stop_is walked;
      laid = subst (λ (m : ℕ). LayoutAt bytes m layout) g.stop_is laid;
    }
  where
    no_part : (number : ℕ) → PartWhole (record { number = number; value = Group g.payload })
    no_part number = parts_agree.other (record { number = number; value = Group g.payload }) refl

-- ---- what a check says of a field

pub whole_part : (p : PlacedField) → HasBytes p.field → in_payload part_fault p ≡ nothing → PartWhole p.field
whole_part p ok e = field_whole parts_agree p.field.number p.body p.field.value ok e

mapped_some : (body : ℕ) (o : Option Refusal) (r : Refusal) → option_map (shifted body) o ≡ Some r → (inner : Refusal) × (o ≡ Some inner) × (r ≡ shifted body inner)
mapped_some body None r e = absurd cc
mapped_some body (Some inner) r e = (inner, refl, cc)

pub record WrongInside (number body : ℕ) (value : WireValue) (r : Refusal) : Type 0 where
  pub payload : List ℕ
  pub inner : Refusal
  pub given : payload_in value ≡ Some payload
  pub wrong : PartWrong number payload inner
  pub place : r ≡ shifted body inner

wrong_value : (number body : ℕ) (x : WireValue) (r : Refusal) → IfSome (payload_in x) IsBytes → option_case (payload_in x) nothing (λ p. option_map (shifted body) (part_fault number p)) ≡ Some r → WrongInside number body x r
wrong_value number body (Len p) r ok e =
    let m = mapped_some body (part_fault number p) r e in
    record { payload = p; inner = m.0; given = refl; wrong = parts_agree.found number p m.0 ok m.1; place = m.2 }
wrong_value number body (Varint n) r ok e = absurd cc
wrong_value number body (Fixed64 n) r ok e = absurd cc
wrong_value number body (Group g) r ok e = absurd cc
wrong_value number body (Fixed32 n) r ok e = absurd cc

-- ---- something is wrong behind the front

abbrev pub first_in_front : (bytes : List ℕ) (next : ℕ) (w : WalkedTo bytes next) (r first : Refusal) → FrontGoesWrong PartWrong (drop next bytes) first → r ≡ shifted next first → FirstIn PartWhole PartWrong bytes r
first_in_front bytes next w r first g place = record {
  fields = w.fields;
  front = take next bytes;
  rest = drop next bytes;
  bytes_are = sym (take-append-drop next bytes);
  joins = w.joins;
  whole = w.whole;
  first = first;
  wrong = g;
  place = place ∙ ap (λ (n : ℕ). shifted n first) (sym (front_length bytes next w.within));
}

shifted_twice : (m n : ℕ) (r : Refusal) → shifted (m + n) r ≡ shifted m (shifted n r)
shifted_twice m n r = let e : m + n + r.at ≡ m + (n + r.at) = omega arith in rw e refl

offset_of : (x : WireValue) (q b : List ℕ) → payload_in x ≡ Some q → value_offset x b ≡ length b - length q
offset_of (Len p) q b e = let same : p ≡ q = cc in rw same refl
offset_of (Varint n) q b e = absurd cc
offset_of (Fixed64 n) q b e = absurd cc
offset_of (Group g) q b e = absurd cc
offset_of (Fixed32 n) q b e = absurd cc

pub inside_refused : (bytes : List ℕ) (next : ℕ) (p : PlacedField) (r : Refusal) → IsBytes bytes → WalkedTo bytes next → Next bytes next p → in_payload part_fault p ≡ Some r → GoesWrong bytes r
inside_refused bytes next p r ok w n e =
    let v = wrong_value p.field.number p.body p.field.value r (has_bytes bytes next p ok n) e in
    let size = length n.bytes_of - length v.payload in
    let body : p.body ≡ next + size = ap (λ (f : PlacedField). f.body) n.is ∙ ap (λ (m : ℕ). next + m) (offset_of p.field.value v.payload n.bytes_of v.given) in (
      first_in_front bytes next w r (shifted size v.inner) (inside p.field n.bytes_of n.rest v.payload v.inner (behind bytes next n.bytes_of n.rest n.here) n.spelled v.given v.wrong refl)
          (v.place ∙ ap (λ (m : ℕ). shifted m v.inner) body ∙ shifted_twice next size v.inner),
      tt,
    )

pub own_refused : (bytes : List ℕ) (next : ℕ) (f : WireFault) → IsBytes bytes → WalkedTo bytes next → next < length bytes → field_from bytes next ≡ Err f → Stays f.reason → GoesWrong bytes (own_fault f)
own_refused bytes next f ok w lt e stays =
    let o = own_found bytes next f ok lt e in
    (first_in_front bytes next w (own_fault f) (own_fault o.0) (no_field o.0 o.1 refl) (ap own_fault o.2), subst (λ (g : WireFault). Stays g.reason) o.2 stays)

pub ends_early : (bytes : List ℕ) (next : ℕ) (f : WireFault) → IsBytes bytes → next < length bytes → field_from bytes next ≡ Err f → (Stays f.reason → ⊥) → EndsEarly bytes next (Some f)
ends_early bytes next f ok lt e early = let o = own_found bytes next f ok lt e in (o.0, o.1, o.2, early)

pub nothing_left : (bytes : List ℕ) (next : ℕ) → length bytes ≤ next → drop next bytes ≡ []
nothing_left bytes next le = drop_of_length-le bytes le

-- ---- more bytes

pub walked_grows : (bytes more : List ℕ) (next : ℕ) → WalkedTo bytes next → WalkedTo (bytes ++ more) next
walked_grows bytes more next w = record {
  within = omega (arith, w.within, length-append bytes more);
  fields = w.fields;
  joins = subst (λ (b : List ℕ). Joins (Spells 100) w.fields b) (sym (take-append-le next bytes more w.within)) w.joins;
  whole = w.whole;
}
