-- What came, one piece after the other.
use Rattle.std.proofs.Common.{◌≡◌, ℕ, ◌+◌, ◌<◌, ◌≤◌, List, [], ◌∷◌, ◌++◌, length, take, drop, Option, Some, None, refl, sym, ap, subst, ◌∙◌, arith, inl, inr}
use Rattle.std.specs.Prelude.{IfSome}
use Rattle.std.proofs.lemmas.Bool.{cases_lt}
use Rattle.std.proofs.lemmas.List.{length-append, take-append-drop}
use Rattle.rt_wire.specs.declared.fault.WireFault.{WireFault}
use Rattle.rt_wire.specs.Fields.{IsBytes}
use Rattle.rt_wire.specs.Placed.{placed_fields, placed_fields_from}
use Rattle.field_pieces.specs.SoFar.{IsFrontAt}
use Rattle.field_pieces.specs.Stays.{Stays}
use Rattle.field_pieces.specs.declared.front.Front.{Front}
use Rattle.field_pieces.proofs.FrontSteps as steps
use Rattle.feed_values.specs.Meaning.{fields}
use Rattle.feed_values.specs.Accepted.{snapshot_limit}
use Rattle.feed_codec.specs.declared.refusal.Reason.TheVariants.{TooLarge}
use Rattle.feed_codec.specs.declared.refusal.Refusal.{Refusal}
use Rattle.feed_codec.specs.Refusal.{refused, refusal}
use Rattle.feed_codec.specs.FirstFault.{too_large, in_field}
use Rattle.feed_codec.proofs.SnapshotFaults.{refused_is}
use Rattle.feed_codec.proofs.Bytes.{bytes_append}
use Rattle.feed_stream.specs.declared.layout.Layout.{Layout}
use Rattle.feed_stream.specs.declared.walking.Reached.{Reached}
use Rattle.feed_stream.specs.declared.splitter.Walk.{Walk}
use Rattle.feed_stream.specs.declared.splitter.Found.TheVariants as found
use Rattle.feed_stream.specs.Parts.{header_held}
use Rattle.feed_stream.specs.Payloads.{header_payloads, joined_header}
use Rattle.feed_stream.specs.Layouts.{IsLayoutOf}
use Rattle.feed_stream.specs.Settled.{IsSettled}
use Rattle.feed_stream.specs.Walks.{WalkedTo, EndsEarly}
use Rattle.feed_stream.specs.declared.header.Header.TheVariants.{Missing}
use Rattle.feed_stream.specs.Came.{Came}
use Rattle.feed_stream.specs.Inside.{IsReached, IsWalk, GoesWrong, sofar}
use Rattle.feed_stream.proofs.Payloads.{payloads_given}
use Rattle.feed_stream.proofs.Settled as laws

early : (bytes : List ℕ) (next : ℕ) (o : Option WireFault) → EndsEarly bytes next o → laws.JustEnds (drop next bytes)
early bytes next None e = inl e
early bytes next (Some f) e = inr (e.0, e.1, λ s. e.3 (subst (λ (g : WireFault). Stays g.reason) (sym e.2) s))

none : (bytes : List ℕ) (next : ℕ) (o : Option WireFault) → IsBytes bytes → WalkedTo bytes next → EndsEarly bytes next o → (r : Refusal) → IsSettled bytes r → ⊥
none bytes next o ok w e r h =
    let all = take-append-drop next bytes in
    let f : GoesWrong (take next bytes ++ drop next bytes) r = subst (λ (b : List ℕ). GoesWrong b r) (sym all) (h.first, h.stays) in
    laws.none_settled w.fields (take next bytes) (drop next bytes) (subst (λ (b : List ℕ). IsBytes b) (sym all) ok) w.joins w.whole (early bytes next o e) r f.0 f.1

header_laid : (bytes : List ℕ) (next : ℕ) (layout : Layout) → IsLayoutOf bytes (placed_fields (take next bytes)) layout → header_held bytes layout.header ≡ joined_header (header_payloads (take next bytes))
unfolding fields
header_laid bytes next layout l = l.header ∙ ap joined_header (payloads_given 1 (placed_fields (take next bytes)))

-- what was gone through
pub came_walked : (w : Walk) → IsWalk w → Came w.bytes.items (sofar (found.Walked w))
came_walked w h =
    let bytes = w.bytes.items in
    record {
      bytes_are = h.bytes_are;
      within = λ le. (
        refl,
        record {
          bytes_are = refl;
          walked_to = h.reached.walked_to;
          entities = h.reached.layout.entities;
          header = header_laid bytes w.reached.next w.reached.layout h.reached.layout;
          rest = h.reached.rest;
          none_settled = none bytes w.reached.next w.reached.unfinished h.bytes_are h.reached.walked_to h.reached.rest;
        },
      );
      over = λ lt. absurd (omega (arith, lt, h.small));
    }

pub came_refused : (bytes : List ℕ) (n : ℕ) (r : Refusal) → IsBytes bytes → length bytes ≤ snapshot_limit → n ≡ length bytes → GoesWrong bytes r → Came bytes (sofar (found.Refused r n))
came_refused bytes n r ok small e f = record {
  bytes_are = ok;
  within = λ le. (e, record { within = small; first = f.0; stays = f.1 });
  over = λ lt. absurd (omega (arith, lt, small));
}

-- more than the limit came
pub came_over : (bytes : List ℕ) (n : ℕ) (r : Refusal) → IsBytes bytes → snapshot_limit < n → snapshot_limit < length bytes → Came bytes (sofar (found.Refused r n))
came_over bytes n r ok large lt = record {
  bytes_are = ok;
  within = λ le. absurd (omega (arith, le, lt));
  over = λ _. large;
}

-- a refusal stays, and bytes are counted
pub came_more : (b piece : List ℕ) (r : Refusal) (n m : ℕ) → IsBytes piece → (n + length piece ≤ snapshot_limit → m ≡ n + length piece) → (snapshot_limit < n + length piece → snapshot_limit < m)
    → Came b (sofar (found.Refused r n)) → Came (b ++ piece) (sofar (found.Refused r m))
came_more b piece r n m ok exact large c =
    let len = length-append b piece in
    record {
      bytes_are = bytes_append b piece c.bytes_are ok;
      within = λ le.
          let h = c.within (omega (arith, len, le)) in
          (exact (omega (arith, h.0, len, le)) ∙ omega (arith, h.0, len), laws.settled_grows b piece r le h.1);
      over = λ lt. elim (cases_lt snapshot_limit (length b)) [
        | inl past ↦ large (omega (arith, c.over past))
        | inr le ↦ large (omega (arith, (c.within le).0, len, lt))
      ];
    }

-- what was walked is what came
pub came_is : (b : List ℕ) (w : Walk) → length w.bytes.items ≤ snapshot_limit → Came b (sofar (found.Walked w)) → w.bytes.items ≡ b
came_is b w small c = elim (cases_lt snapshot_limit (length b)) [
  | inl past ↦ absurd (omega (arith, c.over past, small))
  | inr le ↦ (c.within le).1.bytes_are
]

front_grows : (bytes more : List ℕ) (next : ℕ) (f : Front) → next ≤ length bytes → IsFrontAt bytes next f → IsFrontAt (bytes ++ more) next f
front_grows bytes more next f le h = steps.grows bytes more next f.at (f.outer.items ++ f.number ∷ []) le h

pub fronts_grow : (bytes more : List ℕ) (next : ℕ) (o : Option Front) → next ≤ length bytes → IfSome o (IsFrontAt bytes next) → IfSome o (IsFrontAt (bytes ++ more) next)
fronts_grow bytes more next None le h = tt
fronts_grow bytes more next (Some f) le h = front_grows bytes more next f le h

-- ---- at first nothing came

nothing_read : placed_fields [] ≡ []
unfolding placed_fields placed_fields_from
nothing_read = refl

nothing_laid : (layout : Layout) → layout.header ≡ Missing → layout.entities.items ≡ [] → IsLayoutOf [] (placed_fields []) layout
nothing_laid layout h e = record { entities = rw (e, nothing_read) refl; entities_within = rw e tt; header = rw (h, nothing_read) refl; header_within = rw h tt }

nothing_reached : (r : Reached) → r.next ≡ 0 → r.layout.header ≡ Missing → r.layout.entities.items ≡ [] → r.front ≡ None → r.unfinished ≡ None → IsReached [] r
nothing_reached r n h e f u = record {
  walked_to = rw n (record { within = omega arith; fields = []; joins = refl; whole = tt });
  layout = rw n (nothing_laid r.layout h e);
  rest = rw (n, u) refl;
  front = rw f tt;
}

pub nothing_walked : (w : Walk) → w.bytes.items ≡ [] → IsReached [] w.reached → IsWalk w
nothing_walked w e r = record {
  bytes_are = subst (λ (b : List ℕ). IsBytes b) (sym e) (λ i. omega arith);
  small = omega (arith, ap (λ (b : List ℕ). length b) e);
  reached = subst (λ (b : List ℕ). IsReached b w.reached) (sym e) r;
}

pub starts : (w : Walk) → w.bytes.items ≡ [] → w.reached.next ≡ 0 → w.reached.layout.header ≡ Missing → w.reached.layout.entities.items ≡ [] → w.reached.front ≡ None → w.reached.unfinished ≡ None → IsWalk w
starts w b n h e f u = nothing_walked w b (nothing_reached w.reached n h e f u)

-- ---- at the end

pub came_large : (b : List ℕ) (n : ℕ) (r : Refusal) → snapshot_limit < n → Came b (sofar (found.Refused r n)) → refusal b ≡ Some (refused snapshot_limit TooLarge)
came_large b n r large c = elim (cases_lt snapshot_limit (length b)) [
  | inl past ↦ refused_is b (refused snapshot_limit TooLarge) c.bytes_are (too_large past refl)
  | inr le ↦ absurd (omega (arith, (c.within le).0, le, large))
]

pub came_settled : (b : List ℕ) (n : ℕ) (r : Refusal) → n ≤ snapshot_limit → Came b (sofar (found.Refused r n)) → refusal b ≡ Some r
came_settled b n r small c = elim (cases_lt snapshot_limit (length b)) [
  | inl past ↦ absurd (omega (arith, c.over past, small))
  | inr le ↦ refused_is b r c.bytes_are (in_field le (c.within le).1.first)
]
