-- Text that is held back until it fills a piece, and then sent.
use Rattle.std.proofs.Common.{◌≡◌, ◌<◌, ◌+◌, ◌++◌, ◌∷◌, [], ℕ, suc, List, Bool, true, false, map, refl, sym, ap, subst, ◌∙◌, append_assoc, add-one, drop, filter, get_or, length, codes, not, slice_get, Some, Result, Ok, Err, OnErr, OnOk}
use Rattle.std.specs.declared.option.Option.{Option}
use Rattle.std.specs.Io.KnownBytes.{append_known}
use Rattle.std.proofs.Math.Seq.{drop-cons, drop-length}
use Rattle.std.proofs.lemmas.Option.{get_or_from_slice_get}
use Rattle.rt_outside.specs.Sink.{AppendsPrefix}
use Rattle.rt_outside.proofs.Appends.{append_known-both, append_known-nil, AppendsPrefix-first, AppendsPrefix-second, AppendsPrefix-whole}
use Rattle.feed_values.specs.Meaning.{fields, is_of_slot, meaning, whole_fields}
use Rattle.feed_values.specs.Messages.{feed_message}
use Rattle.feed_values.specs.Snapshot.{entity_of, entity_payloads, header_of, snapshot_value}
use Rattle.feed_values.proofs.SnapshotFields.{snapshot_is_its_fields}
use Rattle.rt_wire.specs.Fields.{WireField}
use Rattle.rt_wire.specs.Placed.{PlacedField, placed_fields}
use Rattle.rt_wire.specs.declared.fault.WireFault.{WireFault}
use Rattle.serde_json.specs.Written.{compact_text}
use Rattle.feed_json.specs.Form.{form}
use Rattle.feed_json.specs.Pieces.{array_from, end_piece, entity_piece, header_piece, unknown_piece}
use Rattle.feed_json.proofs.Texts.{form_pieces}
use Rattle.run_base.specs.Sending.{SendsText}
use Rattle.run_json.specs.Reports.{shown_report}
use Rattle.run_json.specs.Shown.{unknown_among}

pub at_err : {T E A : Type 0} (r : Result T E) → A → OnErr r A
at_err (Ok x) a = tt
at_err (Err e) a = a

pub err_on : {T E A B : Type 0} (r : Result T E) → (A → B) → OnErr r A → OnErr r B
err_on (Ok x) f a = tt
err_on (Err e) f a = f a

pub ok_on : {T E A B : Type 0} (r : Result T E) → (A → B) → OnOk r A → OnOk r B
ok_on (Ok x) f a = f a
ok_on (Err e) f a = tt

-- ---- a text, of which a front was sent, and what is held back and left is the rest
module _ (before mid now : Option (List ℕ)) (all held item left : List ℕ) (s : SendsText before mid all (held ++ (item ++ left))) where
  whole : s.sent ++ ((held ++ item) ++ left) ≡ all
  whole = ap (λ t. s.sent ++ t) (append_assoc held item left) ∙ s.text_is

  -- one item more is held back, or sent with those before it
  pub sends_on : (rest : List ℕ) → SendsText mid now (held ++ item) rest → SendsText before now all (rest ++ left)
  sends_on rest next = record {
    sent = s.sent ++ next.sent;
    written = append_known-both before mid now s.sent next.sent s.written next.written;
    text_is = append_assoc s.sent next.sent (rest ++ left)
        ∙ ap (λ t. s.sent ++ t) (sym (append_assoc next.sent rest left) ∙ ap (λ t. t ++ left) next.text_is)
        ∙ whole;
  }

  -- or a part of them was written
  pub sends_cut : AppendsPrefix mid now (held ++ item) → AppendsPrefix before now all
  sends_cut part =
      subst (AppendsPrefix before now) whole
      (AppendsPrefix-second before mid now s.sent ((held ++ item) ++ left) s.written (AppendsPrefix-first mid now (held ++ item) left part))

-- nothing was sent yet
pub nothing_sent : (before : Option (List ℕ)) (all held : List ℕ) → held ≡ all → SendsText before before all held
nothing_sent before all held e = record { sent = []; written = sym (append_known-nil before); text_is = e }

-- what was sent is a part of all
pub sends_part : (before now : Option (List ℕ)) (all rest : List ℕ) → SendsText before now all rest → AppendsPrefix before now all
sends_part before now all rest s = subst (AppendsPrefix before now) s.text_is (AppendsPrefix-first before now s.sent rest (AppendsPrefix-whole before now s.sent s.written))

-- the last item is held back, or sent with those before it
module _ (before mid now : Option (List ℕ)) (all held last : List ℕ) (s : SendsText before mid all (held ++ last)) where
  pub ends_on : (rest : List ℕ) → SendsText mid now (held ++ last) rest → SendsText before now all rest
  ends_on rest next = record {
    sent = s.sent ++ next.sent;
    written = append_known-both before mid now s.sent next.sent s.written next.written;
    text_is = append_assoc s.sent next.sent rest ∙ ap (λ t. s.sent ++ t) next.text_is ∙ s.text_is;
  }

  pub ends_cut : AppendsPrefix mid now (held ++ last) → AppendsPrefix before now all
  ends_cut part = subst (AppendsPrefix before now) s.text_is (AppendsPrefix-second before mid now s.sent (held ++ last) s.written part)

-- ---- a text of which a front was sent, and another behind it
module _ (before mid now : Option (List ℕ)) (text more held : List ℕ) (s : SendsText before mid text held) where
  both : s.sent ++ (held ++ more) ≡ text ++ more
  both = sym (append_assoc s.sent held more) ∙ ap (λ t. t ++ more) s.text_is

  pub sends_behind : (rest : List ℕ) → SendsText mid now (held ++ more) rest → SendsText before now (text ++ more) rest
  sends_behind rest next = record {
    sent = s.sent ++ next.sent;
    written = append_known-both before mid now s.sent next.sent s.written next.written;
    text_is = append_assoc s.sent next.sent rest ∙ ap (λ t. s.sent ++ t) next.text_is ∙ both;
  }

  pub behind_cut : AppendsPrefix mid now (held ++ more) → AppendsPrefix before now (text ++ more)
  behind_cut part = subst (AppendsPrefix before now) both (AppendsPrefix-second before mid now s.sent (held ++ more) s.written part)

  -- all was written
  pub sends_all : now ≡ append_known mid (held ++ more) → now ≡ append_known before (text ++ more)
  sends_all w = append_known-both before mid now s.sent (held ++ more) s.written w ∙ ap (append_known before) both

-- a part of the first text is one of both
pub first_cut : (before now : Option (List ℕ)) (text more : List ℕ) → AppendsPrefix before now text → AppendsPrefix before now (text ++ more)
first_cut before now text more part = AppendsPrefix-first before now text more part

-- ---- the entities, from an index on
pub entity_from : (end : Bool → List ℕ) (ps : List (List ℕ)) (i : ℕ) (later : Bool) (p text : List ℕ) → i < length ps → Some p ≡ slice_get ps i
    → text ≡ entity_piece later (entity_of p)
    → array_from entity_piece end later (map entity_of (drop i ps)) ≡ text ++ array_from entity_piece end true (map entity_of (drop (i + 1) ps))
entity_from end ps i later p text l at is =
    let e : get_or ps i [] ≡ p = get_or_from_slice_get ps i p [] (sym at) in
    ap (λ (qs : List (List ℕ)). array_from entity_piece end later (map entity_of qs)) (drop-cons ps i [] l)
    ∙ ap (λ t. t ++ array_from entity_piece end true (map entity_of (drop (suc i) ps))) (ap (λ q. entity_piece later (entity_of q)) e ∙ sym is)
    ∙ ap (λ j. text ++ array_from entity_piece end true (map entity_of (drop j ps))) (sym (add-one i))

-- behind the last one
pub entities_end : (end : Bool → List ℕ) (ps : List (List ℕ)) (i : ℕ) (later : Bool) → i ≡ length ps
    → array_from entity_piece end later (map entity_of (drop i ps)) ≡ end later
entities_end end ps i later e =
    ap (λ j. array_from entity_piece end later (map entity_of (drop j ps))) e
    ∙ ap (λ (qs : List (List ℕ)). array_from entity_piece end later (map entity_of qs)) (drop-length ps)

-- ---- the fields of no slot
filter_passes : {A : Type 0} (p : A → Bool) (x : A) (xs : List A) → p x ≡ false → filter p (x ∷ xs) ≡ filter p xs
filter_passes p x xs e = rw e refl

filter_keeps : {A : Type 0} (p : A → Bool) (x : A) (xs : List A) → p x ≡ true → filter p (x ∷ xs) ≡ x ∷ filter p xs
filter_keeps p x xs e = rw e refl

pub taken : (p : PlacedField) (rest : List (Result PlacedField WireFault)) → is_of_slot feed_message p.field ≡ true → unknown_among (Ok p ∷ rest) ≡ unknown_among rest
taken p rest e = filter_passes (λ f. not (is_of_slot feed_message f)) p.field (whole_fields rest) (ap not e)

pub not_taken : (p : PlacedField) (rest : List (Result PlacedField WireFault)) → is_of_slot feed_message p.field ≡ false → unknown_among (Ok p ∷ rest) ≡ p.field ∷ unknown_among rest
not_taken p rest e = filter_keeps (λ f. not (is_of_slot feed_message f)) p.field (whole_fields rest) (ap not e)

-- ---- the text of an accepted snapshot
abbrev pub entities_shown : List ℕ → List ℕ
entities_shown bytes = array_from entity_piece (header_piece (header_of bytes)) false (map entity_of (entity_payloads bytes))

abbrev pub unknown_shown : List ℕ → List ℕ
unknown_shown bytes = array_from unknown_piece end_piece false (unknown_among (placed_fields bytes))

unknown_is : (bytes : List ℕ) → unknown_among (placed_fields bytes) ≡ (snapshot_value bytes).1.1
unfolding meaning fields
unknown_is bytes = refl

pub text_is : (bytes : List ℕ) → (codes "{" ++ entities_shown bytes) ++ unknown_shown bytes ≡ compact_text (form feed_message (snapshot_value bytes))
text_is bytes =
    append_assoc (codes "{") (entities_shown bytes) (unknown_shown bytes)
    ∙ ap (λ es. codes "{" ++ (array_from entity_piece (header_piece (header_of bytes)) false es ++ unknown_shown bytes)) (sym (snapshot_is_its_fields.entities bytes))
    ∙ ap (λ (fs : List WireField). codes "{" ++ (array_from entity_piece (header_piece (header_of bytes)) false (snapshot_value bytes).1.0 ++ array_from unknown_piece end_piece false fs)) (unknown_is bytes)
    ∙ sym (form_pieces (snapshot_value bytes))

-- ---- the line of an accepted snapshot, of which one piece after the other is sent
module _ (bytes : List ℕ) (before mid next : Option (List ℕ)) (opened held rest : List ℕ) (opens : opened ≡ codes "{") where
  whole_is : ((codes "{" ++ entities_shown bytes) ++ unknown_shown bytes) ++ 10 ∷ [] ≡ (shown_report bytes).text
  whole_is = ap (λ t. t ++ 10 ∷ []) (text_is bytes)

  -- a part of the entities
  pub entities_cut : AppendsPrefix before mid (opened ++ entities_shown bytes) → AppendsPrefix before mid (shown_report bytes).text
  entities_cut part =
      subst (AppendsPrefix before mid) whole_is
      (AppendsPrefix-first before mid ((codes "{" ++ entities_shown bytes) ++ unknown_shown bytes) (10 ∷ [])
      (AppendsPrefix-first before mid (codes "{" ++ entities_shown bytes) (unknown_shown bytes)
      (subst (λ h. AppendsPrefix before mid (h ++ entities_shown bytes)) opens part)))

  module _ (first : SendsText before mid (opened ++ entities_shown bytes) held) where
    entities_sent : SendsText before mid (codes "{" ++ entities_shown bytes) held
    entities_sent = subst (λ h. SendsText before mid (h ++ entities_shown bytes) held) opens first

    -- a part of the unknown fields
    pub unknown_cut : AppendsPrefix mid next (held ++ unknown_shown bytes) → AppendsPrefix before next (shown_report bytes).text
    unknown_cut part =
        subst (AppendsPrefix before next) whole_is
        (AppendsPrefix-first before next ((codes "{" ++ entities_shown bytes) ++ unknown_shown bytes) (10 ∷ [])
        (behind_cut before mid next (codes "{" ++ entities_shown bytes) (unknown_shown bytes) held entities_sent part))

    module _ (second : SendsText mid next (held ++ unknown_shown bytes) rest) where
      all_sent : SendsText before next ((codes "{" ++ entities_shown bytes) ++ unknown_shown bytes) rest
      all_sent = sends_behind before mid next (codes "{" ++ entities_shown bytes) (unknown_shown bytes) held entities_sent rest second

      -- what was sent
      pub sent_cut : AppendsPrefix before next (shown_report bytes).text
      sent_cut =
          subst (AppendsPrefix before next) whole_is
          (AppendsPrefix-first before next ((codes "{" ++ entities_shown bytes) ++ unknown_shown bytes) (10 ∷ [])
          (sends_part before next ((codes "{" ++ entities_shown bytes) ++ unknown_shown bytes) rest all_sent))

      module _ (now : Option (List ℕ)) (last : List ℕ) (ended : last ≡ rest ++ 10 ∷ []) where
        -- a part of what was held back at the end
        pub end_cut : AppendsPrefix next now last → AppendsPrefix before now (shown_report bytes).text
        end_cut part =
            subst (AppendsPrefix before now) whole_is
            (behind_cut before next now ((codes "{" ++ entities_shown bytes) ++ unknown_shown bytes) (10 ∷ []) rest all_sent (subst (AppendsPrefix next now) ended part))

        -- all of it
        pub end_sent : now ≡ append_known next last → now ≡ append_known before (shown_report bytes).text
        end_sent written =
            sends_all before next now ((codes "{" ++ entities_shown bytes) ++ unknown_shown bytes) (10 ∷ []) rest all_sent (written ∙ ap (append_known next) ended)
            ∙ ap (append_known before) whole_is
