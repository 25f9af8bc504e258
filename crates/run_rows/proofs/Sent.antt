-- Lines that are held back until they fill a piece, and then sent.
use Rattle.std.proofs.Common.{◌≡◌, ◌<◌, ◌+◌, ◌++◌, ℕ, List, refl, sym, ap, subst, ◌∙◌, append_assoc, add-one, drop-cons, drop, get_or, length, Result, Ok, Err, OnErr}
use Rattle.std.specs.declared.option.Option.{Option}
use Rattle.std.specs.List.{flat_map}
use Rattle.std.specs.Io.KnownBytes.{append_known}
use Rattle.rt_outside.specs.Sink.{AppendsPrefix}
use Rattle.rt_outside.proofs.Appends.{append_known-both, AppendsPrefix-first, AppendsPrefix-second, AppendsPrefix-whole}
use Rattle.follow_engine.specs.Deltas.{all_closed, all_opened, closed_value, opened_value}
use Rattle.follow_engine.specs.declared.Closed.{Closed}
use Rattle.follow_engine.specs.declared.Opened.{Opened}
use Rattle.rt_report.specs.declared.finding.LineKind.TheVariants as line
use Rattle.rt_report.specs.FindingLines.{closed_text, standing_text}
use Rattle.run_base.specs.Sending.{SendsText}

pub at_err : {T E A : Type 0} (r : Result T E) → A → OnErr r A
at_err (Ok x) a = tt
at_err (Err e) a = a

-- ---- a text, of which a front was sent, and what is held back and left is the rest
module _ (before mid now : Option (List ℕ)) (all held line left : List ℕ) (s : SendsText before mid all (held ++ (line ++ left))) where
  whole : s.sent ++ ((held ++ line) ++ left) ≡ all
  whole = ap (λ t. s.sent ++ t) (append_assoc held line left) ∙ s.text_is

  -- one line more is held back, or sent with those before it
  pub sends_on : (rest : List ℕ) → SendsText mid now (held ++ line) rest → SendsText before now all (rest ++ left)
  sends_on rest next = record {
    sent = s.sent ++ next.sent;
    written = append_known-both before mid now s.sent next.sent s.written next.written;
    text_is = append_assoc s.sent next.sent (rest ++ left)
        ∙ ap (λ t. s.sent ++ t) (sym (append_assoc next.sent rest left) ∙ ap (λ t. t ++ left) next.text_is)
        ∙ whole;
  }

  -- or a part of them was written
  pub sends_cut : AppendsPrefix mid now (held ++ line) → AppendsPrefix before now all
  sends_cut part =
      subst (AppendsPrefix before now) whole
      (AppendsPrefix-second before mid now s.sent ((held ++ line) ++ left) s.written (AppendsPrefix-first mid now (held ++ line) left part))

-- what was sent is a part of all
pub sends_part : (before now : Option (List ℕ)) (all rest : List ℕ) → SendsText before now all rest → AppendsPrefix before now all
sends_part before now all rest s = subst (AppendsPrefix before now) s.text_is (AppendsPrefix-first before now s.sent rest (AppendsPrefix-whole before now s.sent s.written))

-- ---- a text of which a front was sent, and another behind it
module _ (before mid now : Option (List ℕ)) (first text more held : List ℕ) (s : SendsText before mid (first ++ text) held) where
  both : s.sent ++ (held ++ more) ≡ first ++ (text ++ more)
  both = sym (append_assoc s.sent held more) ∙ ap (λ t. t ++ more) s.text_is ∙ append_assoc first text more

  pub sends_behind : (rest : List ℕ) → SendsText mid now (held ++ more) rest → SendsText before now (first ++ (text ++ more)) rest
  sends_behind rest next = record {
    sent = s.sent ++ next.sent;
    written = append_known-both before mid now s.sent next.sent s.written next.written;
    text_is = append_assoc s.sent next.sent rest ∙ ap (λ t. s.sent ++ t) next.text_is ∙ both;
  }

  pub behind_cut : AppendsPrefix mid now (held ++ more) → AppendsPrefix before now (first ++ (text ++ more))
  behind_cut part = subst (AppendsPrefix before now) both (AppendsPrefix-second before mid now s.sent (held ++ more) s.written part)

-- a part of the first text is one of both
pub first_cut : (before now : Option (List ℕ)) (first text more : List ℕ) → AppendsPrefix before now (first ++ text) → AppendsPrefix before now (first ++ (text ++ more))
first_cut before now first text more part = subst (AppendsPrefix before now) (append_assoc first text more) (AppendsPrefix-first before now (first ++ text) more part)

-- what was held back at the end was written
pub sends_all : (before mid now : Option (List ℕ)) (all held : List ℕ) → SendsText before mid all held → now ≡ append_known mid held → now ≡ append_known before all
sends_all before mid now all held s w = append_known-both before mid now s.sent held s.written w ∙ ap (append_known before) s.text_is

-- or a part of it
pub sends_last : (before mid now : Option (List ℕ)) (all held : List ℕ) → SendsText before mid all held → AppendsPrefix mid now held → AppendsPrefix before now all
sends_last before mid now all held s part = subst (AppendsPrefix before now) s.text_is (AppendsPrefix-second before mid now s.sent held s.written part)

-- ---- the lines of what opened and closed, from an index on
opened_at : (xs : List Opened) (i : ℕ) (x : Opened) → i < length xs →
    flat_map (standing_text line.Opened) (all_opened (drop i xs)) ≡ standing_text line.Opened (opened_value (get_or xs i x)) ++ flat_map (standing_text line.Opened) (all_opened (drop (i + 1) xs))
opened_at xs i x l = rw (add-one, drop-cons xs i x) refl

pub opened_from : (xs : List Opened) (i : ℕ) (x : Opened) → i < length xs → x ≡ get_or xs i x →
    flat_map (standing_text line.Opened) (all_opened (drop i xs)) ≡ standing_text line.Opened (opened_value x) ++ flat_map (standing_text line.Opened) (all_opened (drop (i + 1) xs))
opened_from xs i x l e =
    opened_at xs i x l ∙ ap (λ y. standing_text line.Opened (opened_value y) ++ flat_map (standing_text line.Opened) (all_opened (drop (i + 1) xs))) (sym e)

closed_at : (xs : List Closed) (i : ℕ) (x : Closed) → i < length xs →
    flat_map closed_text (all_closed (drop i xs)) ≡ closed_text (closed_value (get_or xs i x)) ++ flat_map closed_text (all_closed (drop (i + 1) xs))
closed_at xs i x l = rw (add-one, drop-cons xs i x) refl

pub closed_from : (xs : List Closed) (i : ℕ) (x : Closed) → i < length xs → x ≡ get_or xs i x →
    flat_map closed_text (all_closed (drop i xs)) ≡ closed_text (closed_value x) ++ flat_map closed_text (all_closed (drop (i + 1) xs))
closed_from xs i x l e = closed_at xs i x l ∙ ap (λ y. closed_text (closed_value y) ++ flat_map closed_text (all_closed (drop (i + 1) xs))) (sym e)
