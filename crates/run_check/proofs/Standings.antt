-- The lines of all findings: those that were written, those that wait, and those that are left.
use Rattle.std.proofs.Common.{◌≡◌, ℕ, Bool, ◌||◌, List, [], ◌∷◌, ◌++◌, refl, sym, ap, ◌∙◌, subst, append-nil, append_assoc, Some, None}
use Rattle.std.specs.declared.option.Option.{Option}
use Rattle.std.specs.Iterator.{YieldsFirstBy}
use Rattle.std.specs.Io.KnownBytes.{append_known}
use Rattle.rt_outside.specs.Sink.{AppendsPrefix}
use Rattle.rt_outside.proofs.Appends.{append_known-nil, append_known-both, AppendsPrefix-first, AppendsPrefix-second, AppendsPrefix-whole}
use denote.Ref.{Bor}
use Rattle.rule_table.specs.Found.{Found}
use Rattle.rule_history.specs.Standing.{Standing}
use Rattle.run_rows.specs.follow_engine.Left.{standing_of}
use Rattle.rt_report.specs.declared.finding.LineKind.TheVariants as line
use Rattle.rt_report.proofs.Joined.{or_apart, or_false}
use Rattle.run_base.specs.Sending.{SendsText}
use Rattle.rt_report.specs.FindingLines.{all_text, any_error, is_error, standing_text}

-- ---- a finding that is handed out
-- it is the first of what was left
pub handed_out : (left rest : List Standing) (r : Option (Bor Found × ℕ)) (x : Bor Found × ℕ) → r ≡ Some x → YieldsFirstBy standing_of (λ l. l) left r rest → left ≡ standing_of x ∷ rest
handed_out left rest r x e y = subst (λ o. YieldsFirstBy standing_of (λ l. l) left o rest) e y

-- where none is, none was left
pub none_left : (left rest : List Standing) (r : Option (Bor Found × ℕ)) → r ≡ None → YieldsFirstBy standing_of (λ l. l) left r rest → left ≡ []
none_left left rest r e y = (subst (λ o. YieldsFirstBy standing_of (λ l. l) left o rest) e y).0

-- what was written, what waits and the lines of what is left are all
pub record Waits (before now : Option (List ℕ)) (waits : List ℕ) (left : List Standing) (all : List ℕ) : Type 0 where
  pub front : List ℕ
  pub written : now ≡ append_known before front
  pub all_is : front ++ (waits ++ all_text left) ≡ all

pub waits_none : (before : Option (List ℕ)) (list : List Standing) → Waits before before [] list (all_text list)
waits_none before list = record { front = []; written = sym (append_known-nil before); all_is = refl }

module _ (before now : Option (List ℕ)) (waits : List ℕ) (left : List Standing) (all : List ℕ) (w : Waits before now waits left all) where
  -- the line of the next finding waits too
  pub waits_more : (longer : List ℕ) (x : Standing) (rest : List Standing) → left ≡ x ∷ rest → longer ≡ waits ++ standing_text line.Finding x → Waits before now longer rest all
  waits_more longer x rest next e = record {
    front = w.front;
    written = w.written;
    all_is = ap (λ t. w.front ++ (t ++ all_text rest)) e ∙ ap (λ t. w.front ++ t) (append_assoc waits (standing_text line.Finding x) (all_text rest))
        ∙ ap (λ xs. w.front ++ (waits ++ all_text xs)) (sym next) ∙ w.all_is;
  }

  -- a front of what waits was written
  pub waits_moved : (new : Option (List ℕ)) (still : List ℕ) → SendsText now new waits still → Waits before new still left all
  waits_moved new still m = record {
    front = w.front ++ m.sent;
    written = append_known-both before now new w.front m.sent w.written m.written;
    all_is = append_assoc w.front m.sent (still ++ all_text left) ∙ ap (λ t. w.front ++ t) (sym (append_assoc m.sent still (all_text left)))
        ∙ ap (λ t. w.front ++ (t ++ all_text left)) m.text_is ∙ w.all_is;
  }

  -- what was written is a part of all
  pub waits_part : AppendsPrefix before now all
  waits_part = subst (AppendsPrefix before now) w.all_is (AppendsPrefix-first before now w.front _ (AppendsPrefix-whole before now w.front w.written))

  -- and so it is where what waits couldn't be written whole
  pub waits_cut : (new : Option (List ℕ)) → AppendsPrefix now new waits → AppendsPrefix before new all
  waits_cut new p =
      subst (AppendsPrefix before new) (append_assoc w.front waits (all_text left) ∙ w.all_is)
      (AppendsPrefix-first before new (w.front ++ waits) (all_text left) (AppendsPrefix-second before now new w.front waits w.written p))

  -- where nothing is left, what waits is the last of all
  pub waits_done : (new : Option (List ℕ)) → left ≡ [] → new ≡ append_known now waits → new ≡ append_known before all
  waits_done new none e =
      append_known-both before now new w.front waits w.written e
      ∙ ap (append_known before) (ap (λ t. w.front ++ t) (sym (append-nil waits) ∙ ap (λ xs. waits ++ all_text xs) (sym none)) ∙ w.all_is)

-- ---- whether one is of an error
pub error_more : (error now : Bool) (x : Standing) (left rest : List Standing) (all : Bool) → left ≡ x ∷ rest → now ≡ (error || is_error x.finding.rule) →
    (error || any_error left) ≡ all → (now || any_error rest) ≡ all
error_more error now x left rest all next e is =
    ap (λ b. b || any_error rest) e ∙ or_apart error (is_error x.finding.rule) (any_error rest) ∙ ap (λ xs. error || any_error xs) (sym next) ∙ is

pub error_done : (error : Bool) (left : List Standing) (all : Bool) → left ≡ [] → (error || any_error left) ≡ all → error ≡ all
error_done error left all none is = sym (or_false error) ∙ ap (λ xs. error || any_error xs) (sym none) ∙ is
