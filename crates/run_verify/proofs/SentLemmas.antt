-- Verdicts that are sent one after the other.
use Rattle.std.proofs.Common.{◌≡◌, ◌+◌, ◌<◌, ◌≤◌, ◌^◌, ℕ, List, [], ◌∷◌, ◌++◌, length, Result, Ok, Err, OnErr, refl, sym, ap, ◌∙◌, subst, arith, append_assoc, append-nil, add_assoc, Bool, true, false}
use Rattle.std.specs.declared.option.Option.{Option}
use Rattle.std.specs.Io.KnownBytes.{append_known}
use Rattle.rt_outside.specs.Sink.{AppendsPrefix}
use Rattle.rt_outside.proofs.Appends.{append_known-both, append_known-nil, AppendsPrefix-first, AppendsPrefix-nothing, AppendsPrefix-second, AppendsPrefix-whole}
use Rattle.report_verify.specs.Verdicts.{verdict_of}
use Rattle.run_verify.specs.declared.counts.Counts.{Counts}
use Rattle.run_verify.specs.declared.judged.Judged.{Judged}
use Rattle.run_verify.specs.Judged.{judged_of}
use Rattle.run_verify.specs.Lines.{AreSmall, counted, counts_of, how_many, is_confirmed, is_denied, is_malformed, is_other, lines_in, none, one_if, verdict_text, verdicts_text}
use Rattle.run_base.specs.Sending.{SendsText}
use Rattle.run_verify.proofs.CutLemmas.{few_behind}

pub at_err : {T E A : Type 0} (r : Result T E) → A → OnErr r A
at_err (Ok x) a = tt
at_err (Err e) a = a

-- nothing was written
pub nothing_part : {T E : Type 0} (r : Result T E) (old : Option (List ℕ)) (text : List ℕ) → OnErr r (AppendsPrefix old old text)
nothing_part r old text = at_err r (AppendsPrefix-nothing old text)

one_at_most : (b : Bool) → one_if b ≤ 1
one_at_most true = omega arith
one_at_most false = omega arith

many_at_most : (test : Judged → Bool) (lines : List (List ℕ)) → how_many test lines ≤ length lines
many_at_most test [] = omega arith
many_at_most test (line ∷ lines) = omega (arith, one_at_most (test (judged_of (verdict_of line))), many_at_most test lines)

-- ---- while lines are judged
module _ (before : Option (List ℕ)) (first : List ℕ) (all : List (List ℕ)) where
  -- what was sent, what is held back and the verdicts on the lines that are left are all, and so are their counts
  pub record Left (now : Option (List ℕ)) (held : List ℕ) (number : ℕ) (counts : Counts) (rest : List (List ℕ)) : Type 0 where
    pub sent : List ℕ
    pub written : now ≡ append_known before sent
    pub text : sent ++ (held ++ verdicts_text number rest) ≡ first ++ verdicts_text 1 all
    pub confirmed : counts.confirmed + how_many is_confirmed rest ≡ how_many is_confirmed all
    pub denied : counts.denied + how_many is_denied rest ≡ how_many is_denied all
    pub malformed : counts.malformed + how_many is_malformed rest ≡ how_many is_malformed all
    pub other : counts.other + how_many is_other rest ≡ how_many is_other all

  pub left_first : Left before first 1 none all
  left_first = record {
    sent = [];
    written = sym (append_known-nil before);
    text = refl;
    confirmed = omega arith;
    denied = omega arith;
    malformed = omega arith;
    other = omega arith;
  }

  -- one line more
  pub left_next : (mid now : Option (List ℕ)) (a b : List ℕ) (number : ℕ) (counts : Counts) (line : List ℕ) (rest : List (List ℕ)) → Left mid a number counts (line ∷ rest)
      → SendsText mid now (a ++ verdict_text number (judged_of (verdict_of line))) b → Left now b (number + 1) (counted counts (judged_of (verdict_of line))) rest
  left_next mid now a b number counts line rest l s =
      let v = judged_of (verdict_of line) in
      record {
        sent = l.sent ++ s.sent;
        written = append_known-both before mid now l.sent s.sent l.written s.written;
        text = append_assoc l.sent s.sent (b ++ verdicts_text (number + 1) rest)
            ∙ ap (λ t. l.sent ++ t) (sym (append_assoc s.sent b (verdicts_text (number + 1) rest)) ∙ ap (λ t. t ++ verdicts_text (number + 1) rest) s.text_is
            ∙ append_assoc a (verdict_text number v) (verdicts_text (number + 1) rest))
            ∙ l.text;
        confirmed = add_assoc counts.confirmed (one_if (is_confirmed v)) (how_many is_confirmed rest) ∙ l.confirmed;
        denied = add_assoc counts.denied (one_if (is_denied v)) (how_many is_denied rest) ∙ l.denied;
        malformed = add_assoc counts.malformed (one_if (is_malformed v)) (how_many is_malformed rest) ∙ l.malformed;
        other = add_assoc counts.other (one_if (is_other v)) (how_many is_other rest) ∙ l.other;
      }

  -- what was sent is a part of all
  pub left_part : (now : Option (List ℕ)) (a : List ℕ) (number : ℕ) (counts : Counts) (rest : List (List ℕ)) → Left now a number counts rest → AppendsPrefix before now (first ++ verdicts_text 1 all)
  left_part now a number counts rest l =
      subst (AppendsPrefix before now) l.text (AppendsPrefix-first before now l.sent (a ++ verdicts_text number rest) (AppendsPrefix-whole before now l.sent l.written))

  -- and so it is with a part of the next verdict
  pub left_cut : (mid now : Option (List ℕ)) (a : List ℕ) (number : ℕ) (counts : Counts) (line : List ℕ) (rest : List (List ℕ)) → Left mid a number counts (line ∷ rest)
      → AppendsPrefix mid now (a ++ verdict_text number (judged_of (verdict_of line))) → AppendsPrefix before now (first ++ verdicts_text 1 all)
  left_cut mid now a number counts line rest l p =
      let t = verdict_text number (judged_of (verdict_of line)) in
      subst (AppendsPrefix before now)
      (append_assoc l.sent (a ++ t) (verdicts_text (number + 1) rest) ∙ ap (λ x. l.sent ++ x) (append_assoc a t (verdicts_text (number + 1) rest)) ∙ l.text)
      (AppendsPrefix-first before now (l.sent ++ (a ++ t)) (verdicts_text (number + 1) rest) (AppendsPrefix-second before mid now l.sent (a ++ t) l.written p))

  -- in the end all are counted
  pub left_counts : (now : Option (List ℕ)) (a : List ℕ) (number : ℕ) (counts : Counts) → Left now a number counts [] → counts ≡ counts_of all
  left_counts now a number counts l =
      make (omega (arith, l.confirmed)) (omega (arith, l.denied)) (omega (arith, l.malformed)) (omega (arith, l.other))
    where
      make : counts.confirmed ≡ how_many is_confirmed all → counts.denied ≡ how_many is_denied all → counts.malformed ≡ how_many is_malformed all → counts.other ≡ how_many is_other all → counts ≡ counts_of all
      make c d m o =
          ap (λ x. let r : Counts = record { confirmed = x; denied = counts.denied; malformed = counts.malformed; other = counts.other } in r) c
          ∙ ap (λ x. let r : Counts = record { confirmed = how_many is_confirmed all; denied = x; malformed = counts.malformed; other = counts.other } in r) d
          ∙ ap (λ x. let r : Counts = record { confirmed = how_many is_confirmed all; denied = how_many is_denied all; malformed = x; other = counts.other } in r) m
          ∙ ap (λ x. let r : Counts = record { confirmed = how_many is_confirmed all; denied = how_many is_denied all; malformed = how_many is_malformed all; other = x } in r) o

  -- and all is sent or held back
  pub left_sent : (now : Option (List ℕ)) (a : List ℕ) (number : ℕ) (counts : Counts) → Left now a number counts [] → SendsText before now (first ++ verdicts_text 1 all) a
  left_sent now a number counts l = record { sent = l.sent; written = l.written; text_is = ap (λ t. l.sent ++ t) (sym (append-nil a)) ∙ l.text }

  few : (test : Judged → Bool) → length all < 2 ^ 63 → how_many test all < 2 ^ 63
  few test h = omega (arith, h, many_at_most test all)

  -- there are never too many
  pub left_small : (now : Option (List ℕ)) (a : List ℕ) (number : ℕ) (counts : Counts) (rest : List (List ℕ)) → length all < 2 ^ 63 → Left now a number counts rest → AreSmall counts
  left_small now a number counts rest h l = record {
    confirmed = omega (arith, l.confirmed, few is_confirmed h);
    denied = omega (arith, l.denied, few is_denied h);
    malformed = omega (arith, l.malformed, few is_malformed h);
    other = omega (arith, l.other, few is_other h);
  }

pub few_lines : (text : List ℕ) → length text < 2 ^ 63 → length (lines_in text) < 2 ^ 63
few_lines text h = omega (arith, h, few_behind [] text)
