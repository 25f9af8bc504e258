-- Lines that are held back until they fill a piece, and then sent.
use Rattle.std.proofs.Common.{◌≡◌, ◌++◌, ◌||◌, ℕ, Bool, true, false, List, [], refl, sym, ap, subst, ◌∙◌, append_assoc, Result, Ok, Err, OnOk, OnErr}
use Rattle.std.specs.declared.option.Option.{Option}
use Rattle.std.specs.List.{flat_map}
use Rattle.std.specs.Io.KnownBytes.{append_known}
use Rattle.std.proofs.lemmas.List.{append-nil}
use Rattle.rt_outside.specs.Sink.{AppendsPrefix}
use Rattle.rt_outside.proofs.Appends.{append_known-both, append_known-nil, AppendsPrefix-nothing, AppendsPrefix-first, AppendsPrefix-second, AppendsPrefix-whole}
use Rattle.rule_table.specs.Found.{Found}
use Rattle.rt_report.specs.declared.lines.Lines.{Lines}
use Rattle.rt_report.specs.FindingLines.{AddsLines, finding_text, has_error}
use Rattle.run_snapshot.specs.Sending.{Sends, SendsPart}
use Rattle.rt_report.proofs.Joined.{or_false}
use Rattle.rt_report.proofs.Added.{lines_apart, errors_apart}

pub at_err : {T E A : Type 0} (r : Result T E) → A → OnErr r A
at_err (Ok x) a = tt
at_err (Err e) a = a

pub more_err : {T E A B : Type 0} (r : Result T E) → (A → B) → OnErr r A → OnErr r B
more_err (Ok x) f a = tt
more_err (Err e) f a = f a

pub more_ok : {T E A B : Type 0} (r : Result T E) → (A → B) → OnOk r A → OnOk r B
more_ok (Ok x) f a = f a
more_ok (Err e) f a = tt

-- nothing was sent
pub none_sent : {T E : Type 0} (r : Result T E) (now : Option (List ℕ)) (held : Lines) (all : List Found) → OnErr r (SendsPart now now held all)
none_sent r now held all = at_err r (AppendsPrefix-nothing now (held.text.items ++ flat_map finding_text all))

-- ---- while entities are judged
module _ (before : Option (List ℕ)) (first : Lines) (all : List Found) where
  -- what was sent, the lines that are held back and those of the findings that are left are all
  pub record Left (now : Option (List ℕ)) (lines : Lines) (rest : List Found) : Type 0 where
    pub sent : List ℕ
    pub written : now ≡ append_known before sent
    pub text : sent ++ (lines.text.items ++ flat_map finding_text rest) ≡ first.text.items ++ flat_map finding_text all
    pub error : (lines.error || has_error rest) ≡ (first.error || has_error all)

  -- the findings of one entity more
  pub left_next : (mid now : Option (List ℕ)) (a b : Lines) (xs ys : List Found) → Left mid a (xs ++ ys) → Sends mid now a b xs → Left now b ys
  left_next mid now a b xs ys l s = record {
    sent = l.sent ++ s.sent;
    written = append_known-both before mid now l.sent s.sent l.written s.written;
    text = append_assoc l.sent s.sent (b.text.items ++ flat_map finding_text ys)
        ∙ ap (λ t. l.sent ++ t) (sym (append_assoc s.sent b.text.items (flat_map finding_text ys)) ∙ ap (λ t. t ++ flat_map finding_text ys) s.text ∙ lines_apart a.text.items xs ys)
        ∙ l.text;
    error = ap (λ e. e || has_error ys) s.error ∙ errors_apart a.error xs ys ∙ l.error;
  }

  -- what was sent is a part of all
  pub left_part : (now : Option (List ℕ)) (a : Lines) (rest : List Found) → Left now a rest → SendsPart before now first all
  left_part now a rest l =
      subst (AppendsPrefix before now) l.text (AppendsPrefix-first before now l.sent (a.text.items ++ flat_map finding_text rest) (AppendsPrefix-whole before now l.sent l.written))

  -- and so it is with a part of the next entity's
  pub left_cut : (mid now : Option (List ℕ)) (a : Lines) (xs ys : List Found) → Left mid a (xs ++ ys) → SendsPart mid now a xs → SendsPart before now first all
  left_cut mid now a xs ys l p =
      subst (AppendsPrefix before now)
      (append_assoc l.sent (a.text.items ++ flat_map finding_text xs) (flat_map finding_text ys) ∙ ap (λ t. l.sent ++ t) (lines_apart a.text.items xs ys) ∙ l.text)
      (AppendsPrefix-first before now (l.sent ++ (a.text.items ++ flat_map finding_text xs)) (flat_map finding_text ys)
      (AppendsPrefix-second before mid now l.sent (a.text.items ++ flat_map finding_text xs) l.written p))

  -- none are left
  pub left_none : (now : Option (List ℕ)) (a : Lines) → Left now a [] → Sends before now first a all
  left_none now a l = record {
    sent = l.sent;
    written = l.written;
    text = ap (λ t. l.sent ++ t) (sym (append-nil a.text.items)) ∙ l.text;
    error = sym (or_false a.error) ∙ l.error;
  }

pub left_all : (before : Option (List ℕ)) (lines : Lines) (all : List Found) → Left before lines all before lines all
left_all before lines all = record { sent = []; written = sym (append_known-nil before); text = refl; error = refl }

-- ---- behind lines that were added
module _ (before now : Option (List ℕ)) (a b : Lines) (xs ys : List Found) (h : AddsLines a b xs) where
  behind : b.text.items ++ flat_map finding_text ys ≡ a.text.items ++ flat_map finding_text (xs ++ ys)
  behind = ap (λ t. t ++ flat_map finding_text ys) h.text ∙ lines_apart a.text.items xs ys

  pub sends_behind : (c : Lines) → Sends before now b c ys → Sends before now a c (xs ++ ys)
  sends_behind c s = record {
    sent = s.sent;
    written = s.written;
    text = s.text ∙ behind;
    error = s.error ∙ ap (λ e. e || has_error ys) h.error ∙ errors_apart a.error xs ys;
  }

  pub part_behind : SendsPart before now b ys → SendsPart before now a (xs ++ ys)
  part_behind = subst (AppendsPrefix before now) behind

-- ---- all of them
module _ (before mid : Option (List ℕ)) (a b : Lines) (xs : List Found) (s : Sends before mid a b xs) where
  -- what was held back at the end was written
  pub sends_all : (now : Option (List ℕ)) → now ≡ append_known mid b.text.items → now ≡ append_known before (a.text.items ++ flat_map finding_text xs)
  sends_all now w = append_known-both before mid now s.sent b.text.items s.written w ∙ ap (append_known before) s.text

  -- or a part of it
  pub sends_last : (now : Option (List ℕ)) → AppendsPrefix mid now b.text.items → SendsPart before now a xs
  sends_last now p = subst (AppendsPrefix before now) s.text (AppendsPrefix-second before mid now s.sent b.text.items s.written p)
