-- The rows of entities, one entity after the other.
use Rattle.std.proofs.Common.{◌≡◌, ◌≤◌, ◌+◌, ◌∷◌, ◌++◌, [], ℕ, List, length, take, Some, slice_get, refl, sym, ap, ◌∙◌, append_assoc, arith, subst, ⊎_elim, inr}
use Rattle.std.specs.declared.option.Option.{Option}
use Rattle.std.specs.Io.KnownBytes.{append_known}
use Rattle.std.specs.List.{concat}
use Rattle.std.proofs.lemmas.Bool.{cases_lt}
use Rattle.std.proofs.lemmas.List.{append-nil, length-append}
use Rattle.std.proofs.lemmas.Option.{slice_get_within}
use Rattle.feed_values.specs.Messages.{entity}
use Rattle.feed_values.specs.Schema.{Value}
use Rattle.jiff_tz.specs.declared.timezone.TimeZone.{TimeZone as PlainZone}
use Rattle.propagation.proofs.ListLemmas.{slice_get-left, slice_get-seam}
use Rattle.rt_outside.specs.Sink.{AppendsPrefix}
use Rattle.rt_outside.proofs.Appends.{append_known-both, append_known-nil, AppendsPrefix-first, AppendsPrefix-second, AppendsPrefix-whole}
use Rattle.timetable.specs.Timetables.{Tables}
use Rattle.prediction_table.specs.Predictions.{head_text}
use Rattle.run_predict.specs.Predicted.{AreEntityRows, AreTexts, IsTable, WritesAllTexts, WritesTexts, table_report}
use Rattle.run_base.specs.Carried.{WritesPart, WritesWhole, Extent, Begun}
use Rattle.run_base.specs.Report.{Report}
use Rattle.run_base.specs.declared.status.Status.TheVariants as answer

concat-push : (xs : List (List ℕ)) (y : List ℕ) → concat (xs ++ y ∷ []) ≡ concat xs ++ y
concat-push [] y = append-nil y
concat-push (x ∷ xs) y = ap (λ l. x ++ l) (concat-push xs y) ∙ sym (append_assoc x (concat xs) y)

some_is : {A : Type 0} (x y : A) → Some x ≡ Some y → x ≡ y
some_is x y e = cc e

module _ (t : Tables) (zone : PlainZone) (moment : ℕ) (entities : List (Value entity)) where
  none_yet : AreTexts t zone moment entities []
  none_yet k e x ae ax = absurd (cc ax)

  last : (texts : List (List ℕ)) (v : Value entity) (text : List ℕ) → slice_get entities (length texts) ≡ Some v →
      AreEntityRows t zone moment (take (length texts) entities) v text →
      (e : Value entity) (x : List ℕ) → slice_get entities (length texts) ≡ Some e → slice_get (texts ++ text ∷ []) (length texts) ≡ Some x →
      AreEntityRows t zone moment (take (length texts) entities) e x
  last texts v text at is e x ae ax =
      subst (λ w. AreEntityRows t zone moment (take (length texts) entities) w x) (some_is v e (sym at ∙ ae))
      (subst (λ z. AreEntityRows t zone moment (take (length texts) entities) v z) (some_is text x (sym (slice_get-seam texts text) ∙ ax)) is)

  -- the rows of one entity more
  pub texts_push : (texts : List (List ℕ)) (v : Value entity) (text : List ℕ) → slice_get entities (length texts) ≡ Some v →
      AreEntityRows t zone moment (take (length texts) entities) v text → AreTexts t zone moment entities texts →
      AreTexts t zone moment entities (texts ++ text ∷ [])
  texts_push texts v text at is are k e x ae ax =
      ⊎_elim
      (λ lt. are k e x ae (sym (slice_get-left texts (text ∷ []) k lt) ∙ ax))
      (λ ge. let within = slice_get_within (texts ++ text ∷ []) k x ax in
      let size = length-append texts (text ∷ []) in
      let here : k ≡ length texts = omega (arith, within, size, ge) in
      subst (λ i. AreEntityRows t zone moment (take i entities) e x) (sym here)
      (last texts v text at is e x (subst (λ i. slice_get entities i ≡ Some e) here ae) (subst (λ i. slice_get (texts ++ text ∷ []) i ≡ Some x) here ax)))
      (cases_lt k (length texts))

  -- the rows of the first i entities were appended
  pub record SoFar (old new : Option (List ℕ)) (i : ℕ) : Type 0 where
    pub texts : List (List ℕ)
    pub size : length texts ≡ i
    pub are : AreTexts t zone moment entities texts
    pub written : new ≡ append_known old (concat texts)

  pub none_so_far : (old : Option (List ℕ)) → SoFar old old 0
  none_so_far old = record { texts = []; size = refl; are = none_yet; written = sym (append_known-nil old) }

  pub so_far_part : (old mid : Option (List ℕ)) (i : ℕ) → i ≤ length entities → SoFar old mid i → WritesTexts t zone moment entities old mid
  so_far_part old mid i within so = (so.texts, subst (λ n. n ≤ length entities) (sym so.size) within, so.are, AppendsPrefix-whole old mid (concat so.texts) so.written)

  pub so_far_all : (old new : Option (List ℕ)) (i : ℕ) → i ≡ length entities → SoFar old new i → WritesAllTexts t zone moment entities old new
  so_far_all old new i end so = (so.texts, so.size ∙ end, so.are, so.written)

  module _ (old mid new : Option (List ℕ)) (i : ℕ) (v : Value entity) (text : List ℕ) (at : slice_get entities i ≡ Some v)
      (rows : AreEntityRows t zone moment (take i entities) v text) (so : SoFar old mid i) where
    found : slice_get entities (length so.texts) ≡ Some v
    found = subst (λ n. slice_get entities n ≡ Some v) (sym so.size) at

    more : AreTexts t zone moment entities (so.texts ++ text ∷ [])
    more = texts_push so.texts v text found (subst (λ n. AreEntityRows t zone moment (take n entities) v text) (sym so.size) rows) so.are

    size : length (so.texts ++ text ∷ []) ≡ i + 1
    size = length-append so.texts (text ∷ []) ∙ ap (λ n. n + 1) so.size

    -- and those of the next one
    pub so_far_more : new ≡ append_known mid text → SoFar old new (i + 1)
    so_far_more put = record {
      texts = so.texts ++ text ∷ [];
      size = size;
      are = more;
      written = append_known-both old mid new (concat so.texts) text so.written put ∙ ap (append_known old) (sym (concat-push so.texts text));
    }

    -- or a prefix of them
    pub so_far_failed : AppendsPrefix mid new text → WritesTexts t zone moment entities old new
    so_far_failed put = (
      so.texts ++ text ∷ [],
      subst (λ n. n ≤ length entities) (sym size) (let within = slice_get_within entities i v at in omega (arith, within)),
      more,
      subst (AppendsPrefix old new) (sym (concat-push so.texts text)) (AppendsPrefix-second old mid new (concat so.texts) text so.written put),
    )

  -- ---- the table
  abbrev pub IsOne : Extent → Report → Type 0
  IsOne extent report = IsTable extent t zone moment entities report

  pub table_head : (old new : Option (List ℕ)) → AppendsPrefix old new head_text → WritesPart IsOne old new
  table_head old new put =
      (table_report [], inr (Begun, ([], omega arith, none_yet, refl)), AppendsPrefix-first old new head_text [] put)

  pub table_part : (old mid new : Option (List ℕ)) → mid ≡ append_known old head_text → WritesTexts t zone moment entities mid new → WritesPart IsOne old new
  table_part old mid new head rows =
      (table_report rows.0, inr (Begun, (rows.0, rows.1, rows.2, refl)), AppendsPrefix-second old mid new head_text (concat rows.0) head rows.3)

  pub table_whole : (old mid new : Option (List ℕ)) → mid ≡ append_known old head_text → WritesAllTexts t zone moment entities mid new →
      WritesWhole IsOne old new answer.Clean
  table_whole old mid new head rows =
      (table_report rows.0, (rows.0, rows.1, rows.2, refl), append_known-both old mid new head_text (concat rows.0) head rows.3, refl, refl)
