-- The tally with one line more.
use Rattle.std.proofs.Common.{◌≡◌, ◌+◌, ℕ, Bool, true, false, List, [], ◌∷◌, ◌++◌, cond, Option, Some, None, refl, sym, ap, ◌∙◌, arith, append-nil}
use Rattle.std.specs.List.{count_by, filter_map}
use Rattle.std.proofs.lemmas.List.Elements.{filter_map-append}
use Rattle.std.proofs.lemmas.Slice.Eq.{bytes_eq-Decides}
use Rattle.std.proofs.lemmas.List.Sums.{fold_push, sum_by_push}
use Rattle.rule_tally.specs.declared.first_line.Behind.{Behind}
use Rattle.rule_tally.specs.declared.first_line.FirstLine.{FirstLine}
use Rattle.rule_tally.specs.declared.telling.Telling.{Telling}
use Rattle.rule_tally.specs.declared.telling.Telling.TheVariants as telling
use Rattle.rule_tally.specs.declared.tally.Tally.{Tally}
use Rattle.rule_tally.specs.Names.{Marks, marks_of, with_mark}
use Rattle.rule_tally.specs.Tallies.{Told, changed_place, first_line, first_of, found_line, is_closed, is_found, is_last, judged_entity, kept, last_of, opened_entity, stretches, tally_of, told, with_line}
use Rattle.rule_tally.proofs.StretchLemmas.{first_of-push, last_of-push, stretches-push}

-- equal by fields
same : {f f1 c c1 s s1 : ℕ} {l l1 : Option (List ℕ)} {e e1 p p1 : Marks} {k k1 : Option FirstLine} → f ≡ f1 → c ≡ c1 → s ≡ s1 → l ≡ l1 → e ≡ e1 → p ≡ p1 → k ≡ k1
    → let a : Tally = record { findings = f; closings = c; stretches = s; last = l; entities = e; places = p; first = k } in
    let b : Tally = record { findings = f1; closings = c1; stretches = s1; last = l1; entities = e1; places = p1; first = k1 } in
    a ≡ b
same ef ec es el ee ep ek = rw (ef, ec, es, el, ee, ep, ek) refl

-- ---- a part of the tally with one line more
none_more : {A B : Type 0} (h : A → Option B) (xs : List A) (x : A) → h x ≡ None → filter_map h xs ≡ filter_map h (xs ++ x ∷ [])
none_more h xs x none = rw (filter_map-append h xs (x ∷ []), none) (sym (append-nil (filter_map h xs)))

one_more : {A B : Type 0} (h : A → Option B) (xs : List A) (x : A) (y : B) → h x ≡ Some y → filter_map h xs ++ y ∷ [] ≡ filter_map h (xs ++ x ∷ [])
one_more h xs x y some = rw (filter_map-append h xs (x ∷ []), some) refl

counted : {A : Type 0} (p : A → Bool) (xs : List A) (x : A) → p x ≡ true → count_by p xs + 1 ≡ count_by p (xs ++ x ∷ [])
counted p xs x passes = rw (sum_by_push (λ y. cond (p y) 1 0) xs x, passes) refl

uncounted : {A : Type 0} (p : A → Bool) (xs : List A) (x : A) → p x ≡ false → count_by p xs ≡ count_by p (xs ++ x ∷ [])
uncounted p xs x fails = rw (sum_by_push (λ y. cond (p y) 1 0) xs x, fails) (omega arith)

marked_more : (given : Marks) (name : List ℕ) (mark : Bool) → with_mark (marks_of given) name mark ≡ marks_of (given ++ (name, mark) ∷ [])
marked_more given name mark = sym (fold_push (λ (done : Marks) (p : List ℕ × Bool). with_mark done p.0 p.1) [] given (name, mark))

is_same : (last : Option (List ℕ)) (text : List ℕ) → is_last last text ≡ true → last ≡ Some text
is_same None text h = let clash : false ≡ true = h in cc
is_same (Some last) text h = ap Some ((bytes_eq-Decides last text).0 h)

-- ---- one line more
abbrev judged : Told → Option (List ℕ)
judged t = judged_entity t.telling

abbrev opened : Told → Option (List ℕ × Bool)
opened t = opened_entity t.telling

abbrev changed : Told → Option (List ℕ × Bool)
changed t = changed_place t.telling

module _ (before : List Told) where
  -- the first line of a finding or an opening
  first_more : (t : Told) → is_found t ≡ true → kept (first_of (filter_map found_line before)) t.behind t.line ≡ first_of (filter_map found_line (before ++ t ∷ []))
  first_more t is = sym (first_of-push (filter_map found_line before) t.behind t.line) ∙ ap first_of (one_more found_line before t (first_line t.behind t.line) (rw is refl))

  -- an entity of `check`, behind the last one or behind another
  judging : (entity : List ℕ) (behind : Behind) (line : List ℕ) (b : Bool) → is_last (last_of (filter_map judged before)) entity ≡ b
      → let tally = tally_of before in
      let now : Tally = cond b tally (record tally { stretches = tally.stretches + 1; last = Some entity }) in
      let all : Tally = record now { findings = tally.findings + 1; first = kept tally.first behind line } in
      all ≡ tally_of (before ++ told (telling.Finding (Some entity)) behind line ∷ [])
  judging entity behind line true is =
      let t = told (telling.Finding (Some entity)) behind line in
      let texts = filter_map judged before in
      let more = one_more judged before t entity refl in
      let last : last_of texts ≡ last_of (texts ++ entity ∷ []) = is_same (last_of texts) entity is ∙ sym (last_of-push texts entity) in
      let none : stretches texts ≡ stretches (texts ++ entity ∷ []) = rw (stretches-push texts entity, is) (omega arith) in
      same (counted is_found before t refl) (uncounted is_closed before t refl) (none ∙ ap stretches more) (last ∙ ap last_of more) (ap marks_of (none_more opened before t refl))
      (ap marks_of (none_more changed before t refl)) (first_more t refl)
  judging entity behind line false is =
      let t = told (telling.Finding (Some entity)) behind line in
      let texts = filter_map judged before in
      let more = one_more judged before t entity refl in
      let one : stretches texts + 1 ≡ stretches (texts ++ entity ∷ []) = rw (stretches-push texts entity, is) refl in
      same (counted is_found before t refl) (uncounted is_closed before t refl) (one ∙ ap stretches more) (sym (last_of-push texts entity) ∙ ap last_of more)
      (ap marks_of (none_more opened before t refl)) (ap marks_of (none_more changed before t refl)) (first_more t refl)

  pub one_line : (telling : Telling) (behind : Behind) (line : List ℕ) → with_line (tally_of before) telling behind line ≡ tally_of (before ++ told telling behind line ∷ [])
  one_line (telling.Finding None) behind line =
      let t = told (telling.Finding None) behind line in
      same (counted is_found before t refl) (uncounted is_closed before t refl) (ap stretches (none_more judged before t refl)) (ap last_of (none_more judged before t refl))
      (ap marks_of (none_more opened before t refl)) (ap marks_of (none_more changed before t refl)) (first_more t refl)
  one_line (telling.Finding (Some entity)) behind line = judging entity behind line (is_last (last_of (filter_map judged before)) entity) refl
  one_line (telling.Opened None place) behind line =
      let t = told (telling.Opened None place) behind line in
      same (counted is_found before t refl) (uncounted is_closed before t refl) (ap stretches (none_more judged before t refl)) (ap last_of (none_more judged before t refl))
      (ap marks_of (none_more opened before t refl)) (marked_more (filter_map changed before) place true ∙ ap marks_of (one_more changed before t (place, true) refl)) (first_more t refl)
  one_line (telling.Opened (Some entity) place) behind line =
      let t = told (telling.Opened (Some entity) place) behind line in
      same (counted is_found before t refl) (uncounted is_closed before t refl) (ap stretches (none_more judged before t refl)) (ap last_of (none_more judged before t refl))
      (marked_more (filter_map opened before) entity true ∙ ap marks_of (one_more opened before t (entity, true) refl))
      (marked_more (filter_map changed before) place true ∙ ap marks_of (one_more changed before t (place, true) refl)) (first_more t refl)
  one_line (telling.Closed place) behind line =
      let t = told (telling.Closed place) behind line in
      same (uncounted is_found before t refl) (counted is_closed before t refl) (ap stretches (none_more judged before t refl)) (ap last_of (none_more judged before t refl))
      (ap marks_of (none_more opened before t refl)) (marked_more (filter_map changed before) place false ∙ ap marks_of (one_more changed before t (place, false) refl))
      (ap first_of (none_more found_line before t refl))
