-- The counts with one line more.
use Rattle.std.proofs.Common.{◌≡◌, ◌+◌, ◌==◌, ℕ, Bool, true, false, List, [], ◌∷◌, ◌++◌, cond, length, Option, Some, None, refl, sym, ap, ◌∙◌, subst, arith, append-nil, length-append}
use Rattle.std.specs.List.{cons_option, filter_map}
use Rattle.std.proofs.lemmas.List.Sums.{sum_by_push}
use Rattle.rule_table.specs.Rules.{rule_number}
use Rattle.rule_table.specs.declared.rule.RuleId.{RuleId}
use Rattle.rule_tally.specs.Tallies.{told}
use Rattle.rule_tally.specs.declared.first_line.Behind.{Behind}
use Rattle.rule_tally.specs.declared.tally.Tally.{Tally}
use Rattle.rule_tally.specs.declared.telling.Telling.{Telling}
use Rattle.report_lines.specs.declared.line.RefusedLine.{RefusedLine}
use Rattle.report_lines.specs.declared.line.RefusedTimetable.{RefusedTimetable}
use Rattle.report_lines.specs.declared.line.ReportLine.{ReportLine}
use Rattle.report_lines.specs.declared.line.ReportLine.TheVariants as line
use Rattle.report_counts.specs.Counts.{Ignored, Placed, behind_snapshot, counts_by, how_many, is_accepted, is_exchanged, is_foreign, is_ignored, is_passed, is_refused, is_refused_timetable, is_trial, last_behind, next_behind, number_if, numbers_from, placed, placed_lines, refusal, tells_of, timetable_refusal, told_of}
use Rattle.report_counts.specs.Shown.{shown, shown_more}
use Rattle.report_counts.specs.Stepping.{HasTaken, IsTold, with_foreign}
use Rattle.report_counts.specs.Tallies.{one_more_of, tallies_of}
use Rattle.report_counts.specs.declared.counts.Counts.{Counts}
use Rattle.report_counts.proofs.RuleLemmas.{same_tallies}
use Rattle.report_counts.proofs.ShownLemmas.{none_given, one_given, one_more}

-- equal by fields
same : {n n1 a a1 : ℕ} {b b1 : Behind} {r r1 : ℕ} {rs rs1 : List RefusedLine} {x x1 q q1 : ℕ} {qs qs1 : List RefusedTimetable} {t t1 f f1 : ℕ} {fs fs1 : List ℕ} {i i1 : ℕ} {ts ts1 : List Tally}
    → n ≡ n1 → a ≡ a1 → b ≡ b1 → r ≡ r1 → rs ≡ rs1 → x ≡ x1 → q ≡ q1 → qs ≡ qs1 → t ≡ t1 → f ≡ f1 → fs ≡ fs1 → i ≡ i1 → ts ≡ ts1
    → let one : Counts = record { lines = n; accepted = a; behind = b; refused = r; refusals = rs; exchanged = x; refused_timetables = q; timetable_refusals = qs; trials = t; foreign = f; strangers = fs; ignored = i; rules = ts } in
    let other : Counts = record { lines = n1; accepted = a1; behind = b1; refused = r1; refusals = rs1; exchanged = x1; refused_timetables = q1; timetable_refusals = qs1; trials = t1; foreign = f1; strangers = fs1; ignored = i1; rules = ts1 } in
    one ≡ other
same en ea eb er ers ex eq eqs et ef efs ei ets = rw (en, ea, eb, er, ers, ex, eq, eqs, et, ef, efs, ei, ets) refl

-- the lines are numbered on
front : (o : Option ℕ) (xs ys zs : List ℕ) → xs ≡ ys ++ zs → cons_option o xs ≡ cons_option o ys ++ zs
front None xs ys zs h = h
front (Some x) xs ys zs h = ap (λ rest. x ∷ rest) h

numbers-push : (said : List ℕ → ReportLine) (test : ReportLine → Bool) (n : ℕ) (ls : List (List ℕ)) (text : List ℕ)
    → numbers_from said n test (ls ++ text ∷ []) ≡ numbers_from said n test ls ++ cons_option (number_if said (test (said text)) (n + length ls)) []
numbers-push said test n [] text = let here : n + 0 ≡ n = omega arith in rw here refl
numbers-push said test n (l ∷ ls) text =
    let next : (n + 1) + length ls ≡ n + length (l ∷ ls) = omega arith in
    let rest = numbers-push said test (n + 1) ls text in
    front (number_if said (test (said l)) n) _ (numbers_from said (n + 1) test ls) _ (rest ∙ ap (λ k. numbers_from said (n + 1) test ls ++ cons_option (number_if said (test (said text)) k) []) next)

-- what lines stand behind
behind-push : (said : List ℕ → ReportLine) (b : Behind) (ls : List (List ℕ)) (text : List ℕ) → last_behind said b (ls ++ text ∷ []) ≡ next_behind (last_behind said b ls) (said text)
behind-push said b [] text = refl
behind-push said b (l ∷ ls) text = behind-push said (next_behind b (said l)) ls text

placed-push : (said : List ℕ → ReportLine) (b : Behind) (ls : List (List ℕ)) (text : List ℕ)
    → placed_lines said b (ls ++ text ∷ []) ≡ placed_lines said b ls ++ placed (last_behind said b ls) text ∷ []
placed-push said b [] text = refl
placed-push said b (l ∷ ls) text = ap (λ rest. placed b l ∷ rest) (placed-push said (next_behind b (said l)) ls text)

-- ---- one line more, which says this
module _ (said : List ℕ → ReportLine) (ignored : Ignored) (ls : List (List ℕ)) (text : List ℕ) where
  abbrev now : Counts
  now = counts_by said ignored (ls ++ text ∷ [])

  -- the counts with the line's number
  abbrev begun : Counts
  begun = record (counts_by said ignored ls) { lines = length ls + 1 }

  len : length ls + 1 ≡ length (ls ++ text ∷ [])
  len = sym (length-append ls (text ∷ []))

  -- the line, with what it stands behind
  abbrev at_last : Placed
  at_last = placed (last_behind said (behind_snapshot None) ls) text

  told_push : (rule : RuleId) → filter_map (λ (at : Placed). tells_of ignored rule at (said at.text)) (placed_lines said (behind_snapshot None) ls ++ at_last ∷ []) ≡ told_of said ignored (ls ++ text ∷ []) rule
  told_push rule = ap (λ ts. filter_map (λ (at : Placed). tells_of ignored rule at (said at.text)) ts) (sym (placed-push said (behind_snapshot None) ls text))

  module _ (is : ReportLine) (e : said text ≡ is) where
    behind_more : next_behind (last_behind said (behind_snapshot None) ls) is ≡ last_behind said (behind_snapshot None) (ls ++ text ∷ [])
    behind_more = ap (next_behind (last_behind said (behind_snapshot None) ls)) (sym e) ∙ sym (behind-push said (behind_snapshot None) ls text)

    yes_more : (test : ReportLine → Bool) → test is ≡ true → how_many said test ls + 1 ≡ how_many said test (ls ++ text ∷ [])
    yes_more test h = rw (sum_by_push (λ t. cond (test (said t)) 1 0) ls text, e, h) refl

    no_more : (test : ReportLine → Bool) → test is ≡ false → how_many said test ls ≡ how_many said test (ls ++ text ∷ [])
    no_more test h = rw (sum_by_push (λ t. cond (test (said t)) 1 0) ls text, e, h) (omega arith)

    no_refusal : refusal is ≡ None → shown (filter_map (λ t. refusal (said t)) ls) ≡ shown (filter_map (λ t. refusal (said t)) (ls ++ text ∷ []))
    no_refusal h = ap shown (none_given (λ t. refusal (said t)) ls text (ap refusal e ∙ h))

    no_timetable : timetable_refusal is ≡ None → shown (filter_map (λ t. timetable_refusal (said t)) ls) ≡ shown (filter_map (λ t. timetable_refusal (said t)) (ls ++ text ∷ []))
    no_timetable h = ap shown (none_given (λ t. timetable_refusal (said t)) ls text (ap timetable_refusal e ∙ h))

    no_number : is_foreign is ≡ false → shown (numbers_from said 1 is_foreign ls) ≡ shown (numbers_from said 1 is_foreign (ls ++ text ∷ []))
    no_number h =
        let none : cons_option (number_if said (is_foreign (said text)) (1 + length ls)) [] ≡ [] = rw (e, h) refl in
        ap shown (sym (numbers-push said is_foreign 1 ls text ∙ ap (λ zs. numbers_from said 1 is_foreign ls ++ zs) none ∙ append-nil (numbers_from said 1 is_foreign ls)))

    untold : ((rule : RuleId) → tells_of ignored rule at_last is ≡ None) → tallies_of (told_of said ignored ls) ≡ tallies_of (told_of said ignored (ls ++ text ∷ []))
    untold h = same_tallies (told_of said ignored ls) (told_of said ignored (ls ++ text ∷ []))
        (λ rule. none_given (λ (at : Placed). tells_of ignored rule at (said at.text)) (placed_lines said (behind_snapshot None) ls) at_last (ap (tells_of ignored rule at_last) e ∙ h rule) ∙ told_push rule)

  -- a line that is no report's
  foreign_number : said text ≡ line.Foreign → shown_more (shown (numbers_from said 1 is_foreign ls)) (length ls + 1) ≡ shown (numbers_from said 1 is_foreign (ls ++ text ∷ []))
  foreign_number e =
      let here : 1 + length ls ≡ length ls + 1 = omega arith in
      let one : cons_option (number_if said (is_foreign (said text)) (1 + length ls)) [] ≡ (length ls + 1) ∷ [] = rw (e, here) refl in
      one_more 10 (numbers_from said 1 is_foreign ls) (length ls + 1) ∙ ap shown (sym (numbers-push said is_foreign 1 ls text ∙ ap (λ zs. numbers_from said 1 is_foreign ls ++ zs) one))

  -- a line of a rule that isn't ignored
  told_more : (rule other : RuleId) (telling : Telling) (b : Bool) → (rule_number other == rule_number rule) ≡ b → is_ignored ignored rule ≡ false → said text ≡ line.Told rule telling
      → cond b (told_of said ignored ls other ++ told telling (last_behind said (behind_snapshot None) ls) text ∷ []) (told_of said ignored ls other) ≡ told_of said ignored (ls ++ text ∷ []) other
  told_more rule other telling true is counts e =
      one_given (λ (at : Placed). tells_of ignored other at (said at.text)) (placed_lines said (behind_snapshot None) ls) at_last (told telling (last_behind said (behind_snapshot None) ls) text) (ap (tells_of ignored other at_last) e ∙ rw (counts, is) refl)
      ∙ told_push other
  told_more rule other telling false is counts e =
      none_given (λ (at : Placed). tells_of ignored other at (said at.text)) (placed_lines said (behind_snapshot None) ls) at_last (ap (tells_of ignored other at_last) e ∙ rw (counts, is) refl) ∙ told_push other

  passed_none : (rule other : RuleId) (telling : Telling) → is_ignored ignored rule ≡ true → tells_of ignored other at_last (line.Told rule telling) ≡ None
  passed_none rule other telling h = rw h refl

  told_line : (rule : RuleId) (telling : Telling) (after : Counts) (b : Bool) → is_ignored ignored rule ≡ b → said text ≡ line.Told rule telling → IsTold b begun rule telling text after → after ≡ now
  told_line rule telling after true h e t =
      t ∙ same len (no_more _ e is_accepted refl) (behind_more _ e) (no_more _ e is_refused refl) (no_refusal _ e refl) (no_more _ e is_exchanged refl) (no_more _ e is_refused_timetable refl) (no_timetable _ e refl) (no_more _ e is_trial refl) (no_more _ e is_foreign refl) (no_number _ e refl)
      (yes_more _ e (is_passed ignored) h) (untold _ e (λ other. passed_none rule other telling h))
  told_line rule telling after false h e t =
      let tallied = t.1 (told_of said ignored ls) refl in
      let joined = same_tallies (one_more_of (told_of said ignored ls) rule (told telling (last_behind said (behind_snapshot None) ls) text)) (told_of said ignored (ls ++ text ∷ []))
      (λ other. told_more rule other telling (rule_number other == rule_number rule) refl h e) in
      t.0 ∙ same len (no_more _ e is_accepted refl) (behind_more _ e) (no_more _ e is_refused refl) (no_refusal _ e refl) (no_more _ e is_exchanged refl) (no_more _ e is_refused_timetable refl) (no_timetable _ e refl) (no_more _ e is_trial refl) (no_more _ e is_foreign refl) (no_number _ e refl)
      (no_more _ e (is_passed ignored) h) (tallied ∙ joined)

  by_said : (is : ReportLine) (after : Counts) → said text ≡ is → HasTaken ignored begun is text after → after ≡ now
  by_said (line.Accepted own) after e t =
      t ∙ same len (yes_more _ e is_accepted refl) (behind_more _ e) (no_more _ e is_refused refl) (no_refusal _ e refl) (no_more _ e is_exchanged refl) (no_more _ e is_refused_timetable refl) (no_timetable _ e refl) (no_more _ e is_trial refl) (no_more _ e is_foreign refl) (no_number _ e refl)
      (no_more _ e (is_passed ignored) refl) (untold _ e (λ rule. refl))
  by_said (line.Refused r) after e t =
      t ∙ same len (no_more _ e is_accepted refl) (behind_more _ e) (yes_more _ e is_refused refl)
      (one_more 10 (filter_map (λ x. refusal (said x)) ls) r ∙ ap shown (one_given (λ x. refusal (said x)) ls text r (ap refusal e))) (no_more _ e is_exchanged refl) (no_more _ e is_refused_timetable refl) (no_timetable _ e refl) (no_more _ e is_trial refl) (no_more _ e is_foreign refl)
      (no_number _ e refl) (no_more _ e (is_passed ignored) refl) (untold _ e (λ rule. refl))
  by_said (line.Exchanged row) after e t =
      t ∙ same len (no_more _ e is_accepted refl) (behind_more _ e) (no_more _ e is_refused refl) (no_refusal _ e refl) (yes_more _ e is_exchanged refl) (no_more _ e is_refused_timetable refl)
      (no_timetable _ e refl) (no_more _ e is_trial refl) (no_more _ e is_foreign refl) (no_number _ e refl) (no_more _ e (is_passed ignored) refl) (untold _ e (λ rule. refl))
  by_said (line.RefusedTimetable r) after e t =
      t ∙ same len (no_more _ e is_accepted refl) (behind_more _ e) (no_more _ e is_refused refl) (no_refusal _ e refl) (no_more _ e is_exchanged refl) (yes_more _ e is_refused_timetable refl)
      (one_more 10 (filter_map (λ x. timetable_refusal (said x)) ls) r ∙ ap shown (one_given (λ x. timetable_refusal (said x)) ls text r (ap timetable_refusal e))) (no_more _ e is_trial refl)
      (no_more _ e is_foreign refl) (no_number _ e refl) (no_more _ e (is_passed ignored) refl) (untold _ e (λ rule. refl))
  by_said (line.Told rule telling) after e t = told_line rule telling after (is_ignored ignored rule) refl e t
  by_said line.Trial after e t =
      t ∙ same len (no_more _ e is_accepted refl) (behind_more _ e) (no_more _ e is_refused refl) (no_refusal _ e refl) (no_more _ e is_exchanged refl) (no_more _ e is_refused_timetable refl) (no_timetable _ e refl) (yes_more _ e is_trial refl) (no_more _ e is_foreign refl) (no_number _ e refl)
      (no_more _ e (is_passed ignored) refl) (untold _ e (λ rule. refl))
  by_said line.Foreign after e t =
      t ∙ same len (no_more _ e is_accepted refl) (behind_more _ e) (no_more _ e is_refused refl) (no_refusal _ e refl) (no_more _ e is_exchanged refl) (no_more _ e is_refused_timetable refl) (no_timetable _ e refl) (no_more _ e is_trial refl) (yes_more _ e is_foreign refl) (foreign_number e)
      (no_more _ e (is_passed ignored) refl) (untold _ e (λ rule. refl))

  -- in the code
  pub taken : (old after : Counts) (n : ℕ) (is : ReportLine) → is ≡ said text → n ≡ old.lines + 1 → old ≡ counts_by said ignored ls → HasTaken ignored (record old { lines = n }) is text after → after ≡ now
  taken old after n is e number start t =
      by_said is after (sym e)
      (subst (λ (c : Counts). HasTaken ignored (record c { lines = length ls + 1 }) is text after) start
      (subst (λ (k : ℕ). HasTaken ignored (record old { lines = k }) is text after) (number ∙ ap (λ (c : Counts). c.lines + 1) start) t))

-- two lines that are no report's count alike
pub foreign_same : (said : List ℕ → ReportLine) (ignored : Ignored) (ls : List (List ℕ)) (x y : List ℕ) → said x ≡ line.Foreign → said y ≡ line.Foreign
    → counts_by said ignored (ls ++ x ∷ []) ≡ counts_by said ignored (ls ++ y ∷ [])
foreign_same said ignored ls x y ex ey =
    sym (by_said said ignored ls x line.Foreign (with_foreign (begun said ignored ls x)) ex refl) ∙ by_said said ignored ls y line.Foreign (with_foreign (begun said ignored ls y)) ey refl
