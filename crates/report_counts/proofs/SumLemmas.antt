-- Each line counts once.
use Rattle.std.proofs.Common.{◌≡◌, ◌+◌, ◌==◌, ℕ, Bool, true, false, not, List, [], ◌∷◌, cond, length, map, Option, Some, None, refl, sym, ◌∙◌, arith}
use Rattle.std.specs.List.{cons_option, sum_by}
use Rattle.std.proofs.lemmas.List.Sums.{sum_by-cons}
use Rattle.rule_table.specs.Rules.{rule_number}
use Rattle.rule_table.specs.Table.{all_rules}
use Rattle.rule_table.specs.declared.rule.RuleId.{RuleId}
use Rattle.rule_table.specs.declared.rule.RuleId.TheVariants.{E001}
use Rattle.rule_tally.specs.Tallies.{Told, is_closed, is_found, tally_of, told}
use Rattle.rule_tally.specs.declared.first_line.Behind.{Behind}
use Rattle.rule_tally.specs.declared.telling.Telling.{Telling}
use Rattle.report_lines.specs.declared.line.ReportLine.{ReportLine}
use Rattle.report_lines.specs.declared.line.ReportLine.TheVariants as line
use Rattle.report_counts.specs.Counts.{Ignored, Placed, behind_snapshot, counts_by, how_many, is_accepted, is_exchanged, is_foreign, is_ignored, is_passed, is_refused, is_refused_timetable, is_trial, next_behind, placed, placed_lines, tells_of, told_in}
use Rattle.report_counts.specs.Laws.{counted, lines_in, lines_of_rules}
use Rattle.report_counts.specs.Tallies.{tallies_of}

-- a line of a rule is a finding, an opening or a closing
one_is : (t : Told) (b : Bool) → is_found t ≡ b → cond (is_found t) 1 0 + cond (not (is_found t)) 1 0 ≡ 1
one_is t true h = rw h refl
one_is t false h = rw h refl

all_are : (ts : List Told) → lines_in (tally_of ts) ≡ length ts
all_are [] = refl
all_are (t ∷ ts) =
    let rest = all_are ts in
    let f = sum_by-cons (λ (x : Told). cond (is_found x) 1 0) t ts in
    let c = sum_by-cons (λ (x : Told). cond (is_closed x) 1 0) t ts in
    let one = one_is t (is_found t) refl in
    omega (arith, rest, f, c, one)

-- sums over rules
same_sum : (f g : RuleId → ℕ) → ((rule : RuleId) → f rule ≡ g rule) → (rules : List RuleId) → sum_by f rules ≡ sum_by g rules
same_sum f g same [] = refl
same_sum f g same (rule ∷ rules) =
    let rest = same_sum f g same rules in
    let one = same rule in
    sum_by-cons f rule rules ∙ rw (one, rest) (sym (sum_by-cons g rule rules))

none_sum : (rules : List RuleId) → sum_by (λ rule. 0) rules ≡ 0
none_sum [] = refl
none_sum (rule ∷ rules) = let rest = none_sum rules in let one = sum_by-cons (λ (r : RuleId). 0) rule rules in omega (arith, rest, one)

-- a rule is one of all rules, once
one_rule : (rule : RuleId) → sum_by (λ other. cond (rule_number other == rule_number rule) 1 0) all_rules ≡ 1
one_rule E001 = refl
one_rule _ = refl

abbrev some_in : Option Told → ℕ
some_in None = 0
some_in (Some t) = 1

one_longer : (o : Option Told) (ts : List Told) → length (cons_option o ts) ≡ some_in o + length ts
one_longer None ts = omega arith
one_longer (Some t) ts = omega arith

hit_at : (b : Bool) (t : Told) → some_in (cond b (Some t) None) ≡ cond b 1 0
hit_at true t = refl
hit_at false t = refl

-- what isn't of an ignored rule and of a rule counts there
abbrev is_told : Ignored → ReportLine → Bool
is_told ignored (line.Told rule telling) = not (is_ignored ignored rule)
is_told ignored _ = false

module _ (ignored : Ignored) (at : Placed) where
  abbrev hit : ReportLine → RuleId → ℕ
  hit is rule = some_in (tells_of ignored rule at is)

  told_hits : (rule : RuleId) (telling : Telling) (b : Bool) → is_ignored ignored rule ≡ b → sum_by (hit (line.Told rule telling)) all_rules ≡ cond (not b) 1 0
  told_hits rule telling true h = same_sum (hit (line.Told rule telling)) (λ other. 0) (λ other. rw h refl) all_rules ∙ none_sum all_rules
  told_hits rule telling false h =
      same_sum (hit (line.Told rule telling)) (λ other. cond (rule_number other == rule_number rule) 1 0) (λ other. rw h (hit_at (rule_number other == rule_number rule) (told telling at.behind at.text))) all_rules ∙ one_rule rule

  hits : (is : ReportLine) → sum_by (hit is) all_rules ≡ cond (is_told ignored is) 1 0
  hits (line.Accepted moment) = none_sum all_rules
  hits (line.Refused r) = none_sum all_rules
  hits (line.Exchanged row) = none_sum all_rules
  hits (line.RefusedTimetable r) = none_sum all_rules
  hits (line.Told rule telling) = told_hits rule telling (is_ignored ignored rule) refl
  hits line.Trial = none_sum all_rules
  hits line.Foreign = none_sum all_rules

-- each line is of one kind
passed_or : (b : Bool) → cond b 1 0 + cond (not b) 1 0 ≡ 1
passed_or true = refl
passed_or false = refl

one_kind : (ignored : Ignored) (is : ReportLine)
    → cond (is_passed ignored is) 1 0 + (cond (is_accepted is) 1 0 + cond (is_refused is) 1 0 + cond (is_exchanged is) 1 0 + cond (is_refused_timetable is) 1 0 + cond (is_trial is) 1 0 + cond (is_foreign is) 1 0 + cond (is_told ignored is) 1 0) ≡ 1
one_kind ignored (line.Accepted moment) = refl
one_kind ignored (line.Refused r) = refl
one_kind ignored (line.Exchanged row) = refl
one_kind ignored (line.RefusedTimetable r) = refl
one_kind ignored (line.Told rule telling) = let one = passed_or (is_ignored ignored rule) in omega (arith, one)
one_kind ignored line.Trial = refl
one_kind ignored line.Foreign = refl

module _ (said : List ℕ → ReportLine) (ignored : Ignored) (rules : List RuleId) where
  abbrev of_rules : Behind → List (List ℕ) → ℕ
  of_rules behind lines = lines_of_rules (map (λ rule. tally_of (told_in said ignored (placed_lines said behind lines) rule)) rules)

  kind_more : (test : ReportLine → Bool) (text : List ℕ) (lines : List (List ℕ)) → how_many said test (text ∷ lines) ≡ cond (test (said text)) 1 0 + how_many said test lines
  kind_more test text lines = sum_by-cons (λ t. cond (test (said t)) 1 0) text lines

rules_more : (said : List ℕ → ReportLine) (ignored : Ignored) (behind : Behind) (text : List ℕ) (lines : List (List ℕ)) (rules : List RuleId)
    → of_rules said ignored rules behind (text ∷ lines) ≡ sum_by (hit ignored (placed behind text) (said text)) rules + of_rules said ignored rules (next_behind behind (said text)) lines
rules_more said ignored behind text lines [] = refl
rules_more said ignored behind text lines (rule ∷ rules) =
    let rest = rules_more said ignored behind text lines rules in
    let later = placed_lines said (next_behind behind (said text)) lines in
    let before = told_in said ignored later rule in
    let o = tells_of ignored rule (placed behind text) (said text) in
    let a = sum_by-cons lines_in (tally_of (cons_option o before)) (map (λ r. tally_of (told_in said ignored (placed behind text ∷ later) r)) rules) in
    let b = sum_by-cons lines_in (tally_of before) (map (λ r. tally_of (told_in said ignored later r)) rules) in
    let c = sum_by-cons (hit ignored (placed behind text) (said text)) rule rules in
    let longer = one_longer o before in
    let all = all_are (cons_option o before) in
    let some = all_are before in
    omega (arith, rest, a, b, c, longer, all, some)

-- where each line is of one of these rules at most
module _ (said : List ℕ → ReportLine) (ignored : Ignored) (rules : List RuleId)
    (once : (at : Placed) (is : ReportLine) → sum_by (hit ignored at is) rules ≡ cond (is_told ignored is) 1 0) where
  sum_over : (behind : Behind) (lines : List (List ℕ))
      → how_many said (is_passed ignored) lines + (how_many said is_accepted lines + how_many said is_refused lines + how_many said is_exchanged lines + how_many said is_refused_timetable lines + how_many said is_trial lines + how_many said is_foreign lines + of_rules said ignored rules behind lines)
      ≡ length lines
  sum_over behind [] = none_over rules
    where
      none_over : (rs : List RuleId) → 0 + (0 + 0 + 0 + 0 + 0 + 0 + of_rules said ignored rs behind []) ≡ 0
      none_over [] = refl
      none_over (r ∷ rs) =
          let rest = none_over rs in
          let a = sum_by-cons lines_in (tally_of []) (map (λ x. tally_of (told_in said ignored [] x)) rs) in
          omega (arith, rest, a)
  sum_over behind (text ∷ lines) =
      let rest = sum_over (next_behind behind (said text)) lines in
      let i = kind_more said ignored rules (is_passed ignored) text lines in
      let a = kind_more said ignored rules is_accepted text lines in
      let r = kind_more said ignored rules is_refused text lines in
      let x = kind_more said ignored rules is_exchanged text lines in
      let q = kind_more said ignored rules is_refused_timetable text lines in
      let t = kind_more said ignored rules is_trial text lines in
      let f = kind_more said ignored rules is_foreign text lines in
      let more = rules_more said ignored behind text lines rules in
      let here = once (placed behind text) (said text) in
      let one = one_kind ignored (said text) in
      omega (arith, rest, i, a, r, x, q, t, f, more, here, one)

pub sum_is : (said : List ℕ → ReportLine) (ignored : Ignored) (lines : List (List ℕ)) → (counts_by said ignored lines).ignored + counted (counts_by said ignored lines) ≡ length lines
unfolding tallies_of
sum_is said ignored lines = sum_over said ignored all_rules (λ at is. hits ignored at is) (behind_snapshot None) lines
