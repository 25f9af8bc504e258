-- What is gathered file by file.
use Rattle.std.proofs.Common.{◌≡◌, ℕ, suc, ◌+◌, ◌≤◌, ◌<◌, cond, List, [], ◌∷◌, ◌++◌, map, length, take, get_or, refl, ap, sym, ◌∙◌, subst, IfSome, IfOk, Result, Ok, Err, arith, append_assoc, length-append, is_ok, None, Some}
use Rattle.std.specs.declared.option.Option.{Option}
use Rattle.std.specs.FinMap.{get}
use Rattle.std.specs.List.{list_all}
use Rattle.std.proofs.lemmas.List.{length-map, length-take-le, map_more}
use Rattle.rt_outside.specs.Store.{Contents}
use Rattle.feed_values.specs.Schema.{Value}
use Rattle.feed_values.specs.Messages.{feed_message}
use Rattle.feed_values.specs.Snapshot.{snapshot_value}
use Rattle.feed_codec.specs.declared.refusal.Refusal.{Refusal}
use Rattle.feed_codec.specs.Refusal.{refusal}
use Rattle.serde_json.specs.Written.{compact_text}
use Rattle.snapshot_lines.specs.Lines.{line_of, refused}
use Rattle.feed_merge.specs.Union.{united}
use Rattle.run_base.specs.declared.status.Status.TheVariants as answer
use Rattle.run_base.specs.Found.{bytes_in, decoded, snapshot_in, unless_faulty}
use Rattle.run_base.proofs.Chosen.{both as both_told}
use Rattle.run_merge.specs.declared.gathered.Gathered.{Gathered}
use Rattle.run_merge.specs.Merged.{Found, found_in, accepted_values, refused_lines, merged_report, union_report, written}
use Rattle.run_merge.specs.Gathering.{Adds, IsGathered, gathered_report, report_on, value_said}

-- ---- one file more
values_append : (a b : Found) → accepted_values (a ++ b) ≡ accepted_values a ++ accepted_values b
values_append [] b = refl
values_append (Ok v ∷ a) b = ap (λ vs. v ∷ vs) (values_append a b)
values_append (Err why ∷ a) b = values_append a b

lines_append : (n : ℕ) (a b : Found) → refused_lines n (a ++ b) ≡ refused_lines n a ++ refused_lines (n + length a) b
lines_append n [] b = ap (λ k. refused_lines k b) (here n)
  where
    here : (n : ℕ) → n ≡ n + 0
    here n = omega arith
lines_append n (Ok v ∷ a) b = lines_append (n + 1) a b ∙ ap (λ k. refused_lines (n + 1) a ++ refused_lines k b) (next n (length a))
  where
    next : (n k : ℕ) → (n + 1) + k ≡ n + suc k
    next n k = omega arith
lines_append n (Err why ∷ a) b =
    ap (λ xs. line_of (refused n why) ++ xs) (lines_append (n + 1) a b ∙ ap (λ k. refused_lines (n + 1) a ++ refused_lines k b) (next n (length a)))
    ∙ sym (append_assoc (line_of (refused n why)) (refused_lines (n + 1) a) (refused_lines (n + suc (length a)) b))
  where
    next : (n k : ℕ) → (n + 1) + k ≡ n + suc k
    next n k = omega arith

pub gathered_more : (found : Found) (one : Result (List ℕ) Refusal) (n : ℕ) (before after : Gathered) → length found ≡ n → IsGathered found before → Adds n one before after →
    IsGathered (found ++ value_said one ∷ []) after
gathered_more found one n before after long is adds = record {
  feeds_are = adds.feeds_are ∙ ap (λ vs. vs ++ accepted_values (value_said one ∷ [])) is.feeds_are ∙ sym (values_append found (value_said one ∷ []));
  refused_are = adds.refused_are ∙ ap (λ ls. ls ++ refused_lines n (value_said one ∷ [])) is.refused_are
      ∙ ap (λ k. refused_lines 0 found ++ refused_lines k (value_said one ∷ [])) (number (length found) long)
      ∙ sym (lines_append 0 found (value_said one ∷ []));
}
  where
    number : (k : ℕ) → k ≡ n → n ≡ 0 + k
    number k e = omega arith

-- what a file's bytes say is its snapshot
decoded_said : (bytes : List ℕ) (o : Option Refusal) → value_said (unless_faulty bytes o) ≡ decoded bytes o
decoded_said bytes None = refl
decoded_said bytes (Some why) = refl

snapshot_said : (held : Option (List ℕ)) → value_said (bytes_in held) ≡ snapshot_in held
snapshot_said None = refl
snapshot_said (Some bytes) = decoded_said bytes (refusal bytes)

-- in files
pub found_more : (held : Contents) (names : List (List ℕ)) (i : ℕ) (name : List ℕ) (before after : Gathered) → i < length names → name ≡ get_or names i name →
    IsGathered (found_in held (take i names)) before → Adds i (bytes_in (get held name)) before after → IsGathered (found_in held (take (i + 1) names)) after
found_more held names i name before after l is gathered adds =
    subst (λ f. IsGathered f after)
    (ap (λ x. found_in held (take i names) ++ x ∷ []) (snapshot_said (get held name))
    ∙ ap (λ x. found_in held (take i names) ++ snapshot_in (get held x) ∷ []) is ∙ sym (map_more (λ file. snapshot_in (get held file)) names i name l))
    (gathered_more (found_in held (take i names)) (bytes_in (get held name)) i before after
    (length-map (take i names) (λ file. snapshot_in (get held file)) ∙ length-take-le i names (omega arith)) gathered adds)

pub files_more : (told mid : Option Contents) (names : List (List ℕ)) (i : ℕ) (name item : List ℕ) (before after : Gathered) → mid ≡ told → i < length names → name ≡ item → item ≡ get_or names i item →
    IfSome told (λ held. IsGathered (found_in held (take i names)) before) → IfSome mid (λ held. Adds i (bytes_in (get held name)) before after) →
    IfSome told (λ held. IsGathered (found_in held (take (i + 1) names)) after)
files_more told mid names i name item before after same l named is gathered adds =
    both_told told _ _ _ (λ held g a. found_more held names i item before after l is g (subst (λ n. Adds i (bytes_in (get held n)) before after) named a)) gathered
    (subst (λ o. IfSome o (λ held. Adds i (bytes_in (get held name)) before after)) same adds)

-- ---- how many
one_value : (found : Result (List ℕ) Refusal) → length (accepted_values (value_said found ∷ [])) ≤ 1
one_value (Ok bytes) = omega arith
one_value (Err why) = omega arith

pub few_more : (before after : Gathered) (found : Result (List ℕ) Refusal) →
    map snapshot_value after.feeds ≡ map snapshot_value before.feeds ++ accepted_values (value_said found ∷ []) → length after.feeds ≤ length before.feeds + 1
few_more before after found is =
    let long : length after.feeds ≡ length before.feeds + length (accepted_values (value_said found ∷ [])) =
    sym (length-map after.feeds snapshot_value) ∙ ap length is ∙ length-append (map snapshot_value before.feeds) (accepted_values (value_said found ∷ []))
    ∙ ap (λ n. n + length (accepted_values (value_said found ∷ []))) (length-map before.feeds snapshot_value) in
    let one = one_value found in
    omega (arith, long, one)

-- ---- the report
-- a line isn't empty
report_lines : (feeds : List (List ℕ)) (text rest : List ℕ) → report_on feeds ((text ++ 10 ∷ []) ++ rest) ≡ written ((text ++ 10 ∷ []) ++ rest) answer.Found
report_lines feeds [] rest = refl
report_lines feeds (b ∷ text) rest = refl

-- the report on the feeds that are accepted
report_from : (feeds : List (List ℕ)) (n : ℕ) (found : Found) →
    report_on feeds (refused_lines n found) ≡ cond (list_all is_ok found) (union_report (united (map snapshot_value feeds))) (written (refused_lines n found) answer.Found)
report_from feeds n [] = refl
report_from feeds n (Ok v ∷ found) = report_from feeds (n + 1) found
report_from feeds n (Err why ∷ found) = report_lines feeds (compact_text (refused n why)) (refused_lines (n + 1) found)

pub report_is : (found : Found) (gathered : Gathered) → IsGathered found gathered → gathered_report gathered ≡ merged_report found
report_is found gathered is =
    ap (report_on gathered.feeds) is.refused_are ∙ report_from gathered.feeds 0 found
    ∙ ap (λ vs. cond (list_all is_ok found) (union_report (united vs)) (written (refused_lines 0 found) answer.Found)) is.feeds_are
