-- What is cached stands for its parts: each list has rules of its own, in their order.
use Rattle.std.specs.Prelude.{◌≡◌, ℕ, true, List, [], ◌∷◌, ◌++◌, Option, Some, None, refl}
use Rattle.std.proofs.Common.{sym, ap, ◌∙◌, subst, append_assoc}
use Rattle.feed_values.specs.Snapshot.{entity_of, header_of, timestamp_of}
use Rattle.timetable.specs.Timetables.{Tables}
use Rattle.rule_table.specs.declared.rule.RuleId.{RuleId}
use Rattle.rule_table.specs.declared.key.EntityKey.{EntityKey}
use Rattle.rule_table.specs.Answers.{pair_answer, bound_answer, peak_answer}
use Rattle.rule_table.specs.Found.{Found}
use Rattle.rule_table.specs.Groups.{has_rule}
use Rattle.rule_table.specs.Judged.{found_all}
use Rattle.rule_table.specs.Pairs.{PairRow}
use Rattle.rule_table.specs.Peaks.{PeakMap}
use Rattle.rule_history.specs.Answered.{local_answer}
use Rattle.rule_history.specs.History.{Snapshot}
use Rattle.rule_history.specs.Standing.{Standing, opened, closed}
use Rattle.touched_entities.specs.message_rules.Message.{message_rules}
use Rattle.touched_entities.specs.schedule_rules.Schedule.{schedule_rules}
use Rattle.pairing_rules.specs.Pairing.{pairing_rules}
use Rattle.history_rules.specs.Rules.{bound_rules, peak_rules}
use Rattle.touched_entities.specs.judging.Ruled.{in_rule_order}
use Rattle.engine_laws.specs.HeldFeeds.{HeldFeed, rows_held}
use Rattle.engine_laws.specs.Order.{found_cmp, Rises}
use Rattle.engine_laws.specs.Standings.{findings_of, renewed}
use Rattle.engine_laws.proofs.Lists.{each_of_map}
use Rattle.engine_laws.proofs.Next.{renewed-itself}
use Rattle.touched_entities.specs.part_laws.FourParts.{AreFoundOf, AreInRuleOrder, AreParts, IsInRuleOrder, StandOf, found_in_order, spots_in_order, standings_in_order}
use Rattle.touched_entities.specs.part_laws.FourPartsProofs.{in_order_renewed, merged_opens, merged_closes}
use Rattle.touched_entities.specs.entity_index.Held.{HeldEntities}
use Rattle.touched_entities.specs.entity_parts.Found.{local_found, paired_found, bounded_found, peaked_found, local_rules}
use Rattle.touched_entities.specs.entity_parts.Rising.{local_rises, paired_rises, bounded_rises, peaked_rises}
use Rattle.touched_entities.specs.entity_parts.WholeProofs.{four_groups, local_of, paired_of, bounded_of, peaked_of}
use Rattle.touched_entities.specs.Again.{found_in, list_under, lists_under, payload_at}
use Rattle.touched_entities.specs.Told.{told_parts}
use Rattle.cached_laws.specs.State.{whole_of}
use Rattle.cached_laws.specs.Cached.{AreCached, bounded_by, bounded_in}

-- standings of some rules, by their findings
stand_of : (rules : List RuleId) (xs : List Standing) (fs : List Found) → findings_of xs ≡ fs → AreFoundOf rules fs → StandOf rules xs
stand_of rules xs fs h of = each_of_map (λ x. x.finding) (λ f. has_rule rules f.rule ≡ true) xs (subst (AreFoundOf rules) (sym h) of)

-- standings of findings that were put in the order of their rules, by these
ordered_of : (xs : List Standing) (fs : List Found) → findings_of xs ≡ found_in_order fs → Rises found_cmp (found_in_order fs) → IsInRuleOrder xs
ordered_of xs fs h rises =
    subst (λ ys. IsInRuleOrder ys)
    (ap (renewed xs 0) (sym h) ∙ renewed-itself xs 0 (subst (Rises found_cmp) (sym h) rises))
    (in_order_renewed xs 0 fs)

-- a part of an entity that may be there
pub record IsPart (rules : List RuleId) (xs : List Standing) : Type 0 where
  pub stand : StandOf rules xs
  pub ordered : IsInRuleOrder xs

no_part : (rules : List RuleId) (xs : List Standing) → findings_of xs ≡ [] → IsPart rules xs
no_part rules [] h = record { stand = tt; ordered = refl }
no_part rules (x ∷ xs) h = cc

local_part : (t : Option Tables) (k : EntityKey) (o : Option (List ℕ)) (xs : List Standing) → findings_of xs ≡ found_in (local_found t) k o → IsPart local_rules xs
unfolding in_rule_order
local_part t k None xs h = no_part local_rules xs h
local_part t k (Some p) xs h = record {
  stand = stand_of local_rules xs (local_found t k (entity_of p)) h (local_of t k (entity_of p));
  ordered = ordered_of xs (found_all message_rules (local_answer t k (entity_of p)) k (entity_of p) ++ found_all schedule_rules (local_answer t k (entity_of p)) k (entity_of p)) h (local_rises t k (entity_of p));
}

paired_part : (rows : List PairRow) (k : EntityKey) (o : Option (List ℕ)) (xs : List Standing) → findings_of xs ≡ found_in (paired_found rows) k o → IsPart pairing_rules xs
unfolding in_rule_order
paired_part rows k None xs h = no_part pairing_rules xs h
paired_part rows k (Some p) xs h = record {
  stand = stand_of pairing_rules xs (paired_found rows k (entity_of p)) h (paired_of rows k (entity_of p));
  ordered = ordered_of xs (found_all pairing_rules (pair_answer rows k (entity_of p)) k (entity_of p)) h (paired_rises rows k (entity_of p));
}

bounded_part : (last : Option Snapshot) (k : EntityKey) (o : Option (List ℕ)) (xs : List Standing) → findings_of xs ≡ found_in (bounded_by last) k o → IsPart bound_rules xs
unfolding in_rule_order
bounded_part last k None xs h = no_part bound_rules xs h
bounded_part None k (Some p) xs h = no_part bound_rules xs h
bounded_part (Some s) k (Some p) xs h = record {
  stand = stand_of bound_rules xs (bounded_found (timestamp_of (header_of s.bytes)) s.moment k (entity_of p)) h (bounded_of (timestamp_of (header_of s.bytes)) s.moment k (entity_of p));
  ordered = ordered_of xs (found_all bound_rules (bound_answer (timestamp_of (header_of s.bytes)) s.moment k (entity_of p)) k (entity_of p)) h (bounded_rises (timestamp_of (header_of s.bytes)) s.moment k (entity_of p));
}

peaked_part : (peaks : PeakMap) (k : EntityKey) (o : Option (List ℕ)) (xs : List Standing) → findings_of xs ≡ found_in (peaked_found peaks) k o → IsPart peak_rules xs
unfolding in_rule_order
peaked_part peaks k None xs h = no_part peak_rules xs h
peaked_part peaks k (Some p) xs h = record {
  stand = stand_of peak_rules xs (peaked_found peaks k (entity_of p)) h (peaked_of peaks k (entity_of p));
  ordered = ordered_of xs (found_all peak_rules (peak_answer peaks k (entity_of p)) k (entity_of p)) h (peaked_rises peaks k (entity_of p));
}

module _ (t : Option Tables) (index : List HeldEntities) (feeds : ℕ → HeldFeed) (cached : AreCached t index feeds) (k : EntityKey) where
  pub local_is : IsPart local_rules (list_under index k 0)
  local_is = local_part t k (payload_at index k) (list_under index k 0) (cached.local_are k)

  pub paired_is : IsPart pairing_rules (list_under index k 1)
  paired_is = paired_part (rows_held feeds) k (payload_at index k) (list_under index k 1) (cached.paired_are k)

  bounded_at : (o : Option (List ℕ)) → found_in (bounded_in feeds) k o ≡ found_in (bounded_by (feeds k.feed).last) k o
  bounded_at None = refl
  bounded_at (Some p) = refl

  pub bounded_is : IsPart bound_rules (list_under index k 2)
  bounded_is = bounded_part (feeds k.feed).last k (payload_at index k) (list_under index k 2) (cached.bounded_are k ∙ bounded_at (payload_at index k))

  pub peaked_is : IsPart peak_rules (list_under index k 3)
  peaked_is = peaked_part (λ f. (feeds f).peaks) k (payload_at index k) (list_under index k 3) (cached.peaked_are k)

  pub parts_are : AreParts local_rules pairing_rules bound_rules peak_rules (list_under index k 0) (list_under index k 1) (list_under index k 2) (list_under index k 3)
  parts_are = record {
    groups = four_groups;
    first = local_is.stand;
    second = paired_is.stand;
    third = bounded_is.stand;
    fourth = peaked_is.stand;
  }

  pub in_order : AreInRuleOrder (list_under index k 0) (list_under index k 1) (list_under index k 2) (list_under index k 3)
  in_order = record {
    first = local_is.ordered;
    second = paired_is.ordered;
    third = bounded_is.ordered;
    fourth = peaked_is.ordered;
  }

-- What is told part by part, put rule by rule, is what opened and closed in the whole.
module _ (t u : Option Tables) (one two : List HeldEntities) (f g : ℕ → HeldFeed) (was : AreCached t one f) (is : AreCached u two g) (k : EntityKey) where
  four : {A : Type 0} (a b c d : List A) → ((([] ++ a) ++ b) ++ c) ++ d ≡ (a ++ b) ++ (c ++ d)
  four a b c d = append_assoc (a ++ b) c d

  pub opened_whole : standings_in_order (told_parts (lists_under one k) (lists_under two k)).opened ≡ opened (findings_of (whole_of (lists_under one k))) (whole_of (lists_under two k))
  opened_whole =
      ap standings_in_order
      (four (opened (findings_of (list_under one k 0)) (list_under two k 0)) (opened (findings_of (list_under one k 1)) (list_under two k 1))
      (opened (findings_of (list_under one k 2)) (list_under two k 2)) (opened (findings_of (list_under one k 3)) (list_under two k 3)))
      ∙ sym (merged_opens local_rules pairing_rules bound_rules peak_rules (list_under one k 0) (list_under one k 1) (list_under one k 2) (list_under one k 3)
      (list_under two k 0) (list_under two k 1) (list_under two k 2) (list_under two k 3) (parts_are t one f was k) (parts_are u two g is k) (in_order u two g is k))

  pub closed_whole : spots_in_order (told_parts (lists_under one k) (lists_under two k)).closed ≡ closed (findings_of (whole_of (lists_under one k))) (findings_of (whole_of (lists_under two k)))
  closed_whole =
      ap spots_in_order
      (four (closed (findings_of (list_under one k 0)) (findings_of (list_under two k 0))) (closed (findings_of (list_under one k 1)) (findings_of (list_under two k 1)))
      (closed (findings_of (list_under one k 2)) (findings_of (list_under two k 2))) (closed (findings_of (list_under one k 3)) (findings_of (list_under two k 3))))
      ∙ sym (merged_closes local_rules pairing_rules bound_rules peak_rules (list_under one k 0) (list_under one k 1) (list_under one k 2) (list_under one k 3)
      (list_under two k 0) (list_under two k 1) (list_under two k 2) (list_under two k 3) (parts_are t one f was k) (parts_are u two g is k) (in_order t one f was k))
