-- A law of the rules that ask for peaks: peaks that are equal for an entity's vehicle, in its feed, give it equal findings.
use Rattle.std.specs.Prelude.{◌≡◌, ℕ, List, Option, Some, None, option_map, refl}
use Rattle.std.proofs.Common.{ap, ◌∙◌, sym}
use Rattle.feed_values.specs.declared.slot.Slot.TheVariants.{S58, S59}
use Rattle.feed_values.specs.declared.cell_value.CellValue.{CellValue}
use Rattle.feed_values.specs.declared.cell_value.CellValue.TheVariants as value
use Rattle.feed_values.specs.Schema.{Value}
use Rattle.feed_values.specs.Messages.{entity}
use Rattle.feed_values.specs.Cells.{entity_cell, text_cell}
use Rattle.rule_table.specs.declared.rule.RuleId.TheVariants.{X001}
use Rattle.rule_table.specs.declared.ask.Ask.{Ask}
use Rattle.rule_table.specs.declared.ask.Ask.TheVariants as ask
use Rattle.rule_table.specs.declared.fact.Fact.{Fact}
use Rattle.rule_table.specs.declared.key.EntityKey.{EntityKey}
use Rattle.rule_table.specs.declared.place.Place.TheVariants as place
use Rattle.rule_table.specs.Asked.{text_in}
use Rattle.rule_table.specs.Cited.{and_then, answered}
use Rattle.rule_table.specs.CitedLaws.{both_same, value_is, found_along}
use Rattle.rule_table.specs.Answers.{peak_answer, natural_cell}
use Rattle.rule_table.specs.Judged.{found_at, found_all}
use Rattle.rule_table.specs.Peaks.{PeakMap, SamePeak, vehicle_id_of}
use Rattle.history_rules.specs.Rules.{peak_rules}

text_of : (o : Option (List ℕ)) (t : List ℕ) → text_cell o ≡ value.Text t → o ≡ Some t
text_of None t h = cc
text_of (Some s) t h = cc

-- the vehicle's id, as a cell
is_s58 : (e : Value entity) → entity_cell e S58 0 ≡ text_cell (vehicle_id_of e)
is_s58 (id, (deleted, (update, (None, rest)))) = refl
is_s58 (id, (deleted, (update, (Some (trip, (position, (sequence, (status, (stamp, (congestion, (stop, (None, more)))))))), rest)))) = refl
is_s58 (id, (deleted, (update, (Some (trip, (position, (sequence, (status, (stamp, (congestion, (stop, (Some vehicle, more)))))))), rest)))) = refl

module _ (u v : PeakMap) (k : EntityKey) (e : Value entity) (h : SamePeak u v k e) where
  -- what the rule asks, of a cell with this value
  abbrev to : (peaks : PeakMap) → Ask → Option Fact
  to peaks q = answered q (peak_answer peaks k e q)

  peak_same : (c : CellValue) → c ≡ entity_cell e S58 0 → and_then (option_map (ask.Peak k.feed) (text_in c)) (to u) ≡ and_then (option_map (ask.Peak k.feed) (text_in c)) (to v)
  peak_same value.Missing w = refl
  peak_same (value.Number n) w = refl
  peak_same (value.Text t) w = ap (λ x. answered (ask.Peak k.feed t) (Some (natural_cell x))) (h t (text_of (vehicle_id_of e) t (sym (w ∙ is_s58 e))))

  -- at the timestamp, the rule's only place
  x001_59 : found_at X001 (peak_answer u k e) (place.Entity k (record { slot = S59; index = 0 })) ≡ found_at X001 (peak_answer v k e) (place.Entity k (record { slot = S59; index = 0 }))
  x001_59 = found_along X001 (peak_answer u k e) (peak_answer v k e) (place.Entity k (record { slot = S59; index = 0 })) (
    refl,
    λ f x. (
      refl,
      λ g y. (peak_same f.value (value_is _ _ f x), λ _ _. tt),
    ),
  )

  pub peaks_same : found_all peak_rules (peak_answer u k e) k e ≡ found_all peak_rules (peak_answer v k e) k e
  peaks_same = both_same (both_same x001_59 refl) refl
