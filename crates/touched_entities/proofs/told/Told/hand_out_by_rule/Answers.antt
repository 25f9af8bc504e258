use Rattle.std.proofs.Common.{◌++◌, ap, ◌∙◌, sym, refl}
use Rattle.std.proofs.lemmas.List.{map-append}
use Rattle.rule_table.specs.ByRule.{each_by_rule}
use Rattle.rule_table.specs.Table.{all_rules}
use Rattle.entity_parts.specs.standing_walks.Changes.{all_opened, all_closed, opened_value, closed_value}
use Rattle.entity_parts.specs.standing_walks.Opened.{Opened}
use Rattle.entity_parts.specs.standing_walks.Closed.{Closed}
use Rattle.rule_history.specs.Standing.{Standing, Spot}
use Rattle.entity_parts.specs.part_laws.FourParts.{spots_in_order, standings_in_order}
use Rattle.entity_parts.specs.part_laws.ByRuleProofs.{mapped-ruled}
use Rattle.touched_entities.specs.Told.{Told}
use Rattle.touched_entities.proofs.told.Told.hand_out_by_rule.Goals as goal

pub returns-clause-opens : goal.returns-clause-opens
returns-clause-opens c =
    ap all_opened (c.in_ok-append.ensures ∙ ap (λ xs. c.args.opens.now ++ xs) c.in_ok-findings.ensures)
    ∙ map-append opened_value c.args.opens.now (each_by_rule (λ (x : Opened). x.finding.rule) all_rules c.self.inside.opened)
    ∙ ap (λ xs. all_opened c.args.opens.now ++ xs) (sym (mapped-ruled opened_value (λ x. x.finding.rule) (λ (x : Standing). x.finding.rule) (λ x. refl) all_rules c.self.inside.opened))
    ∙ ap (λ (x : Told). all_opened c.args.opens.now ++ standings_in_order x.opened) c.self.view_is

pub returns-clause-closes : goal.returns-clause-closes
returns-clause-closes c =
    ap all_closed (c.in_ok-append-2.ensures ∙ ap (λ xs. c.args.closes.now ++ xs) c.in_ok-spots.ensures)
    ∙ map-append closed_value c.args.closes.now (each_by_rule (λ (x : Closed). x.rule) all_rules c.self.inside.closed)
    ∙ ap (λ xs. all_closed c.args.closes.now ++ xs) (sym (mapped-ruled closed_value (λ x. x.rule) (λ (x : Spot). x.rule) (λ x. refl) all_rules c.self.inside.closed))
    ∙ ap (λ (x : Told). all_closed c.args.closes.now ++ spots_in_order x.closed) c.self.view_is
