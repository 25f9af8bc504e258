use Rattle.std.proofs.lemmas.Grind.{common_steps}
use Rattle.std.proofs.Common.{ap, ◌∙◌, sym, subst, arith, ◌∷◌, ◌++◌, [], List, unwrap_or}
use Rattle.rule_table.specs.Found.{Found}
use Rattle.engine_laws.specs.Order.{found_cmp, Rises}
use Rattle.standing_walks.specs.Walked.{IsInOrder}
use Rattle.standing_walks.proofs.Walked.{left_rises, renew_step, renewed_rises}
use Rattle.standing_walks.proofs.walking.renew.Goals as goal

pub loop-finding-preserved : goal.loop-finding-preserved
loop-finding-preserved c =
    let i = c.loop-finding.invariant in
    record {
      renewed_is = renew_step c.args.applied c.args.old.now c.loop-finding.at c.meet-met.result.next c.in-Some.finding c.next.new.self.rest.items c.loop-finding.finding-iterator.rest.items c.loop-finding.list.items c.push.new.self.items _ _ c.unwrap_or-since.result
          i.found_rises i.old_rises c.in-Some.ensures.steps.0 c.meet-met.ensures.met c.meet-met.ensures.after (c.unwrap_or-since.ensures ∙ ap (λ o. unwrap_or o c.args.applied) c.since_of.ensures) (c.in_ok-push.ensures.items ∙ ap (λ x. c.loop-finding.list.items ++ x ∷ []) c.in_ok-new.ensures) i.renewed_is;
      old_rises = left_rises c.args.old.now c.loop-finding.at c.meet-met.result.next c.in-Some.finding i.old_rises c.meet-met.ensures.after;
      found_rises = (subst (λ (xs : List Found). Rises found_cmp xs) c.in-Some.ensures.steps.0 i.found_rises).1;
      within = c.meet-met.ensures.within;
    }

pub returns-clause-list : goal.returns-clause-list
returns-clause-list c = grind (arith, common_steps)

pub returns-clause-ordered : goal.returns-clause-ordered
returns-clause-ordered c = subst IsInOrder (sym (returns-clause-list c)) (renewed_rises c.args.old.now c.args.applied c.args.found c.requires.found)
