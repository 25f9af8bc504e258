use Rattle.std.proofs.Common.{◌≡◌, sym, ap, ◌∙◌, not, is_some, option_copied, drop, ◌++◌, ◌∷◌, [], true, false, arith}
use Rattle.std.proofs.lemmas.List.{map-append}
use Rattle.standing_walks.specs.Changes.{all_closed, closed_value}
use Rattle.standing_walks.specs.Walked.{met, after}
use Rattle.standing_walks.proofs.Walked.{close_step, left_rises, rest_rises, copied_some}
use Rattle.standing_walks.proofs.walking.put_closed.Goals as goal
use Rattle.standing_walks.proofs.walking.put_closed.Goals.{then-is_none+in_ok-to_closed+in_ok-push, else-is_none}

pub loop-standing-preserved : goal.loop-standing-preserved
loop-standing-preserved c =
    let i = c.loop-standing.invariant in
    let x = c.standing-item.result in
    let left = drop c.loop-standing.at c.args.now.now in
    let here : option_copied c.meet-met.result.standing ≡ met x.finding left = c.meet-met.ensures.met ∙ ap (λ f. met f left) c.finding.ensures in
    let rest : drop c.meet-met.result.next c.args.now.now ≡ after x.finding left = c.meet-met.ensures.after ∙ ap (λ f. after f left) c.finding.ensures in
    record {
      closed_is = elim c.if-is_none.branch [
        | then-is_none+in_ok-to_closed+in_ok-push w ↦
            close_step c.args.now.now c.loop-standing.at c.meet-met.result.next c.args.before.now c.loop-standing.standing-index x (omega arith) c.standing-item.is (all_closed c.loop-standing.out) (all_closed c.if-is_none.out) _ false
            i.before_rises i.now_rises rest (sym (c.is_none.ensures ∙ ap not w.if-is_none.true) ∙ copied_some c.meet-met.result.standing ∙ ap is_some here)
            (ap all_closed (w.out-is ∙ w.in_ok-push.ensures.ok) ∙ map-append closed_value c.loop-standing.out (w.in_ok-to_closed.field-0 ∷ []) ∙ ap (λ y. all_closed c.loop-standing.out ++ y ∷ []) w.in_ok-to_closed.ensures) i.closed_is
        | else-is_none w ↦
            close_step c.args.now.now c.loop-standing.at c.meet-met.result.next c.args.before.now c.loop-standing.standing-index x (omega arith) c.standing-item.is (all_closed c.loop-standing.out) (all_closed c.if-is_none.out) _ true
            i.before_rises i.now_rises rest (sym (c.is_none.ensures ∙ ap not w.if-is_none.false) ∙ copied_some c.meet-met.result.standing ∙ ap is_some here)
            (ap all_closed w.out-is) i.closed_is
      ];
      before_rises = rest_rises c.args.before.now c.loop-standing.standing-index c.standing-item.result (omega arith) c.standing-item.is i.before_rises;
      now_rises = left_rises c.args.now.now c.loop-standing.at c.meet-met.result.next c.finding.result.now i.now_rises c.meet-met.ensures.after;
      within = c.meet-met.ensures.within;
    }
