use Rattle.std.proofs.Common.{◌≡◌, sym, ap, ◌∙◌, option_copied, drop, ◌++◌, ◌∷◌, [], true, false, arith}
use Rattle.std.proofs.lemmas.List.{map-append}
use Rattle.standing_walks.specs.Changes.{all_opened, opened_value}
use Rattle.standing_walks.specs.Walked.{met, after, was_same}
use Rattle.standing_walks.proofs.Walked.{open_step, left_rises, rest_rises}
use Rattle.standing_walks.proofs.walking.put_opened.Goals as goal
use Rattle.standing_walks.proofs.walking.put_opened.Goals.{then-not-is_same+in_ok-to_opened+in_ok-push, else-not-is_same}

pub loop-standing-preserved : goal.loop-standing-preserved
loop-standing-preserved c =
    let i = c.loop-standing.invariant in
    let x = c.standing-item.result in
    let left = drop c.loop-standing.at c.args.before.now in
    let here : option_copied c.meet-met.result.standing ≡ met x.finding left = c.meet-met.ensures.met ∙ ap (λ f. met f left) c.finding.ensures in
    let rest : drop c.meet-met.result.next c.args.before.now ≡ after x.finding left = c.meet-met.ensures.after ∙ ap (λ f. after f left) c.finding.ensures in
    let same : c.is_same.result ≡ was_same x.finding (met x.finding left) =
    c.is_same.ensures ∙ ap (λ f. was_same f (option_copied c.meet-met.result.standing)) c.finding-in-loop-standing.ensures ∙ ap (was_same x.finding) here in
    record {
      opened_is = elim c.if-not-is_same.branch [
        | then-not-is_same+in_ok-to_opened+in_ok-push w ↦
            let no : c.is_same.result ≡ false = cc in
            open_step c.args.before.now c.loop-standing.at c.meet-met.result.next c.args.now.now c.loop-standing.standing-index x (omega arith) c.standing-item.is (all_opened c.loop-standing.out) (all_opened c.if-not-is_same.out) _ false
            i.now_rises i.before_rises rest (sym no ∙ same)
            (ap all_opened (w.out-is ∙ w.in_ok-push.ensures.ok) ∙ map-append opened_value c.loop-standing.out (w.in_ok-to_opened.field-0 ∷ []) ∙ ap (λ y. all_opened c.loop-standing.out ++ y ∷ []) w.in_ok-to_opened.ensures) i.opened_is
        | else-not-is_same w ↦
            let yes : c.is_same.result ≡ true = cc in
            open_step c.args.before.now c.loop-standing.at c.meet-met.result.next c.args.now.now c.loop-standing.standing-index x (omega arith) c.standing-item.is (all_opened c.loop-standing.out) (all_opened c.if-not-is_same.out) _ true
            i.now_rises i.before_rises rest (sym yes ∙ same)
            (ap all_opened w.out-is) i.opened_is
      ];
      before_rises = left_rises c.args.before.now c.loop-standing.at c.meet-met.result.next c.finding.result.now i.before_rises c.meet-met.ensures.after;
      now_rises = rest_rises c.args.now.now c.loop-standing.standing-index c.standing-item.result (omega arith) c.standing-item.is i.now_rises;
      within = c.meet-met.ensures.within;
    }
