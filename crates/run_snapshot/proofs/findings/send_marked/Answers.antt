use Rattle.std.proofs.Common.{◌≡◌, ◌∙◌, ◌++◌, ◌+◌, List, ap, arith, drop, sym, subst}
use Rattle.feed_values.specs.Views.{entity_value, feed_header_value}
use Rattle.rule_history.specs.Answered.{tables_of}
use Rattle.rule_table.specs.Found.{Found}
use Rattle.rule_table.specs.Marked.{marked}
use Rattle.run_snapshot.proofs.Marks.{marked_from}
use Rattle.snapshot_keys.specs.judging.Judged.{first_answer}
use Rattle.run_snapshot.specs.Sending.{Sends, SendsPart}
use Rattle.run_snapshot.proofs.Sent.{Left, left_next, left_part, left_cut, at_err}
use Rattle.run_snapshot.proofs.findings.send_marked.Goals as goal

-- the finding of a mark couldn't be made
pub returns-in_err-found-clause-part : goal.returns-in_err-found-clause-part
returns-in_err-found-clause-part g c =
    let answer = first_answer (tables_of c.args.setting.now.table.now) (g.P.PairView.rows c.args.setting.now.view.now) (feed_header_value c.args.setting.now.header.now) c.args.setting.now.moment c.args.key.now (entity_value c.args.entity.now) in
    let all : List Found = marked answer c.args.key.now c.args.marks.now in
    at_err c.from_residual.result
    (left_part (g.S.Sink.state c.args.out.now).written c.args.lines.now all (g.S.Sink.state c.loop-mark.out).written c.loop-mark.lines _ c.loop-mark.invariant.left)

-- or not be sent
pub returns-in_err-send-clause-part : goal.returns-in_err-send-clause-part
returns-in_err-send-clause-part g c =
    let answer = first_answer (tables_of c.args.setting.now.table.now) (g.P.PairView.rows c.args.setting.now.view.now) (feed_header_value c.args.setting.now.header.now) c.args.setting.now.moment c.args.key.now (entity_value c.args.entity.now) in
    let k = c.args.key.now in
    let all : List Found = marked answer k c.args.marks.now in
    let ys : List Found = marked answer k (drop (c.loop-mark.mark-index + 1) c.args.marks.now) in
    let before = (g.S.Sink.state c.args.out.now).written in
    let mid = (g.S.Sink.state c.loop-mark.out).written in
    let now = (g.S.Sink.state c.send.new.out).written in
    let next : marked answer k (drop c.loop-mark.mark-index c.args.marks.now) ≡ c.in_ok-found.found ++ ys =
    marked_from answer k c.args.marks.now c.loop-mark.mark-index _ c.loop-mark-test.true ∙ ap (λ xs. xs ++ ys) (sym c.in_ok-found.ensures) in
    at_err c.from_residual-in_err-send.result
    (left_cut before c.args.lines.now all mid now c.loop-mark.lines c.in_ok-found.found ys
    (subst (Left before c.args.lines.now all mid c.loop-mark.lines) next c.loop-mark.invariant.left)
    (subst (SendsPart mid now c.loop-mark.lines) c.as_slice.ensures c.in_err-send.ensures.part))

-- the finding of one mark more
pub loop-mark-preserved : goal.loop-mark-preserved
loop-mark-preserved g c =
    let answer = first_answer (tables_of c.args.setting.now.table.now) (g.P.PairView.rows c.args.setting.now.view.now) (feed_header_value c.args.setting.now.header.now) c.args.setting.now.moment c.args.key.now (entity_value c.args.entity.now) in
    let k = c.args.key.now in
    let all : List Found = marked answer k c.args.marks.now in
    let ys : List Found = marked answer k (drop (c.loop-mark.mark-index + 1) c.args.marks.now) in
    let before = (g.S.Sink.state c.args.out.now).written in
    let mid = (g.S.Sink.state c.loop-mark.out).written in
    let now = (g.S.Sink.state c.send.new.out).written in
    let next : marked answer k (drop c.loop-mark.mark-index c.args.marks.now) ≡ c.in_ok-found.found ++ ys =
    marked_from answer k c.args.marks.now c.loop-mark.mark-index _ c.loop-mark-test.true ∙ ap (λ xs. xs ++ ys) (sym c.in_ok-found.ensures) in
    record {
      left = left_next before c.args.lines.now all mid now c.loop-mark.lines c.send.new.lines c.in_ok-found.found ys
          (subst (Left before c.args.lines.now all mid c.loop-mark.lines) next c.loop-mark.invariant.left)
          (subst (Sends mid now c.loop-mark.lines c.send.new.lines) c.as_slice.ensures c.in_ok-send.ensures.sent);
      later = omega (arith, c.loop-mark.invariant.later, c.in_ok-send.ensures.later);
    }
