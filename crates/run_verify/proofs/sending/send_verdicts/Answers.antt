use Rattle.std.proofs.Common.{◌+◌, sym, subst, arith}
use Rattle.run_verify.specs.Lines.{lines_in}
use Rattle.run_verify.proofs.SentLemmas.{Left, at_err, few_lines, left_cut, left_next, left_small}
use Rattle.run_verify.proofs.sending.send_verdicts.Goals as goal

pub send_line-requires : goal.send_line-requires
send_line-requires g c = left_small _ _ _ _ _ _ _ _ (few_lines c.args.lines.now c.requires) c.loop-rest.invariant.left

pub returns-in_err-counts-clause-part : goal.returns-in_err-counts-clause-part
returns-in_err-counts-clause-part g c =
    at_err c.from_residual.result
    (left_cut (g.S.Sink.state c.args.out.now).written c.args.text.now.items (lines_in c.args.lines.now) (g.S.Sink.state c.loop-rest.out).written (g.S.Sink.state c.send_line.new.out).written c.loop-rest.text.items c.loop-rest.number c.loop-rest.counts
    c.cut_line.result.0.now (lines_in c.cut_line.result.1.now)
    (subst (Left (g.S.Sink.state c.args.out.now).written c.args.text.now.items (lines_in c.args.lines.now) (g.S.Sink.state c.loop-rest.out).written c.loop-rest.text.items c.loop-rest.number c.loop-rest.counts) c.cut_line.ensures.lines c.loop-rest.invariant.left)
    c.in_err-counts.ensures.part)

pub loop-rest-preserved : goal.loop-rest-preserved
loop-rest-preserved g c = record {
  left = subst (λ counts. Left (g.S.Sink.state c.args.out.now).written c.args.text.now.items (lines_in c.args.lines.now) (g.S.Sink.state c.send_line.new.out).written c.send_line.new.text.items (c.loop-rest.number + 1) counts (lines_in c.cut_line.result.1.now))
      (sym c.in_ok-counts.ensures.counts)
      (left_next (g.S.Sink.state c.args.out.now).written c.args.text.now.items (lines_in c.args.lines.now) (g.S.Sink.state c.loop-rest.out).written (g.S.Sink.state c.send_line.new.out).written c.loop-rest.text.items c.send_line.new.text.items c.loop-rest.number
      c.loop-rest.counts c.cut_line.result.0.now (lines_in c.cut_line.result.1.now)
      (subst (Left (g.S.Sink.state c.args.out.now).written c.args.text.now.items (lines_in c.args.lines.now) (g.S.Sink.state c.loop-rest.out).written c.loop-rest.text.items c.loop-rest.number c.loop-rest.counts) c.cut_line.ensures.lines c.loop-rest.invariant.left)
      c.in_ok-counts.ensures.sent);
  number = omega (arith, c.loop-rest.invariant.number, c.cut_line.ensures.shorter);
  later = omega (arith, c.loop-rest.invariant.later, c.in_ok-counts.ensures.later);
}
