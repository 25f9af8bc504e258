use Rattle.std.proofs.Common.{◌≤◌, drop}
use Rattle.feed_values.specs.Views.{entity_value, feed_header_value}
use Rattle.rule_history.specs.Answered.{tables_of}
use Rattle.rule_table.specs.Marked.{marked}
use Rattle.snapshot_keys.specs.judging.Judged.{first_answer}
use Rattle.run_snapshot.proofs.Sent.{Left}
use Rattle.run_snapshot.proofs.findings.send_marked.Given as goal

-- what was sent, the lines that are held back and those of the marks that are left are all
abbrev pub invariant-loop-mark : goal.invariant-loop-mark
invariant-loop-mark g l =
    let answer = first_answer (tables_of l.setting.table.now) (g.P.PairView.rows l.setting.view.now) (feed_header_value l.setting.header.now) l.setting.moment l.key (entity_value l.entity) in
    record {
      left : Left (g.S.Sink.state l.fn.out).written l.fn.lines (marked answer l.key l.marks)
          (g.S.Sink.state l.out).written l.lines (marked answer l.key (drop l.mark-index l.marks));
      later : (g.S.Sink.state l.fn.out).faults ≤ (g.S.Sink.state l.out).faults;
    }
