use Rattle.std.proofs.Common.{◌++◌, List, false, ap, subst, ◌∙◌}
use Rattle.std.specs.Io.KnownBytes.{append_known}
use Rattle.std.specs.List.{flat_map}
use Rattle.feed_values.specs.Snapshot.{entities_of, header_of}
use Rattle.rt_outside.specs.Sink.{AppendsPrefix}
use Rattle.rt_outside.proofs.Appends.{AppendsPrefix-whole}
use Rattle.rule_history.specs.Answered.{tables_of}
use Rattle.rule_table.specs.Found.{Found}
use Rattle.snapshot_keys.specs.judging.Judged.{snapshot_found}
use Rattle.rt_report.specs.FindingLines.{finding_text}
use Rattle.run_snapshot.proofs.Sent.{sends_all, sends_last}
use Rattle.run_snapshot.proofs.findings.put_findings.Goals as goal

-- what was held back at the end couldn't be written
pub returns-in_err-put_all-clause-text : goal.returns-in_err-put_all-clause-text
returns-in_err-put_all-clause-text g c =
    let found : List Found = snapshot_found (tables_of c.args.timetable.now) 0 c.args.moment (header_of c.args.kept.now) (entities_of c.args.kept.now) in
    let mid = (g.S.Sink.state c.send_snapshot.new.out).written in
    let new = (g.S.Sink.state c.put_all.new.sink).written in
    sends_last (g.S.Sink.state c.args.out.now).written mid (record { text = c.args.first; error = false }) c.send_snapshot.new.lines found c.in_ok-send_snapshot.ensures.sent new
    (subst (AppendsPrefix mid new) c.deref.ensures.value c.in_err-put_all.ensures.err)

pub returns-clause-text : goal.returns-clause-text
returns-clause-text g c =
    let found : List Found = snapshot_found (tables_of c.args.timetable.now) 0 c.args.moment (header_of c.args.kept.now) (entities_of c.args.kept.now) in
    let mid = (g.S.Sink.state c.send_snapshot.new.out).written in
    let new = (g.S.Sink.state c.put_all.new.sink).written in
    AppendsPrefix-whole (g.S.Sink.state c.args.out.now).written new (c.args.first.items ++ flat_map finding_text found)
    (sends_all (g.S.Sink.state c.args.out.now).written mid (record { text = c.args.first; error = false }) c.send_snapshot.new.lines found c.in_ok-send_snapshot.ensures.sent new
    (c.in_ok-put_all.ensures.ok ∙ ap (append_known mid) c.deref.ensures.value))

pub returns-clause-whole : goal.returns-clause-whole
returns-clause-whole g c =
    let found : List Found = snapshot_found (tables_of c.args.timetable.now) 0 c.args.moment (header_of c.args.kept.now) (entities_of c.args.kept.now) in
    let mid = (g.S.Sink.state c.send_snapshot.new.out).written in
    let new = (g.S.Sink.state c.put_all.new.sink).written in (
      c.in_ok-send_snapshot.ensures.sent.error,
      sends_all (g.S.Sink.state c.args.out.now).written mid (record { text = c.args.first; error = false }) c.send_snapshot.new.lines found c.in_ok-send_snapshot.ensures.sent new
          (c.in_ok-put_all.ensures.ok ∙ ap (append_known mid) c.deref.ensures.value),
    )
