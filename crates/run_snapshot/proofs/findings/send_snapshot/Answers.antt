use Rattle.std.proofs.Common.{◌≡◌, ◌∙◌, ap, arith, sym, subst}
use Rattle.feed_values.specs.Snapshot.{entities_of, header_of}
use Rattle.feed_values.specs.Views.{feed_header_value}
use Rattle.rule_history.specs.Answered.{Heads, tables_of}
use Rattle.snapshot_keys.specs.judging.Seats.{seats}
use Rattle.snapshot_keys.specs.judging.Whole.{header_found, rows_alone}
use Rattle.snapshot_keys.specs.judging.Judged.{first_heads, seat_rows, found_at_seats, snapshot_found}
use Rattle.snapshot_keys.specs.Places.{placed}
use Rattle.rt_report.specs.FindingLines.{AddsLines}
use Rattle.run_snapshot.specs.Sending.{Sends, SendsPart}
use Rattle.run_snapshot.proofs.Sent.{sends_behind, part_behind, more_ok, more_err, none_sent}
use Rattle.run_snapshot.proofs.Reports.{as_many_places}
use Rattle.run_snapshot.proofs.findings.send_snapshot.Goals as goal

-- the header's findings are held back, and those of the entities are sent
pub returns-clause-sent : goal.returns-clause-sent
returns-clause-sent g c =
    let t = tables_of c.args.timetable.now in
    let said : feed_header_value c.in_ok-header.header ≡ header_of c.args.kept.now = c.in_ok-header.ensures.value ∙ c.header_parts.ensures.header in
    let heads : Heads = first_heads (header_of c.args.kept.now) c.args.moment in
    let es = seats 0 (entities_of c.args.kept.now) in
    let before = (g.S.Sink.state c.args.out.now).written in
    let new = (g.S.Sink.state c.send_entities.new.out).written in
    more_ok c.send_entities.result
    (λ sent. sends_behind before new c.args.lines.now c.judge_header.new.lines (header_found t (rows_alone (seat_rows es)) heads 0) (found_at_seats t (seat_rows es) heads es)
    (subst (λ h. AddsLines c.args.lines.now c.judge_header.new.lines (header_found t (rows_alone (seat_rows es)) (first_heads h c.args.moment) 0)) said (c.in_ok-judge_header.ensures.added t (rows_alone (seat_rows es)))) c.send_entities.new.lines
    (subst (Sends before new c.judge_header.new.lines c.send_entities.new.lines)
    (ap (λ rows. found_at_seats t rows (first_heads (feed_header_value c.in_ok-header.header) c.args.moment) (placed c.args.kept.now c.as_slice-listed.result.now)) c.in_ok-rows.ensures
    ∙ ap (λ s. found_at_seats t (seat_rows s) (first_heads (feed_header_value c.in_ok-header.header) c.args.moment) s) (ap (placed c.args.kept.now) c.as_slice-listed.ensures.value ∙ c.in_ok-places.ensures.seats_are)
    ∙ ap (λ h. found_at_seats t (seat_rows es) (first_heads h c.args.moment) es) said) sent))
    c.send_entities.ensures.sent

pub returns-clause-part : goal.returns-clause-part
returns-clause-part g c =
    let t = tables_of c.args.timetable.now in
    let said : feed_header_value c.in_ok-header.header ≡ header_of c.args.kept.now = c.in_ok-header.ensures.value ∙ c.header_parts.ensures.header in
    let heads : Heads = first_heads (header_of c.args.kept.now) c.args.moment in
    let es = seats 0 (entities_of c.args.kept.now) in
    let before = (g.S.Sink.state c.args.out.now).written in
    let new = (g.S.Sink.state c.send_entities.new.out).written in
    more_err c.send_entities.result
    (λ part. part_behind before new c.args.lines.now c.judge_header.new.lines (header_found t (rows_alone (seat_rows es)) heads 0) (found_at_seats t (seat_rows es) heads es)
    (subst (λ h. AddsLines c.args.lines.now c.judge_header.new.lines (header_found t (rows_alone (seat_rows es)) (first_heads h c.args.moment) 0)) said (c.in_ok-judge_header.ensures.added t (rows_alone (seat_rows es))))
    (subst (SendsPart before new c.judge_header.new.lines)
    (ap (λ rows. found_at_seats t rows (first_heads (feed_header_value c.in_ok-header.header) c.args.moment) (placed c.args.kept.now c.as_slice-listed.result.now)) c.in_ok-rows.ensures
    ∙ ap (λ s. found_at_seats t (seat_rows s) (first_heads (feed_header_value c.in_ok-header.header) c.args.moment) s) (ap (placed c.args.kept.now) c.as_slice-listed.ensures.value ∙ c.in_ok-places.ensures.seats_are)
    ∙ ap (λ h. found_at_seats t (seat_rows es) (first_heads h c.args.moment) es) said) part))
    c.send_entities.ensures.part

-- nothing was sent where keys find no memory, or the header's findings
pub returns-in_err-places-clause-part : goal.returns-in_err-places-clause-part
returns-in_err-places-clause-part g c =
    none_sent c.from_residual-in_err-places.result (g.S.Sink.state c.args.out.now).written c.args.lines.now
    (snapshot_found (tables_of c.args.timetable.now) 0 c.args.moment (header_of c.args.kept.now) (entities_of c.args.kept.now))

pub returns-in_err-rows-clause-part : goal.returns-in_err-rows-clause-part
returns-in_err-rows-clause-part g c =
    none_sent c.from_residual-in_err-rows.result (g.S.Sink.state c.args.out.now).written c.args.lines.now
    (snapshot_found (tables_of c.args.timetable.now) 0 c.args.moment (header_of c.args.kept.now) (entities_of c.args.kept.now))

pub returns-in_err-judge_header-clause-part : goal.returns-in_err-judge_header-clause-part
returns-in_err-judge_header-clause-part g c =
    none_sent c.from_residual-in_err-judge_header.result (g.S.Sink.state c.args.out.now).written c.args.lines.now
    (snapshot_found (tables_of c.args.timetable.now) 0 c.args.moment (header_of c.args.kept.now) (entities_of c.args.kept.now))

-- ---- as many entities are decoded and tested as the snapshot has
pub returns-in_err-judge_header-clause-most : goal.returns-in_err-judge_header-clause-most
returns-in_err-judge_header-clause-most g c = record { decodes = omega arith; tests = omega (arith, c.in_err-judge_header.ensures.most) }

pub returns-clause-counted : goal.returns-clause-counted
returns-clause-counted g c =
    let many = as_many_places c.args.kept.now c.as_slice-listed.result.now (ap (placed c.args.kept.now) c.as_slice-listed.ensures.value ∙ c.in_ok-places.ensures.seats_are) in
    more_ok c.send_entities.result
    (λ by. record { decodes = omega (arith, many, by.decodes); tests = omega (arith, many, c.in_ok-judge_header.ensures.ticked, by.tests) })
    c.send_entities.ensures.counted

pub returns-clause-most : goal.returns-clause-most
returns-clause-most g c =
    let many = as_many_places c.args.kept.now c.as_slice-listed.result.now (ap (placed c.args.kept.now) c.as_slice-listed.ensures.value ∙ c.in_ok-places.ensures.seats_are) in
    record {
      decodes = omega (arith, many, c.send_entities.ensures.most.decodes);
      tests = omega (arith, many, c.in_ok-judge_header.ensures.ticked, c.send_entities.ensures.most.tests);
    }
