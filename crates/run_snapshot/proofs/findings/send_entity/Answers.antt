use Rattle.std.proofs.Common.{◌≡◌, ◌∙◌, List, ap, arith, sym, subst}
use Rattle.feed_values.specs.Snapshot.{entity_of, entity_payloads}
use Rattle.feed_values.specs.Views.{entity_value, feed_header_value}
use Rattle.rule_history.specs.Answered.{Heads, tables_of}
use Rattle.rule_table.specs.Found.{Found}
use Rattle.rule_table.specs.Marked.{marked}
use Rattle.snapshot_keys.specs.judging.Judged.{first_answer, first_heads}
use Rattle.snapshot_keys.specs.judging.Ruled.{entity_count}
use Rattle.snapshot_keys.specs.judging.Whole.{entity_found, rows_alone}
use Rattle.snapshot_keys.specs.Places.{entity_at}
use Rattle.snapshot_keys.proofs.OneMore.{read_payload}
use Rattle.run_snapshot.specs.Sending.{Sends, SendsPart}
use Rattle.run_snapshot.proofs.Sent.{at_err, left_all, left_part, more_ok, more_err}
use Rattle.run_snapshot.proofs.findings.send_entity.Goals as goal

-- the entity couldn't be decoded
pub returns-in_err-entity-clause-part : goal.returns-in_err-entity-clause-part
returns-in_err-entity-clause-part g c =
    let t = tables_of c.args.setting.now.table.now in
    let rows = g.P.PairView.rows c.args.setting.now.view.now in
    let heads : Heads = first_heads (feed_header_value c.args.setting.now.header.now) c.args.setting.now.moment in
    let found : List Found = entity_found t (rows_alone rows) heads c.args.key.now (entity_at c.args.kept.now c.args.place) in
    let before = (g.S.Sink.state c.args.out.now).written in
    at_err c.from_residual.result (left_part before c.args.lines.now found before c.args.lines.now found (left_all before c.args.lines.now found))

-- or not be judged
pub returns-in_err-marks-clause-part : goal.returns-in_err-marks-clause-part
returns-in_err-marks-clause-part g c =
    let t = tables_of c.args.setting.now.table.now in
    let rows = g.P.PairView.rows c.args.setting.now.view.now in
    let heads : Heads = first_heads (feed_header_value c.args.setting.now.header.now) c.args.setting.now.moment in
    let found : List Found = entity_found t (rows_alone rows) heads c.args.key.now (entity_at c.args.kept.now c.args.place) in
    let before = (g.S.Sink.state c.args.out.now).written in
    at_err c.from_residual-in_err-marks.result (left_part before c.args.lines.now found before c.args.lines.now found (left_all before c.args.lines.now found))

-- what its marks mean are the findings at the entity
pub returns-clause-sent : goal.returns-clause-sent
returns-clause-sent g c =
    let t = tables_of c.args.setting.now.table.now in
    let rows = g.P.PairView.rows c.args.setting.now.view.now in
    let heads : Heads = first_heads (feed_header_value c.args.setting.now.header.now) c.args.setting.now.moment in
    let before = (g.S.Sink.state c.args.out.now).written in
    let now = (g.S.Sink.state c.send_marked.new.out).written in
    let answer = first_answer t rows (feed_header_value c.args.setting.now.header.now) c.args.setting.now.moment c.args.key.now (entity_value c.in_ok-entity.entity) in
    let said : entity_value c.in_ok-entity.entity ≡ entity_at c.args.kept.now c.args.place =
    c.in_ok-entity.ensures.value ∙ ap entity_of (sym (read_payload (entity_payloads c.args.kept.now) c.args.place c.entity.result.now c.entity.ensures.payload)) in
    let same = ap (marked answer c.args.key.now) c.deref.ensures.value ∙ c.in_ok-marks.ensures.marked ∙ ap (entity_found t (rows_alone rows) heads c.args.key.now) said in
    more_ok c.send_marked.result (subst (Sends before now c.args.lines.now c.send_marked.new.lines) same) c.send_marked.ensures.sent

pub returns-clause-part : goal.returns-clause-part
returns-clause-part g c =
    let t = tables_of c.args.setting.now.table.now in
    let rows = g.P.PairView.rows c.args.setting.now.view.now in
    let heads : Heads = first_heads (feed_header_value c.args.setting.now.header.now) c.args.setting.now.moment in
    let before = (g.S.Sink.state c.args.out.now).written in
    let now = (g.S.Sink.state c.send_marked.new.out).written in
    let answer = first_answer t rows (feed_header_value c.args.setting.now.header.now) c.args.setting.now.moment c.args.key.now (entity_value c.in_ok-entity.entity) in
    let said : entity_value c.in_ok-entity.entity ≡ entity_at c.args.kept.now c.args.place =
    c.in_ok-entity.ensures.value ∙ ap entity_of (sym (read_payload (entity_payloads c.args.kept.now) c.args.place c.entity.result.now c.entity.ensures.payload)) in
    let same = ap (marked answer c.args.key.now) c.deref.ensures.value ∙ c.in_ok-marks.ensures.marked ∙ ap (entity_found t (rows_alone rows) heads c.args.key.now) said in
    more_err c.send_marked.result (subst (SendsPart before now c.args.lines.now) same) c.send_marked.ensures.part

-- ---- an entity is decoded, and its rules are tested
pub returns-in_err-entity-clause-most : goal.returns-in_err-entity-clause-most
returns-in_err-entity-clause-most g c = record { decodes = omega (arith, c.decode_entity.ensures.step); tests = omega arith }

pub returns-in_err-marks-clause-most : goal.returns-in_err-marks-clause-most
returns-in_err-marks-clause-most g c = record { decodes = omega (arith, c.decode_entity.ensures.step); tests = omega (arith, entity_count, c.in_err-marks.ensures.most) }

pub returns-clause-counted : goal.returns-clause-counted
returns-clause-counted g c = more_ok c.send_marked.result (λ sent. record { decodes = omega (arith, c.decode_entity.ensures.step); tests = omega (arith, entity_count, c.in_ok-marks.ensures.ticked) }) c.send_marked.ensures.sent

pub returns-clause-most : goal.returns-clause-most
returns-clause-most g c = record { decodes = omega (arith, c.decode_entity.ensures.step); tests = omega (arith, entity_count, c.in_ok-marks.ensures.ticked) }
