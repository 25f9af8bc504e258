use Rattle.std.proofs.Common.{◌≡◌, ◌∙◌, ◌-◌, ap, subst}
use Rattle.std.specs.Prelude.{ℕ, List}
use Rattle.std.specs.List.{flat_map}
use Rattle.rule_history.specs.Answered.{tables_of}
use Rattle.taken_snapshots.specs.cached_laws.State.{feed_of}
use Rattle.taken_snapshots.specs.cached_laws.PassableProofs.{in_order_held}
use Rattle.taken_snapshots.specs.entity_parts.Found.{local_found}
use Rattle.taken_snapshots.specs.held_feeds.States.{state_of}
use Rattle.taken_snapshots.specs.standing_walks.Changes.{closed_value, opened_value}
use Rattle.taken_snapshots.specs.touched_entities.Again.{IsPassed}
use Rattle.taken_snapshots.specs.touched_entities.Told.{feed_closed, feed_opened}
use Rattle.exchanged_timetables.proofs.Opening.{behind_none, closed_all, opened_all}
use Rattle.exchanged_timetables.proofs.Held.{cached_new}
use Rattle.exchanged_timetables.proofs.Named.{named_there, same_beside}
use Rattle.exchanged_timetables.proofs.Owed.{is_exchange, is_state}
use Rattle.exchanged_timetables.proofs.retabling.retable.Goals as goal

pub judge_again-requires-clause-held : goal.judge_again-requires-clause-held
judge_again-requires-clause-held g c = λ k m. named_there (state_of c.args.held.now) c.requires.is_state c.args.touched.now c.requires.named k m

pub judge_again-requires-clause-ordered : goal.judge_again-requires-clause-ordered
judge_again-requires-clause-ordered g c = λ k. in_order_held c.requires.before c.args.held.now.index (feed_of (state_of c.args.held.now)) c.requires.cached k 0

pub returns-clause-exchanged : goal.returns-clause-exchanged
returns-clause-exchanged g c =
    let t = c.requires.before in
    let u = tables_of c.args.judging.now.table.now in
    let n = c.args.judging.now.applied - 1 in
    let keys = c.args.touched.now in
    let state = state_of c.args.held.now in
    let is = c.requires.is_state in
    let cached = c.requires.cached in
    let beside = same_beside state is t u keys c.requires.others in
    let last = c.judge_again.new.index in
    let before = c.new-tolds.result in
    let after = c.judge_again.new.tolds in
    let passed = subst (λ (m : ℕ). IsPassed 0 m (local_found u) keys c.args.held.now.index last before after) c.saturating_sub.ensures c.in_ok-judge_again.ensures.passed in
    let told = c.in_ok-hand_out.ensures in
    record {
      was = is;
      is = is_state t u n keys state is cached beside last before after passed;
      exchange = is_exchange t u n keys state is cached beside last before after passed;
      cached = cached_new t u n keys state is cached beside last before after passed;
      opens_are = told.opens ∙ behind_none opened_value c.new-opened.result (flat_map feed_opened after) c.new-opened.ensures ∙ opened_all t u n keys state is cached beside last before after passed c.new-tolds.ensures.told c.new-tolds.ensures.own told.ordered;
      closes_are = told.closes ∙ behind_none closed_value c.new-closed.result (flat_map feed_closed after) c.new-closed.ensures ∙ closed_all t u n keys state is cached beside last before after passed c.new-tolds.ensures.told c.new-tolds.ensures.own told.ordered;
    }
