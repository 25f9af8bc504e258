use Rattle.std.proofs.Common.{◌-◌, sym, subst}
use Rattle.rule_history.specs.Answered.{tables_of}
use Rattle.exchanged_timetables.specs.Exchange.{IsExchanged}
use Rattle.exchanged_timetables.specs.Touched.{CanExchange}
use Rattle.exchanged_timetables.specs.cached_laws.State.{State, feed_of}
use Rattle.exchanged_timetables.specs.held_feeds.States.{state_of}
use Rattle.follow_engine.specs.Deltas.{all_closed, all_opened}
use Rattle.follow_engine.proofs.Held.{same_entities}
use Rattle.follow_engine.proofs.retabling.turn.Goals as goal

pub retable-requires : goal.retable-requires
retable-requires g c = subst (λ (x : State). CanExchange (tables_of c.args.judging.now.table.now) c.args.touched.now x) (sym c.feeds.view_is) c.requires

pub returns-clause-exchanged : goal.returns-clause-exchanged
returns-clause-exchanged g c =
    subst (λ (x : State). IsExchanged (tables_of c.args.judging.now.table.now) (c.args.judging.now.applied - 1) x (state_of c.retable.new.held) (all_opened c.in_ok-retabled.retabled.opened) (all_closed c.in_ok-retabled.retabled.closed))
    c.feeds.view_is c.in_ok-retabled.ensures.exchanged

pub invariant_of-result : goal.invariant_of-result
invariant_of-result g c =
    let exchanged = c.in_ok-retabled.ensures.exchanged in
    record {
      is_state = exchanged.is;
      rows_are = same_entities (feed_of (state_of c.feeds.inside.held)) (feed_of (state_of c.retable.new.held)) exchanged.exchange.last c.feeds.inside.rows c.feeds.invariant.rows_are;
    }
