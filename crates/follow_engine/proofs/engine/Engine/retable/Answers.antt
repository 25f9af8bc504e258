use Rattle.rule_history.specs.Answered.{tables_of}
use Rattle.follow_engine.specs.Deltas.{all_closed, all_opened}
use Rattle.follow_engine.proofs.Lasts.{retabled_then}
use Rattle.follow_engine.proofs.engine.Engine.retable.Goals as goal

pub turn-requires : goal.turn-requires
turn-requires g c = record {
  before = tables_of c.args.self.table;
  is_state = c.stands.ensures;
  cached = c.args.self.cached;
  named = c.requires.named;
  others = c.requires.others;
}

pub returns-clause-matches : goal.returns-clause-matches
returns-clause-matches g c = λ t h m.
    (retabled_then (tables_of c.args.self.table) (tables_of c.args.table) c.args.self.applied c.args.self.feeds c.in_ok-feeds.field-0.feeds (all_opened c.in_ok-feeds.field-0.retabled.opened) (all_closed c.in_ok-feeds.field-0.retabled.closed)
    c.in_ok-feeds.ensures.exchanged t h m).matches

pub returns-clause-numbers : goal.returns-clause-numbers
returns-clause-numbers g c = λ t h m.
    (retabled_then (tables_of c.args.self.table) (tables_of c.args.table) c.args.self.applied c.args.self.feeds c.in_ok-feeds.field-0.feeds (all_opened c.in_ok-feeds.field-0.retabled.opened) (all_closed c.in_ok-feeds.field-0.retabled.closed)
    c.in_ok-feeds.ensures.exchanged t h m).numbers

pub returns-clause-changes : goal.returns-clause-changes
returns-clause-changes g c = λ t h m.
    (retabled_then (tables_of c.args.self.table) (tables_of c.args.table) c.args.self.applied c.args.self.feeds c.in_ok-feeds.field-0.feeds (all_opened c.in_ok-feeds.field-0.retabled.opened) (all_closed c.in_ok-feeds.field-0.retabled.closed)
    c.in_ok-feeds.ensures.exchanged t h m).changes
