use Rattle.std.proofs.Common.{◌∙◌, ◌-◌, ◌∷◌, ap, sym}
use Rattle.cached_laws.specs.State.{State}
use Rattle.held_feeds.specs.States.{handed_feed}
use Rattle.held_feeds.specs.Left.{last_feeds}
use Rattle.held_feeds.proofs.Handing.{less_left, none_left, one_left}
use Rattle.held_feeds.proofs.feeds.FeedsIterIterator.next.Goals as goal

pub returns-then-self-eq0-clause-steps : goal.returns-then-self-eq0-clause-steps
returns-then-self-eq0-clause-steps c =
    let none = sym c.self.view_is ∙ none_left c.self.inside.feeds.now c.self.inside.left c.if-self-eq0.true in
    (none, none)

pub returns-clause-steps : goal.returns-clause-steps
returns-clause-steps c =
    let state = c.self.inside.feeds.now in
    let left = c.self.inside.left in
    sym c.self.view_is ∙ one_left state left c.if-self-eq0.false ∙ ap (λ (x : State). handed_feed x (256 - left) ∷ last_feeds state (left - 1)) (sym c.feeds.view_is)

pub returns-clause-goes : goal.returns-clause-goes
returns-clause-goes c =
    let state = c.self.inside.feeds.now in
    let left = c.self.inside.left in
    record {
      on = λ f. (tt, tt, less_left c.args.self.now (last_feeds state (left - 1)) (handed_feed state (256 - left)) (sym c.self.view_is ∙ one_left state left c.if-self-eq0.false));
      keeps = tt;
      rests = λ f. tt;
    }
