use Rattle.std.proofs.Common.{◌∙◌, ◌+◌, ◌≤◌, ap, subst}
use Rattle.rule_history.specs.Answered.{tables_of}
use Rattle.rule_history.specs.History.{Snapshot}
use Rattle.follow_engine.specs.Deltas.{delta_value}
use Rattle.follow_engine.proofs.Lasts.{changes_then, decodes_then, matches_then, numbers_then, stands_then, tests_then}
use Rattle.follow_engine.proofs.engine.Engine.apply.Goals as goal

pub returns-in_err-feeds-clause-most_decoded : goal.returns-in_err-feeds-clause-most_decoded
returns-in_err-feeds-clause-most_decoded g c = λ t h m.
    let s : Snapshot = record { feed = c.args.feed; moment = c.args.moment; bytes = c.args.kept } in
    subst (λ m. c.follow.new.decodes ≤ c.args.decodes.now + m) (decodes_then (tables_of c.args.self.table) c.args.self.applied s c.args.self.feeds c.stands.ensures c.requires.feed t h m) c.follow.ensures.most_decoded

pub returns-clause-most_decoded : goal.returns-clause-most_decoded
returns-clause-most_decoded g c = λ t h m.
    let s : Snapshot = record { feed = c.args.feed; moment = c.args.moment; bytes = c.args.kept } in
    subst (λ m. c.follow.new.decodes ≤ c.args.decodes.now + m) (decodes_then (tables_of c.args.self.table) c.args.self.applied s c.args.self.feeds c.stands.ensures c.requires.feed t h m) c.follow.ensures.most_decoded

pub returns-in_err-feeds-clause-most_judged : goal.returns-in_err-feeds-clause-most_judged
returns-in_err-feeds-clause-most_judged g c = λ t h m.
    let s : Snapshot = record { feed = c.args.feed; moment = c.args.moment; bytes = c.args.kept } in
    subst (λ m. c.follow.new.tests ≤ c.args.tests.now + m) (tests_then (tables_of c.args.self.table) c.args.self.applied s c.args.self.feeds c.stands.ensures c.requires.feed t h m) c.follow.ensures.most_tested

pub returns-clause-most_judged : goal.returns-clause-most_judged
returns-clause-most_judged g c = λ t h m.
    let s : Snapshot = record { feed = c.args.feed; moment = c.args.moment; bytes = c.args.kept } in
    subst (λ m. c.follow.new.tests ≤ c.args.tests.now + m) (tests_then (tables_of c.args.self.table) c.args.self.applied s c.args.self.feeds c.stands.ensures c.requires.feed t h m) c.follow.ensures.most_tested

pub returns-clause-decoded : goal.returns-clause-decoded
returns-clause-decoded g c = λ t h m.
    let s : Snapshot = record { feed = c.args.feed; moment = c.args.moment; bytes = c.args.kept } in
    c.in_ok-feeds.ensures.decoded ∙ ap (λ m. c.args.decodes.now + m) (decodes_then (tables_of c.args.self.table) c.args.self.applied s c.args.self.feeds c.stands.ensures c.requires.feed t h m)

pub returns-clause-judged : goal.returns-clause-judged
returns-clause-judged g c = λ t h m.
    let s : Snapshot = record { feed = c.args.feed; moment = c.args.moment; bytes = c.args.kept } in
    c.in_ok-feeds.ensures.tested ∙ ap (λ m. c.args.tests.now + m) (tests_then (tables_of c.args.self.table) c.args.self.applied s c.args.self.feeds c.stands.ensures c.requires.feed t h m)

pub returns-clause-stands : goal.returns-clause-stands
returns-clause-stands g c = λ t h m.
    let s : Snapshot = record { feed = c.args.feed; moment = c.args.moment; bytes = c.args.kept } in
    let followed = c.in_ok-feeds.ensures.followed in
    stands_then (tables_of c.args.self.table) c.args.self.applied s c.args.self.feeds c.in_ok-feeds.field-0.feeds followed.was followed.is followed.next t h m

pub returns-clause-changes : goal.returns-clause-changes
returns-clause-changes g c = λ t h m.
    let s : Snapshot = record { feed = c.args.feed; moment = c.args.moment; bytes = c.args.kept } in
    let followed = c.in_ok-feeds.ensures.followed in
    changes_then (tables_of c.args.self.table) c.args.self.applied s c.args.self.feeds c.in_ok-feeds.field-0.feeds followed.was followed.is followed.next t h (delta_value c.in_ok-feeds.field-0.delta) followed.change m

pub returns-clause-matches : goal.returns-clause-matches
returns-clause-matches g c = λ t h m.
    let s : Snapshot = record { feed = c.args.feed; moment = c.args.moment; bytes = c.args.kept } in
    let followed = c.in_ok-feeds.ensures.followed in
    matches_then (tables_of c.args.self.table) c.args.self.applied s c.args.self.feeds c.in_ok-feeds.field-0.feeds followed.was followed.is followed.next t h m

pub returns-clause-numbers : goal.returns-clause-numbers
returns-clause-numbers g c = λ t h m.
    let s : Snapshot = record { feed = c.args.feed; moment = c.args.moment; bytes = c.args.kept } in
    let followed = c.in_ok-feeds.ensures.followed in
    numbers_then (tables_of c.args.self.table) c.args.self.applied s c.args.self.feeds c.in_ok-feeds.field-0.feeds followed.was followed.is followed.next t h m
