use Rattle.std.proofs.Common.{◌++◌, ◌∙◌, List, ap, refl}
use Rattle.std.specs.List.{flat_map}
use Rattle.rule_history.specs.Standing.{Standing}
use Rattle.held_feeds.specs.States.{HandedFeed}
use Rattle.held_feeds.specs.Left.{feed_lists, flat}
use Rattle.held_feeds.proofs.Handing.{all_findings}
use Rattle.held_feeds.proofs.findings.FindingsIter.new.Goals as goal

pub returns : goal.returns
returns c =
    ap (λ (xs : List Standing). xs ++ flat (flat_map feed_lists c.new-2.result)) c.new.ensures
    ∙ ap (λ (fs : List HandedFeed). flat (flat_map feed_lists fs)) (c.new-2.ensures 256 refl)
    ∙ all_findings c.args.feeds.now 256 refl
