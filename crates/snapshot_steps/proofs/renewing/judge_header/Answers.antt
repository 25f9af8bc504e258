use Rattle.std.proofs.Common.{◌∙◌, ap, [], None}
use Rattle.std.proofs.lemmas.Result.{IfOk-weaker}
use Rattle.rule_table.specs.Answers.{Gathered}
use Rattle.rule_table.specs.Peaks.{no_peaks}
use Rattle.std.specs.Prelude.{option_map}
use Rattle.feed_values.specs.Views.{feed_header_value}
use Rattle.held_feeds.specs.judging.Whole as whole
use Rattle.held_feeds.specs.cached_laws.State.{feed_of, header_at}
use Rattle.held_feeds.specs.States.{state_of}
use Rattle.snapshot_steps.specs.Taken.{snapshot_of}
use Rattle.snapshot_steps.proofs.Headed.{differ_is, head_is, previous_is}
use Rattle.snapshot_steps.proofs.renewing.judge_header.Goals as goal

no_gathered : Gathered
no_gathered = record { rows = []; peaks = no_peaks }

pub returns-clause-found : goal.returns-clause-found
returns-clause-found g c =
    let feed = c.args.taken.now.feed in
    let moment = (header_at c.args.held.now.headers.items feed).moment in
    IfOk-weaker c.judge.result _ _
    (λ found h.
    head_is None no_gathered (snapshot_of c.args.taken.now) (feed_of (state_of c.args.held.now) feed).last (feed_header_value c.args.coming.now.header) (option_map feed_header_value c.args.coming.now.before) c.args.coming.now.changes.reordered found
    c.requires.header_is (c.requires.before_is ∙ previous_is feed moment _) (c.requires.changes_are.reordered_is ∙ differ_is feed moment _ c.args.taken.now.kept)
    (h None no_gathered ∙ ap (λ o. whole.header_found None no_gathered (record { header = feed_header_value c.args.coming.now.header; previous = option_map feed_header_value o; changed = c.args.coming.now.changes.reordered; moment = c.args.taken.now.moment }) feed) c.as_ref.ensures.value))
    c.judge.ensures.found
