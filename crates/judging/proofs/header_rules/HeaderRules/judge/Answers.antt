use Rattle.std.proofs.Common.{◌++◌, ap, ◌∙◌}
use Rattle.std.specs.Option.{option_map, option_copied}
use Rattle.feed_values.specs.Views.{feed_header_value}
use Rattle.rule_table.specs.Answers.{Heads, heads_answer}
use Rattle.rule_table.specs.Judged.{head_found_all}
use Rattle.history_rules.specs.Rules.{head_rules}
use Rattle.judging.proofs.Headed.{headed_all}
use Rattle.judging.proofs.header_rules.HeaderRules.judge.Goals as goal

pub returns-clause-found : goal.returns-clause-found
returns-clause-found g c t u =
    let heads : Heads = record { header = feed_header_value c.args.now.now; previous = option_map feed_header_value (option_copied c.args.before); changed = c.args.changed; moment = c.args.moment } in
    c.into_items.ensures ∙ c.in_ok-judge.ensures.found ∙ ap (λ xs. xs ++ head_found_all head_rules (heads_answer heads) c.args.feed) c.new-out.ensures
    ∙ headed_all t u heads c.args.feed
