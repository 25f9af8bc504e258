use Rattle.std.proofs.Common.{◌≡◌, ◌+◌, ap, ◌∙◌, sym, cond, string_bytes, bytes_eq}
use Rattle.rule_table.specs.Counts.{count_in}
use Rattle.rule_table.proofs.CountedMore.{counted_more}
use Rattle.rule_table.proofs.counting.count_one.Goals as goal

pub returns-clause-after : goal.returns-clause-after
returns-clause-after c other =
    let name : string_bytes c.in_ok-id.id ≡ c.args.id.now = c.in_ok-id.ensures.ok in
    let before : c.unwrap_or-before.result ≡ count_in c.args.counts.now c.args.id.now = cc (c.unwrap_or-before.ensures, c.copied.ensures, c.get.ensures.value) in
    counted_more (string_bytes c.in_ok-id.id) c.args.counts.now c.insert.new.self (c.unwrap_or-before.result + 1) c.in_ok-insert.ensures.updates (ap (λ n. n + 1) (before ∙ ap (count_in c.args.counts.now) (sym name))) other
    ∙ ap (λ bs. cond (bytes_eq bs other) 1 0 + count_in c.args.counts.now other) name
