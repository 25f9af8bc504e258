use Rattle.std.proofs.Common.{◌≡◌, ◌≤◌, [], None, Some, rules}
use Rattle.rule_table.specs.Asked.{index_of, place_value}
use Rattle.rule_table.specs.Cited.{breaking, cited}
use Rattle.rule_table.specs.Rows.{cites_at, test_at}
use Rattle.rule_table.specs.Table.{first_of}
use Rattle.rule_table.proofs.Formed.{breaks, cited_all, found_broken, holds_back, unbroken}
use Rattle.rule_table.proofs.judging.judge_place.Goals as goal

pub new-requires : goal.new-requires
new-requires g c =
    let at = place_value c.args.place in
    let answer = g.A.Answers.answers c.args.answers.now in
    let there = cited answer at [] (cites_at c.args.rule at) in
    let e : breaking at (test_at c.args.rule at) there ≡ Some c.in-Some.facts = cc (c.in_ok-facts.ensures, c.in-Some.is, c.cites_at-cites.ensures.cites, c.test_at.ensures) in
    let both = breaks at (test_at c.args.rule at) there c.in-Some.facts e in
    let k : c.in_ok-place.place ≡ at = search rules in
    rw k (record {
      place = record { listed = c.requires.listed; first = rw (← c.first.ensures, ← c.index.ensures) c.if-index-first.false; plain = c.requires.plain };
      formed = cited_all answer at (cites_at c.args.rule at) c.in-Some.facts both.0;
      broken = both.1;
    })

pub returns-in_default : goal.returns-in_default
returns-in_default g c =
    let at = place_value c.args.place in
    let answer = g.A.Answers.answers c.args.answers.now in
    let there = cited answer at [] (cites_at c.args.rule at) in
    let e : breaking at (test_at c.args.rule at) there ≡ None = cc (c.in_ok-facts.ensures, c.in_default.is, c.cites_at-cites.ensures.cites, c.test_at.ensures) in
    rw (unbroken c.args.rule answer at (holds_back at (test_at c.args.rule at) there e)) (search rules)

pub returns : goal.returns
returns g c =
    let at = place_value c.args.place in
    let answer = g.A.Answers.answers c.args.answers.now in
    let there = cited answer at [] (cites_at c.args.rule at) in
    let e : breaking at (test_at c.args.rule at) there ≡ Some c.in-Some.facts = cc (c.in_ok-facts.ensures, c.in-Some.is, c.cites_at-cites.ensures.cites, c.test_at.ensures) in
    let both = breaks at (test_at c.args.rule at) there c.in-Some.facts e in
    let first : first_of c.args.rule ≤ index_of at = rw (← c.first.ensures, ← c.index.ensures) c.if-index-first.false in
    rw (found_broken c.args.rule answer at c.in-Some.facts first both.0 both.1) (search rules)
