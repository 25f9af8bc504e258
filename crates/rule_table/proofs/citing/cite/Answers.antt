use Rattle.std.proofs.Common.{rules, arith, ◌≡◌, [], Some, map, take, drop, length, ap, sym, ◌∙◌}
use Rattle.std.proofs.lemmas.Grind.{common_steps}
use Rattle.feed_values.specs.Cells.{cell_value}
use Rattle.rule_table.specs.Asked.{place_value}
use Rattle.rule_table.specs.Cited.{cited, values_of}
use Rattle.rule_table.specs.Passed.{passes}
use Rattle.rule_table.proofs.Formed.{breaking_is}
use Rattle.rule_table.proofs.citing.cite.Goals as goal

pub returns-then-not-test_passes : goal.returns-then-not-test_passes
returns-then-not-test_passes g c =
    let at = place_value c.args.place in
    let answer = g.A.Answers.answers c.args.answers.now in
    let facts = c.loop-k.facts.items in
    let end : c.loop-k.k ≡ length c.args.cites.now = grind (arith, common_steps, c.requires, c.loop-k.auto, c.loop-k-test) in
    let none : drop c.loop-k.k c.args.cites.now ≡ [] = grind (arith, common_steps, c.loop-k.auto, c.loop-k-test) in
    let all : cited answer at [] c.args.cites.now ≡ Some facts = sym c.loop-k.invariant.left ∙ ap (cited answer at facts) none in
    let told : passes at c.args.atoms.now (values_of facts) ≡ c.test_passes.result = ap (passes at c.args.atoms.now) (c.loop-k.invariant.values ∙ ap (λ n. map cell_value (take n c.loop-k.cells)) end) ∙ sym c.test_passes.ensures in
    rw (breaking_is at c.args.atoms.now (cited answer at [] c.args.cites.now) facts c.test_passes.result all told) (search rules)

pub returns : goal.returns
returns g c =
    let at = place_value c.args.place in
    let answer = g.A.Answers.answers c.args.answers.now in
    let facts = c.loop-k.facts.items in
    let end : c.loop-k.k ≡ length c.args.cites.now = grind (arith, common_steps, c.requires, c.loop-k.auto, c.loop-k-test) in
    let none : drop c.loop-k.k c.args.cites.now ≡ [] = grind (arith, common_steps, c.loop-k.auto, c.loop-k-test) in
    let all : cited answer at [] c.args.cites.now ≡ Some facts = sym c.loop-k.invariant.left ∙ ap (cited answer at facts) none in
    let told : passes at c.args.atoms.now (values_of facts) ≡ c.test_passes.result = ap (passes at c.args.atoms.now) (c.loop-k.invariant.values ∙ ap (λ n. map cell_value (take n c.loop-k.cells)) end) ∙ sym c.test_passes.ensures in
    rw (breaking_is at c.args.atoms.now (cited answer at [] c.args.cites.now) facts c.test_passes.result all told) (search rules)
