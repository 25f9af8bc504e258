use Rattle.std.proofs.Common.{rules, arith, ◌≡◌, ◌+◌, ◌<◌, false, [], ◌∷◌, ◌++◌, take, drop, map, sym, ◌∙◌, length}
use Rattle.std.proofs.lemmas.Grind.{common_steps}
use Rattle.feed_values.specs.Cells.{cell_value}
use Rattle.rule_table.specs.Asked.{place_value}
use Rattle.rule_table.specs.Cited.{broken_from}
use Rattle.rule_table.specs.Passed.{passes_by}
use Rattle.rule_table.proofs.Stopping.{broken_from-fails}
use Rattle.rule_table.proofs.MoreCells.{cells_more, cells_count}
use Rattle.rule_table.proofs.citing.is_broken_impl.Goals as goal

pub returns-then-not-test_passes_by : goal.returns-then-not-test_passes_by
returns-then-not-test_passes_by g c =
    let long : c.loop-k.k < length c.loop-k.cells = grind (arith, common_steps, c.requires, c.loop-k.auto, c.loop-k-test) in
    let now = map cell_value (take c.loop-k.k c.loop-k.cells) ++ cell_value c.in-Some.cell ∷ [] in
    let more = cells_more c.loop-k.cells c.loop-k.k c.in-Some.cell long in
    let fails : passes_by (place_value c.args.place) c.loop-k.k c.args.atoms.now now ≡ false = rw (← more) (search rules) in
    let same : broken_from (g.A.Answers.answers c.args.answers.now) (place_value c.args.place) c.args.atoms.now now (drop (c.loop-k.k + 1) c.args.cites.now) ≡ broken_from (g.A.Answers.answers c.args.answers.now) (place_value c.args.place) c.args.atoms.now [] c.args.cites.now = grind (arith, common_steps) in
    sym (broken_from-fails (g.A.Answers.answers c.args.answers.now) (place_value c.args.place) c.args.atoms.now c.loop-k.k now (drop (c.loop-k.k + 1) c.args.cites.now) fails (cells_count c.loop-k.cells c.loop-k.k c.in-Some.cell long)) ∙ same
