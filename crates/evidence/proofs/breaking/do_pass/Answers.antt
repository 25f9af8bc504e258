use Rattle.std.proofs.Common.{arith, ◌<◌, ◌∙◌, ap, length}
use Rattle.std.proofs.lemmas.List.{length-set}
use Rattle.rule_table.specs.declared.fact.Fact.{Fact}
use Rattle.evidence.proofs.Forms.{facts_more}
use Rattle.evidence.proofs.breaking.do_pass.Goals as goal

pub loop-k-preserved : goal.loop-k-preserved
loop-k-preserved c =
    let within : c.loop-k.k < length c.args.facts.now = c.loop-k-test.true in
    let long : c.loop-k.k < length c.loop-k.cells = omega (arith, within, c.requires, c.loop-k.invariant.long) in
    record {
      long = length-set c.loop-k.cells c.loop-k.k c.cell_of.result ∙ c.loop-k.invariant.long;
      same = facts_more c.loop-k.cells c.loop-k.k c.cell_of.result c.args.facts.now c.index-facts-k.result long within
          (c.cell_of.ensures ∙ ap (λ f. let g : Fact = f in g.value) c.index-facts-k.is) c.loop-k.invariant.same;
    }
