use Rattle.std.proofs.Common.{◌∙◌, arith}
use Rattle.run_merge.proofs.Gathers.{files_more}
use Rattle.run_merge.proofs.reading.read_all.Goals as goal

pub loop-number-preserved : goal.loop-number-preserved
loop-number-preserved g c =
    let so_far = c.loop-number.invariant in
    record {
      found = files_more _ _ c.as_slice-name-items.result.now c.loop-number.number c.as_str.result.now c.name-item.result _ _ so_far.contents c.loop-number-test.true c.as_str.ensures c.name-item.is
          so_far.found c.in-Ok.ensures.adds;
      few = omega (arith, c.in-Ok.ensures.few, so_far.few);
      contents = c.in-Ok.ensures.contents ∙ so_far.contents;
      later = omega (arith, c.in-Ok.ensures.later, so_far.later);
    }
