use Rattle.std.proofs.Common.{◌<◌, ◌≢◌, length, arith, ap, below_more, get_or-set_other, get_or-set_same, ◌∙◌}
use Rattle.std.proofs.Math.ListN.{length-set}
use Rattle.csv.specs.Records.{fields_of}
use Rattle.schedule_rows.specs.Columns.{name_of, number_of}
use Rattle.schedule_rows.specs.Fields.{place_of}
use Rattle.schedule_rows.proofs.ColumnLemmas.{at_number, number_of-within}
use Rattle.schedule_rows.proofs.header.Header.new.Goals as goal

pub invariant_of-result : goal.invariant_of-result
invariant_of-result c = λ column.
    let within : number_of column < c.loop-at.at = omega (arith, number_of-within column) in
    c.loop-at.invariant.placed (number_of column) within ∙ ap (λ k. place_of (name_of k) (fields_of c.args.names)) (at_number column)

pub loop-at-preserved : goal.loop-at-preserved
loop-at-preserved c = record {
  size = length-set c.loop-at.places c.loop-at.at c.find_place.result ∙ c.loop-at.invariant.size;
  placed = below_more _ _
      (λ k h. let other : k ≢ c.loop-at.at = omega arith in rw get_or-set_other (c.loop-at.invariant.placed k h))
      (let within : c.loop-at.at < length c.loop-at.places = omega arith in
      rw get_or-set_same (c.find_place.ensures ∙ ap (λ name. place_of name (fields_of c.args.names)) (c.as_bytes.ensures.value ∙ c.name.ensures)));
}
