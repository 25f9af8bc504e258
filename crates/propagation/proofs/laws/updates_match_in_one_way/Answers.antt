use Rattle.propagation.proofs.LawLemmas.{matcher-is, one-way}
use Rattle.propagation.proofs.WayLemmas.{some-way}
use Rattle.propagation.proofs.laws.updates_match_in_one_way.Goals as goal

pub returns : goal.returns
returns c = record {
  some = some-way;
  one = one-way;
  matcher = matcher-is;
}
