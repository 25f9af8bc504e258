use Rattle.propagation.proofs.LawLemmas.{governing-greatest, list-in-set, set-in-list}
use Rattle.propagation.proofs.SetterLemmas.{setters_ordered}
use Rattle.propagation.proofs.laws.the_greatest_setter_governs.Goals as goal

pub returns : goal.returns
returns c = record {
  governs = governing-greatest;
  set = λ delay events s. (list-in-set delay events s, set-in-list delay events s);
  positions = setters_ordered;
}
