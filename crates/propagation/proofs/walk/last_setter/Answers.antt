use Rattle.std.proofs.Common.{◌∙◌, ap, sym, option_map}
use Rattle.propagation.proofs.ListLemmas.{last_of-at}
use Rattle.propagation.proofs.walk.last_setter.Goals as goal

pub returns-in-Some-clause-value : goal.returns-in-Some-clause-value
returns-in-Some-clause-value c = ap (option_map (λ s. s.setter)) (c.in-Some.ensures.value ∙ sym (last_of-at c.args.setters.now))
