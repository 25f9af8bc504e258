use Rattle.run_list.proofs.Numbers as numbers
use Rattle.run_list.proofs.laws.numbers_are_since.Goals as goal

pub returns : goal.returns
returns c = numbers.numbers_are_since
