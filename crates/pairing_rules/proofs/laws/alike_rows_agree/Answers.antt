use Rattle.pairing_rules.specs.ByKind.{alike-agree}
use Rattle.pairing_rules.proofs.laws.alike_rows_agree.Goals as goal

pub returns : goal.returns
returns c = alike-agree
