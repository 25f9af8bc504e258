use Rattle.run_verify.proofs.CutLemmas.{lines_cut, lines_uncut}
use Rattle.run_verify.proofs.cutting.cut_line.Goals as goal

pub returns-in-Some-clause-lines : goal.returns-in-Some-clause-lines
returns-in-Some-clause-lines c = lines_cut c.args.text.now c.in-Some.at c.in-Some.ensures

pub returns-in-None-clause-lines : goal.returns-in-None-clause-lines
returns-in-None-clause-lines c = lines_uncut c.args.text.now c.requires c.in-None.ensures
