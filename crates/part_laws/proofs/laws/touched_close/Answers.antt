use Rattle.part_laws.proofs.Sparse as sparse
use Rattle.part_laws.proofs.laws.touched_close.Goals as goal

pub returns : goal.returns
returns c = sparse.touched_close
