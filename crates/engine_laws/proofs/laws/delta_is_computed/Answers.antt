use Rattle.engine_laws.proofs.Computed as computed
use Rattle.engine_laws.proofs.laws.delta_is_computed.Goals as goal

pub returns : goal.returns
returns c = computed.delta_is_computed
