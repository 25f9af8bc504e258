use Rattle.std.proofs.Common.{List, ℕ, subst}
use Rattle.rt_wire.specs.Fields.{IsBytes}
use Rattle.feed_values.specs.Accepted.{IsAccepted}
use Rattle.feed_codec.proofs.SnapshotFaults.{refusal_is_first}
use Rattle.feed_stream.proofs.kept.Kept.bytes.Goals as goal

pub returns-clause-snapshot : goal.returns-clause-snapshot
returns-clause-snapshot c =
    let bytes = c.self.inside.bytes.items in
    subst (λ (b : List ℕ). IsBytes b × IsAccepted b) c.self.view_is
    (c.self.invariant.bytes_are, (refusal_is_first.accepted bytes c.self.invariant.bytes_are).0 c.self.invariant.accepted)
