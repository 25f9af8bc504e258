-- The bytes of the union decode to it.
use Rattle.std.proofs.Common.{sym, ap, ◌∙◌, subst}
use Rattle.feed_values.specs.Messages.{feed_message}
use Rattle.feed_values.specs.Canonical.{canonical}
use Rattle.feed_values.specs.WellFormed.{IsWellFormedFeed}
use Rattle.feed_codec.proofs.Roundtrips.{encoded_decodes}
use Rattle.feed_merge.specs.Union.{united}
use Rattle.feed_merge.specs.Laws.{UnionDecodes}
use Rattle.feed_merge.proofs.Formed.{union_formed}

pub union_decodes : UnionDecodes
union_decodes = record {
  well_formed = union_formed;
  accepted = λ vs few fit. encoded_decodes.accepted (united vs) (union_formed vs few fit);
  value = λ vs few fit. encoded_decodes.value (united vs) (union_formed vs few fit);
  decoded = λ vs message bytes answer few fit is spelled le d.
      encoded_decodes.decoded message bytes answer (subst IsWellFormedFeed (sym is) (union_formed vs few fit)) (spelled ∙ ap (canonical feed_message) (sym is)) le d;
}
