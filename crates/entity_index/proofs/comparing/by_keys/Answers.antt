use Rattle.std.proofs.Common.{ap, sym, not}
use Rattle.feed_values.specs.Snapshot.{entity_payloads}
use Rattle.entity_index.proofs.Finding.{other_ids}
use Rattle.entity_index.proofs.comparing.by_keys.Goals as goal

pub returns : goal.returns
returns c = record {
  fresh_is = c.in_ok-gone.ensures.places;
  keys_are = c.in_ok-gone.ensures.keys;
  gone_is = c.in_ok-gone.ensures.gone;
  reordered_is = sym (ap not (other_ids (entity_payloads c.args.room.now.bytes) (entity_payloads c.args.kept.now) c.requires));
}
