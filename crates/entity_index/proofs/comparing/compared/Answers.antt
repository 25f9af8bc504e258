use Rattle.std.proofs.Common.{◌∙◌, ap, sym, bytes_eq, map}
use Rattle.std.specs.Cmp.Lexicographic.{pointwise}
use Rattle.feed_values.specs.Snapshot.{entity_payloads}
use Rattle.rule_history.specs.History.{id_of}
use Rattle.entity_index.specs.Rooms.{HeldRoom}
use Rattle.entity_index.proofs.Placed.{ids_equal}
use Rattle.entity_index.proofs.comparing.compared.Goals as goal

pub in_same_order-requires : goal.in_same_order-requires
in_same_order-requires c =
    ids_equal (entity_payloads c.args.room.now.bytes) (entity_payloads c.args.kept.now)
    (sym (ap (λ (r : HeldRoom). pointwise bytes_eq (map id_of (entity_payloads r.bytes)) (map id_of (entity_payloads c.args.kept.now))) c.room.view_is) ∙ sym c.have_same_ids.ensures ∙ c.if-have_same_ids.true)

pub by_keys-requires : goal.by_keys-requires
by_keys-requires c =
    sym (ap (λ (r : HeldRoom). pointwise bytes_eq (map id_of (entity_payloads r.bytes)) (map id_of (entity_payloads c.args.kept.now))) c.room.view_is) ∙ sym c.have_same_ids.ensures ∙ c.if-have_same_ids.false
