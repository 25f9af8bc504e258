use Rattle.std.proofs.Common.{◌≡◌, ◌+◌, ◌∙◌, List, [], ℕ, ◌∷◌, ◌++◌, map, take, ap, sym, subst, arith}
use Rattle.std.specs.Prelude.{IfSome, slice_get, Some}
use Rattle.std.specs.List.{All}
use Rattle.std.specs.declared.option.Option.{Option}
use Rattle.std.proofs.lemmas.List.{take_all}
use Rattle.std.proofs.lemmas.List.Elements.{All-push}
use Rattle.feed_values.specs.Snapshot.{entity_of, entity_payloads}
use Rattle.feed_values.proofs.SnapshotFields.{snapshot_is_its_fields}
use Rattle.judging.specs.Seats.{id_of}
use Rattle.snapshot_keys.specs.declared.placing.NamedEntity.{NamedEntity}
use Rattle.snapshot_keys.specs.Places.{entity_at}
use Rattle.snapshot_keys.specs.ById.{IsNamed, entities_at}
use Rattle.snapshot_keys.proofs.OneMore.{entities_next, payload_there}
use Rattle.snapshot_keys.proofs.placing.named.Goals as goal

pub loop-number-preserved : goal.loop-number-preserved
loop-number-preserved c =
    let bytes = c.args.kept.now in
    let i = c.loop-number.number in
    let ps = entity_payloads bytes in
    let before = c.loop-number.invariant in
    let there = payload_there ps i (omega (arith, c.loop-number-test.true, before.small)) in
    let n : NamedEntity = record { id = c.entity_id-id.result; number = i } in
    let named : IsNamed bytes n = record {
      within = omega (arith, c.loop-number-test.true, before.small);
      id = subst (λ (o : Option (List ℕ)). IfSome o (λ payload. c.entity_id-id.result.now ≡ (entity_of payload).0)) (sym there) c.entity_id-id.ensures.id;
    } in
    let pushed : c.push.new.self.items ≡ c.loop-number.list.items ++ n ∷ [] = c.in_ok-push.ensures.items in
    record {
      named = subst (All (IsNamed bytes)) (sym pushed) (All-push (IsNamed bytes) c.loop-number.list.items n before.named named);
      are = ap (entities_at bytes) pushed ∙ entities_next bytes c.loop-number.list.items n (omega (arith, c.loop-number-test.true, before.small)) before.are;
      small = before.small;
    }

pub returns : goal.returns
returns c =
    let bytes = c.args.kept.now in
    let end = c.loop-number.invariant in
    record {
      named = end.named;
      are = end.are ∙ ap (map entity_of) (take_all c.loop-number.number (entity_payloads bytes) (omega (arith, end.small))) ∙ sym (snapshot_is_its_fields.entities bytes);
    }
