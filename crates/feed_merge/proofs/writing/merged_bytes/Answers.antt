use Rattle.std.proofs.Common.{◌∙◌, ◌+◌, ◌++◌, [], ap, map, refl}
use Rattle.std.proofs.lemmas.Result.{err_from_is_err_and}
use Rattle.feed_values.specs.Snapshot.{snapshot_value}
use Rattle.feed_merge.specs.Spelled.{entities_spelled}
use Rattle.feed_merge.specs.Union.{greatest_stamp}
use Rattle.feed_merge.specs.declared.merge_fault.MergeFault.TheVariants.{TooLarge}
use Rattle.feed_merge.proofs.Parts.{handed_on, kept_all, too_large, union_bytes, written_next}
use Rattle.feed_merge.proofs.writing.merged_bytes.Goals as goal

pub loop-number-init : goal.loop-number-init
loop-number-init c = c.in_ok-bytes.ensures ∙ ap (λ stamp. union_bytes stamp []) c.in_ok-stamp.ensures

pub loop-number-preserved : goal.loop-number-preserved
loop-number-preserved c =
    written_next (greatest_stamp (map snapshot_value c.args.feeds.now)) c.as_slice-feed-items.result.now c.loop-number.number c.feed-item.result c.loop-number.bytes.items c.put_entities.new.bytes.items
    c.loop-number-test.true c.feed-item.is c.loop-number.invariant c.in_ok-put_entities.ensures.ok

-- with this feed they are too many already
pub returns-in_err-put_entities-clause-too_large : goal.returns-in_err-put_entities-clause-too_large
returns-in_err-put_entities-clause-too_large c = λ is.
    let p = err_from_is_err_and c.from_residual-in_err-put_entities.result c.from_residual-in_err-put_entities.ensures.1 in
    too_large c.args.feeds.now c.as_slice-feed-items.result.now (c.loop-number.number + 1) (c.loop-number.bytes.items ++ entities_spelled (kept_all c.loop-number.number c.feed-item.result)) c.as_slice-feed-items.ensures
    (written_next (greatest_stamp (map snapshot_value c.args.feeds.now)) c.as_slice-feed-items.result.now c.loop-number.number c.feed-item.result c.loop-number.bytes.items _ c.loop-number-test.true c.feed-item.is c.loop-number.invariant refl)
    (c.in_err-put_entities.ensures.too_large (handed_on c.from_residual-in_err-put_entities.result _ p.0 TooLarge p.1 p.2 is))
