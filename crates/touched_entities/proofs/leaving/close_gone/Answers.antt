use Rattle.std.proofs.Common.{◌≡◌, ◌∙◌, ◌+◌, ap, sym, drop}
use Rattle.std.specs.Prelude.{if◌then◌else◌}
use Rattle.entity_parts.specs.part_laws.Touched.{is_among}
use Rattle.touched_entities.specs.Left.{told_left}
use Rattle.touched_entities.specs.Told.{told_at}
use Rattle.touched_entities.proofs.Closing.{left_step}
use Rattle.touched_entities.proofs.OneMore.{key_first, not_again, rest_rises}
use Rattle.touched_entities.proofs.leaving.close_gone.Goals as goal

pub loop-key-preserved : goal.loop-key-preserved
loop-key-preserved c =
    let held = c.loop-key.invariant in
    let keys = c.args.keys.now in
    let index = c.args.index.now in
    let i = c.loop-key.key-index in
    let key = c.key-item.result in
    let rest = drop (i + 1) keys in
    let before = c.loop-key.tolds in
    let one = c.in_ok-close_one.ensures in
    let first = key_first keys i key c.loop-key-test.true c.key-item.is in
    let rises = rest_rises keys i key c.loop-key-test.true c.key-item.is held.rises in
    record {
      told_are = λ k.
          left_step index key rest (not_again key rest rises) before c.close_one.new.tolds one.told k
          ∙ ap (λ ks. if is_among ks k then told_left index k (told_at before k) else told_at before k) (sym first) ∙ held.told_are k;
      headers_are = λ f. one.headers f ∙ held.headers_are f;
      own = λ are. one.own (held.own are);
      rises = rises.1;
    }
