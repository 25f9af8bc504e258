use Rattle.std.proofs.Common.{◌++◌, sym, ap, ◌∙◌}
use Rattle.std.proofs.lemmas.List.{append-nil}
use Rattle.trial_feed.specs.Files.{line_of}
use Rattle.trial_feed.proofs.Rows.{no_row, row_written}
use Rattle.trial_feed.proofs.files.trip_rows.Goals as goal

pub loop-k-init : goal.loop-k-init
loop-k-init c =
    c.in_ok-text.ensures.ok ∙ sym (append-nil (line_of c.args.header.now)) ∙ ap (λ l. line_of c.args.header.now ++ l) (sym (no_row c.args.before.now c.args.after.now))

pub loop-k-preserved : goal.loop-k-preserved
loop-k-preserved c =
    row_written (line_of c.args.header.now) c.args.before.now c.args.after.now _ _ _ c.loop-k.k
    c.loop-k.invariant (c.as_str.ensures.value ∙ c.in_ok-row.ensures) c.in_ok-push_str.ensures.bytes
