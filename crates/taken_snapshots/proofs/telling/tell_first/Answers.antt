use Rattle.std.proofs.Common.{◌∙◌, List, sym, subst}
use Rattle.rule_table.specs.declared.key.EntityKey.{EntityKey}
use Rattle.rule_table.specs.Order.{key_cmp}
use Rattle.rule_table.specs.Rises.{Rises}
use Rattle.snapshot_steps.specs.cached_laws.Keys.{bytes_before}
use Rattle.snapshot_steps.specs.held_feeds.States.{state_of}
use Rattle.snapshot_steps.proofs.Replaced.{gone_rise}
use Rattle.taken_snapshots.proofs.telling.tell_first.Goals as goal

pub close_gone-requires-clause-keys : goal.close_gone-requires-clause-keys
close_gone-requires-clause-keys g c =
    subst (λ (ks : List EntityKey). Rises key_cmp ks) (sym (c.as_slice-gone.ensures ∙ c.requires.coming.changes_are.gone_is)) (gone_rise c.args.taken.now.feed (bytes_before (state_of c.args.held.now) c.args.taken.now.feed) c.args.taken.now.kept)
