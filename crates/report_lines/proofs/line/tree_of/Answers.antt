use Rattle.std.proofs.Common.{◌≡◌, true, sym, ◌∙◌}
use Rattle.serde_json.specs.View.{view}
use Rattle.report_lines.proofs.TreeLemmas.{tree_read, tree_refused}
use Rattle.report_lines.proofs.line.tree_of.Goals as goal

pub returns-in-Ok : goal.returns-in-Ok
returns-in-Ok c = tree_read c.args.line.now (view c.in-Ok.tree) c.in-Ok.ensures.ok

pub returns-else-is_memory : goal.returns-else-is_memory
returns-else-is_memory c = tree_refused c.args.line.now (c.in-Err.ensures.err (λ is. let true_is : c.is_memory.result ≡ true = c.is_memory.ensures.1 is in cc (sym c.if-is_memory.false ∙ true_is)))
