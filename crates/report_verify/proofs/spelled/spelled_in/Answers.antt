use Rattle.std.proofs.Common.{◌∙◌, sym}
use Rattle.serde_json.specs.View.{view}
use Rattle.report_verify.proofs.WithinLemmas.{said_in_range}
use Rattle.report_verify.proofs.spelled.spelled_in.Goals as goal

pub is_printed-requires : goal.is_printed-requires
is_printed-requires c = said_in_range (view c.args.tree.now) c.in-Some.said (sym c.in_ok-said.ensures ∙ c.in-Some.is)
