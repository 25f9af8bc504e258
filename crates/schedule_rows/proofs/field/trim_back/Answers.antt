use Rattle.std.proofs.Common.{◌∙◌, sym}
use Rattle.schedule_rows.proofs.TrimLemmas.{trim_back-kept, trim_back-last}
use Rattle.schedule_rows.proofs.field.trim_back.Goals as goal

pub loop-left-preserved : goal.loop-left-preserved
loop-left-preserved c = trim_back-last _ c.in-len1-up.len_at_least (sym c.is_blank.ensures ∙ c.if-not-is_blank.false) ∙ c.loop-left.invariant

pub returns-then-not-is_blank : goal.returns-then-not-is_blank
returns-then-not-is_blank c = trim_back-kept _ c.in-len1-up.len_at_least (sym c.is_blank.ensures ∙ c.if-not-is_blank.true) ∙ c.loop-left.invariant
