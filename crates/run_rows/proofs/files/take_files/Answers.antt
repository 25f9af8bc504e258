use Rattle.std.proofs.Common.{◌∙◌, subst, sym}
use Rattle.std.proofs.lemmas.Result.{IfErr-weaker}
use Rattle.std.specs.List.{Contains}
use Rattle.rt_outside.proofs.Appends.{AppendsPrefix-nothing}
use Rattle.rt_outside.specs.Store.{contents_told}
use Rattle.run_rows.specs.Rows.{AreWithinLimits}
use Rattle.rule_history.specs.Answered.{tables_of}
use Rattle.run_base.proofs.Carried.{carried_memory}
use Rattle.run_base.proofs.Chosen.{all}
use Rattle.run_base.proofs.Counted.{nothing_more, says_ends}
use Rattle.run_base.specs.declared.status.Status.TheVariants as answer
use Rattle.run_rows.specs.Files.{files_ended}
use Rattle.run_rows.proofs.Ended.{files_cut_off}
use Rattle.run_rows.proofs.FileRows.{within_limits}
use Rattle.run_rows.proofs.files.take_files.Goals as goal

pub take_rows-requires : goal.take_rows-requires
take_rows-requires g c = subst AreWithinLimits (sym (c.as_slice.ensures ∙ c.in-Ok.ensures)) (within_limits c.args.moment c.args.names.now c.requires)

-- a fault was told while rows were taken
pub returns-in-Ok-clause-cut_off : goal.returns-in-Ok-clause-cut_off
returns-in-Ok-clause-cut_off g c =
    IfErr-weaker c.take_rows.result _ _ (λ status cut. files_cut_off (tables_of c.args.table) c.args.moment c.args.names.now c.as_slice.result.now _ _ status (c.as_slice.ensures ∙ c.in-Ok.ensures) cut)
    c.take_rows.ensures.cut_off

-- no memory was found
pub returns-in-Err-clause-cut_off : goal.returns-in-Err-clause-cut_off
returns-in-Err-clause-cut_off g c = λ ending.
    carried_memory (files_ended ending (tables_of c.args.table) c.args.moment c.args.names.now) (Contains c.args.names.now) _ _ c.say_memory.result
    (all (contents_told (g.F.Files.state c.args.files.now).told) _ (λ held. AppendsPrefix-nothing _ _)) c.say_memory.ensures

pub returns-in-Err-clause-most : goal.returns-in-Err-clause-most
returns-in-Err-clause-most g c = all (contents_told (g.F.Files.state c.args.files.now).told) _ (λ held. nothing_more _ _)

pub returns-in-Err-clause-undone : goal.returns-in-Err-clause-undone
returns-in-Err-clause-undone g c = says_ends _ answer.Memory _ _ c.say_memory.result (λ done. done) c.say_memory.ensures
