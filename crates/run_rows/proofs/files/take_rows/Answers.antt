use Rattle.std.specs.List.{Contains}
use Rattle.rt_outside.specs.Store.{contents_told}
use Rattle.rule_history.specs.Answered.{tables_of}
use Rattle.run_base.proofs.Carried.{carried_fault}
use Rattle.run_base.proofs.Counted.{fault_ends}
use Rattle.run_rows.specs.declared.telling.Telling.TheVariants.{Counts}
use Rattle.run_rows.specs.Files.{ended}
use Rattle.run_rows.specs.Rows.{all_rows, paths_of}
use Rattle.run_rows.proofs.Ended.{lines_part}
use Rattle.run_rows.proofs.Paths.{row_path}
use Rattle.run_rows.proofs.files.take_rows.Goals as goal

-- a fault was told
pub returns-in-Err-clause-cut_off : goal.returns-in-Err-clause-cut_off
returns-in-Err-clause-cut_off g c = λ ending.
    let t = tables_of c.args.table in
    let faults = c.in-Err.ensures.faults in
    carried_fault (λ held. ended ending (all_rows Counts t held c.args.rows.now)) (Contains (paths_of c.args.rows.now)) _ _ c.say_row_fault.result
    (lines_part (contents_told (g.F.Files.state c.args.files.now).told) ending (λ held. all_rows Counts t held c.args.rows.now) _ _ c.follow_rows.ensures.text)
    c.in-Err.fault.fault faults.row.path (row_path c.args.rows.now c.in-Err.fault.row faults.row faults.there) faults.read faults.write faults.named (c.say_row_fault.ensures faults.row faults.there)

pub returns-in-Err-clause-undone : goal.returns-in-Err-clause-undone
returns-in-Err-clause-undone g c =
    let faults = c.in-Err.ensures.faults in
    fault_ends c.in-Err.fault.fault faults.row.path _ _ c.say_row_fault.result (c.say_row_fault.ensures faults.row faults.there)
