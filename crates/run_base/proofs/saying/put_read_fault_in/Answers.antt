use Rattle.std.proofs.Common.{◌++◌, codes}
use Rattle.rt_outside.proofs.Appends.{AppendsPrefix-first, OnErr-second}
use Rattle.run_base.proofs.Named.{in_folder, on_ok, on_err, on_err_same}
use Rattle.run_base.proofs.saying.put_read_fault_in.Goals as goal

pub returns-in_err-put_three-clause-err : goal.returns-in_err-put_three-clause-err
returns-in_err-put_three-clause-err g c =
    on_err c.from_residual.result _ _ _ _ (in_folder c.args.folder.now c.args.file.now)
    (AppendsPrefix-first _ _ (codes "read fault: " ++ c.args.folder.now ++ codes "/") (c.args.file.now ++ codes "\n") c.in_err-put_three.ensures.err)

pub returns-clause-ok : goal.returns-clause-ok
returns-clause-ok g c = on_ok c.put_two.result _ _ _ (codes "read fault: " ++ c.args.folder.now ++ codes "/") (c.args.file.now ++ codes "\n") _
    (in_folder c.args.folder.now c.args.file.now) c.in_ok-put_three.ensures.ok c.put_two.ensures.ok

pub returns-clause-err : goal.returns-clause-err
returns-clause-err g c = on_err_same c.put_two.result _ _ _ _ (in_folder c.args.folder.now c.args.file.now)
    (OnErr-second c.put_two.result _ _ _ (codes "read fault: " ++ c.args.folder.now ++ codes "/") (c.args.file.now ++ codes "\n")
    c.in_ok-put_three.ensures.ok c.put_two.ensures.err)
