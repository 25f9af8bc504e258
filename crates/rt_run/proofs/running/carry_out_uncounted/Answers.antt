use Rattle.rt_outside.specs.Store.{contents_told}
use Rattle.run_json.specs.Reports.{shown_report, encode_report}
use Rattle.run_base.specs.Report.{file_report}
use Rattle.run_verify.specs.Verified.{verify_report}
use Rattle.rt_run.proofs.Asked.{one_predicted}
use Rattle.run_base.proofs.Chosen.{carried_name}
use Rattle.rt_run.proofs.running.carry_out_uncounted.Goals as goal

pub returns-in-Predict : goal.returns-in-Predict
returns-in-Predict g c =
    rw c.in-Predict.is (one_predicted (contents_told (g.F.Files.state c.args.files.now).told) _ c.in-Predict.moment c.args.now _ _ _ _ _ _ _ c.predict.result c.as_str-folder.ensures c.unwrap_or-moment.ensures c.as_str.ensures c.predict.ensures)

pub returns-in-Show : goal.returns-in-Show
returns-in-Show g c =
    rw c.in-Show.is (carried_name (file_report shown_report) _ _ _ _ c.show.result c.as_str-in-Show.ensures c.show.ensures)

pub returns-in-Encode : goal.returns-in-Encode
returns-in-Encode g c = rw c.in-Encode.is (carried_name encode_report _ _ _ _ c.encode.result c.as_str-in-Encode.ensures c.encode.ensures)

pub returns-in-Merge : goal.returns-in-Merge
returns-in-Merge g c = rw c.in-Merge.is c.merge.ensures

pub returns-in-Verify : goal.returns-in-Verify
returns-in-Verify g c = rw c.in-Verify.is (carried_name verify_report _ _ _ _ c.verify.result c.as_str-in-Verify.ensures c.verify.ensures)
