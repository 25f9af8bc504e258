use Rattle.std.proofs.Common.{◌≡◌}
use Rattle.std.specs.List.{Contains}
use Rattle.rt_outside.specs.Store.{contents_told}
use Rattle.run_base.specs.Outside.{outside}
use Rattle.run_base.proofs.Chosen.{carried_within, each, rose_later}
use Rattle.run_merge.specs.Merged.{found_in, merge_report}
use Rattle.run_merge.specs.Gathering.{gathered_report}
use Rattle.run_merge.proofs.Gathers.{report_is}
use Rattle.run_merge.proofs.Writes.{read_told}
use Rattle.run_merge.proofs.command.merge.Goals as goal

-- all files were read
pub returns-in-Ok : goal.returns-in-Ok
returns-in-Ok g c =
    let first = g.F.Files.state c.args.files.now in
    let later = g.F.Files.state c.read_all.new.files in
    carried_within (λ held. gathered_report c.in-Ok.gathered) (merge_report c.args.names.now) (λ name. ⊥) (Contains c.args.names.now) later (g.S.Sink.state c.args.out.now) (g.E.Sink.state c.args.err.now)
    (outside later (g.S.Sink.state c.write_gathered.new.out) (g.E.Sink.state c.write_gathered.new.err)) c.write_gathered.result (λ name none. absurd none) first
    (rose_later first.faults later.faults later.faults c.in-Ok.ensures.later) c.in-Ok.ensures.contents
    (each (contents_told first.told) _ (λ held. gathered_report c.in-Ok.gathered ≡ merge_report c.args.names.now held) (λ held is. report_is (found_in held c.args.names.now) c.in-Ok.gathered is) c.in-Ok.ensures.found)
    (c.write_gathered.ensures later)

-- one couldn't be read
pub returns-in-Err : goal.returns-in-Err
returns-in-Err g c = read_told (merge_report c.args.names.now) (Contains c.args.names.now) _ _ _ _ _ c.say_input_fault.result c.in-Err.fault c.in-Err.ensures.fault c.say_input_fault.ensures
