use Rattle.std.proofs.Common.{◌≡◌, ◌≤◌}
use Rattle.rt_outside.specs.Store.{contents_told}
use Rattle.rule_history.specs.Answered.{tables_of}
use Rattle.run_base.specs.Counted.{counters}
use Rattle.run_list.specs.Taken.{IsInWithin}
use Rattle.run_list.proofs.RowByRow.{AreCounted, Done}
use Rattle.run_list.proofs.rows.follow_rows.Given as goal

-- the engine is in a state of no more snapshots than rows so far, whose lines are what was written and whose work was counted
abbrev pub invariant-loop-index : goal.invariant-loop-index
invariant-loop-index g l =
    record {
      told : contents_told (g.F.Files.state l.files).told ≡ contents_told (g.F.Files.state l.fn.files).told;
      within : IsInWithin l.engine l.index;
      done : Done (contents_told (g.F.Files.state l.fn.files).told) (tables_of l.fn.table) (g.S.Sink.state l.fn.out).written l.rows l.engine l.error (g.S.Sink.state l.out).written l.index;
      counted : AreCounted (tables_of l.fn.table) l.rows (counters l.fn.decodes l.fn.tests) (contents_told (g.F.Files.state l.fn.files).told) (counters l.decodes l.tests) l.index;
      read_later : (g.F.Files.state l.fn.files).faults ≤ (g.F.Files.state l.files).faults;
      write_later : (g.S.Sink.state l.fn.out).faults ≤ (g.S.Sink.state l.out).faults;
    }
