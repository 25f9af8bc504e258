use Rattle.rt_report.proofs.Floats.{closed_has_none}
use Rattle.rt_report.proofs.closed.closed_line.Goals as goal

pub line_of-requires : goal.line_of-requires
line_of-requires c = rw (c.in_ok-value.ensures) (closed_has_none c.args.rule c.args.place.now)
