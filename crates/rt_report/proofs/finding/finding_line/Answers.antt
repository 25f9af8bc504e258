use Rattle.std.proofs.Common.{[]}
use Rattle.rule_table.specs.Rows.{cites_at}
use Rattle.rt_report.proofs.Ranges.{formed_in_range}
use Rattle.rt_report.proofs.finding.finding_line.Goals as goal

pub finding_text-requires : goal.finding_text-requires
finding_text-requires c =
    let broken = c.facts.ensures.breaks in
    rw (c.as_slice-facts.ensures, c.facts.ensures.facts) (formed_in_range c.args.finding.now.place [] (cites_at c.args.finding.now.rule c.args.finding.now.place) c.args.finding.now.facts broken.formed)
