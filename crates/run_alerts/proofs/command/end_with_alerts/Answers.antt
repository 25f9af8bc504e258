use Rattle.std.proofs.Common.{ap, inl, inr, refl, rules, sym, ◌∙◌}
use Rattle.rt_report.proofs.Joined.{or_false}
use Rattle.run_base.specs.Report.{found}
use Rattle.run_alerts.proofs.command.end_with_alerts.Goals as goal

pub returns-in-Ok-clause-ends : goal.returns-in-Ok-clause-ends
returns-in-Ok-clause-ends g c = inl (record {
  written = c.in-Ok.ensures.whole;
  answer = c.found.ensures.answer ∙ ap found (sym (or_false c.args.end.now.error));
  silent = refl;
})

pub returns-in-Err-clause-ends : goal.returns-in-Err-clause-ends
returns-in-Err-clause-ends g c = inr (record {
  part = c.put_alerts.ensures.part;
  why = c.in-Err.fault;
  not_read = λ e. c.in-Err.ensures.not_read (search rules);
  write = λ e. c.in-Err.ensures.write (search rules);
  says = c.say_fault.ensures;
})
