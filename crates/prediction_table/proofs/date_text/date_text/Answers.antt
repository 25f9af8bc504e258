use Rattle.std.proofs.Common.{◌∙◌, ap, sym, subst, Some}
use Rattle.std.proofs.lemmas.Result.{IfOk-weaker}
use Rattle.rt_day.specs.Date.{IsYearInRange, date_of}
use Rattle.prediction_table.proofs.DateTexts.{date_read, year_from, year_to}
use Rattle.prediction_table.proofs.date_text.date_text.Goals as goal

pub date_number-number-requires : goal.date_number-number-requires
date_number-number-requires c =
    let within = subst IsYearInRange (sym c.date_of_day.ensures) c.requires in
    (year_from c.date_of_day.result within, year_to c.date_of_day.result within)

pub returns : goal.returns
returns c =
    let within = subst IsYearInRange (sym c.date_of_day.ensures) c.requires in
    IfOk-weaker c.format.result _ _
    (λ text h. ap date_of h
    ∙ date_read c.date_of_day.result c.date_number-number.result (year_from c.date_of_day.result within) (year_to c.date_of_day.result within) c.date_number-number.ensures
    ∙ ap Some c.date_of_day.ensures)
    c.format.ensures.ok
