use Rattle.std.proofs.Common.{◌≡◌, Some, ap, sym, ◌∙◌, w8, w16, w32, to_z, pos, FitsSigned, arith}
use Rattle.std.proofs.Math.Facts.{to_z_pos}
use Rattle.std.proofs.lemmas.Int.{to_z-of_z}
use Rattle.jiff_core.proofs.SignedLemmas.{signed_arith}
use Rattle.jiff.specs.Words.{IsYmd, epoch_day}
use Rattle.rt_day.proofs.DateLemmas.{day_of-date, made_ok}
use Rattle.rt_day.proofs.date.day_of.Goals as goal

pub returns : goal.returns
returns c =
    let year : to_z w16 c.args.year ≡ pos c.args.year = to_z_pos w16 (omega arith) in
    let month : to_z w8 c.args.month ≡ pos c.args.month = to_z_pos w8 (omega arith) in
    let day : to_z w8 c.args.day ≡ pos c.args.day = to_z_pos w8 (omega arith) in
    let value = rw (year, month, day) at c.new.ensures.value in
    let date = made_ok c.new.result (IsYmd (pos c.args.year) (pos c.args.month) (pos c.args.day)) c.in_ok-date.date (sym c.ok.ensures.value ∙ c.in_ok-date.was) value in
    let fits : FitsSigned w32 c.to_unix_epoch_day.result = omega (arith, signed_arith, c.to_unix_epoch_day.ensures.bound) in
    ap Some (to_z-of_z w32 c.to_unix_epoch_day.result fits ∙ c.to_unix_epoch_day.ensures.value ∙ ap epoch_day c.to_plain.ensures) ∙ day_of-date c.args.year c.args.month c.args.day c.in_ok-date.date date
