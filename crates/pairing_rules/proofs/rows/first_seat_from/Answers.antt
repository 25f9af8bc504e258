use Rattle.std.specs.Ordering.{is_le}
use Rattle.pairing_rules.specs.Seats.{seat_cmp}
use Rattle.pairing_rules.proofs.Seated.{next-some, next-none}
use Rattle.pairing_rules.proofs.rows.first_seat_from.Goals as goal

pub returns-in-Some-clause-first : goal.returns-in-Some-clause-first
returns-in-Some-clause-first c = next-some (λ s. is_le (seat_cmp c.args.low.now s)) c.args.seats.now.entries c.range.result c.next.new.self (c.in-Some.seat.now, c.in-Some.field-0-1.now) (c.range.ensures.between tt) c.in-Some.ensures.steps

pub returns-in-None-clause-first : goal.returns-in-None-clause-first
returns-in-None-clause-first c = next-none (λ s. is_le (seat_cmp c.args.low.now s)) c.args.seats.now.entries c.range.result (c.range.ensures.between tt) c.in-None.ensures.steps.0
