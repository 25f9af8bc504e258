use Rattle.std.proofs.Common.{◌≡◌, ℤ, pos, ◌+ℤ◌, ◌-ℤ◌, ◌*ℤ◌, int_div, ap, sym, ◌∙◌, rules}
use Rattle.jiff.specs.Words.{ambiguous_at, compatible_offset, instant_of, nanos_of_seconds, plain_zone}
use Rattle.trip_calendar.proofs.OriginLemmas.{HasOrigin, has_origin, half_day_back, noon_instant, noon_is_instant, whole_seconds}
use Rattle.trip_calendar.proofs.origins.origin.Goals as goal

pub unwrap-instant-requires : goal.unwrap-instant-requires
unwrap-instant-requires c =
    let within : HasOrigin c.args.day.number = has_origin c.args.day.number (c.year_in_range.ensures.0 (search rules)) in
    let offset = compatible_offset (ambiguous_at (plain_zone c.time_zone.result) c.noon_of.result) in
    c.to_timestamp.ensures.succeeds.1 (noon_is_instant c.args.day.number c.noon_of.result offset within c.noon_of.ensures)

pub returns-clause-value : goal.returns-clause-value
returns-clause-value c =
    let within : HasOrigin c.args.day.number = has_origin c.args.day.number (c.year_in_range.ensures.0 (search rules)) in
    let noon = c.noon_of.result in
    let offset = compatible_offset (ambiguous_at (plain_zone c.time_zone.result) noon) in
    let k : ℤ = c.args.day.number *ℤ pos 86_400 +ℤ pos 43_200 -ℤ offset.seconds in
    let instant = noon_instant c.args.day.number noon offset c.noon_of.ensures in
    let nanos = rw c.unwrap-instant.ensures at c.to_timestamp.ensures.value in
    let seconds : c.as_second.result ≡ k = c.as_second.ensures ∙ ap (λ n. int_div n (pos 1_000_000_000)) (nanos ∙ instant) ∙ whole_seconds k in
    (noon, c.noon_of.ensures, rw seconds (ap nanos_of_seconds (half_day_back c.args.day.number offset within)) ∙ sym instant ∙ ap (λ a. instant_of noon (compatible_offset a)) (c.time_zone.ensures.choices noon))
