-- Which alerts are in force at a moment, for whom, and when that can change next.
-- (GTFS Realtime Reference 2.0, "Alert", "TimeRange" and "EntitySelector". That a selector is looked at by one of its ids alone is
-- this profile's.)
use Rattle.std.specs.Prelude.{ℕ, nat_lt, nat_le, ℤ, pos, negsuc, Bool, true, false, ◌&&◌, ◌||◌, List, [], ◌∷◌, map, Option, Some, None, option_map, bytes_eq, if◌then◌else◌}
use Rattle.std.specs.List.{cons_option, filter, filter_map, flat_map, fold, list_any}
use Rattle.std.specs.Option.{option_and_then}
use Rattle.feed_values.specs.Schema.{Value}
use Rattle.feed_values.specs.Messages.{alert, entity, entity_selector, time_range, trip_descriptor}
use Rattle.rule_table.specs.declared.key.EntityKey.{EntityKey}
use Rattle.alert_terms.specs.declared.period.Period.{Period}
use Rattle.alert_terms.specs.declared.query.Query.{Query}
use Rattle.alert_terms.specs.declared.query.Query.TheVariants.{Agency, Route, Trip, Stop}

-- ---- an alert, as far as it is looked at
-- the ids of an entity selector, and the route that its trip names
pub record Selector : Type 0 where
  pub agency_id : Option (List ℕ)
  pub route_id : Option (List ℕ)
  pub trip_id : Option (List ℕ)
  pub trip_route_id : Option (List ℕ)
  pub stop_id : Option (List ℕ)

-- the key of its entity, when it is shown, and whom it concerns
pub record Terms : Type 0 where
  pub key : EntityKey
  pub periods : List Period
  pub selectors : List Selector

-- ---- when: an alert is active in each of its periods, and where it has none as long as it is in the feed
-- a period without a start has begun always, and one without an end lasts
abbrev pub has_begun : Option ℕ → ℕ → Bool
has_begun None moment = true
has_begun (Some start) moment = nat_le start moment

abbrev pub lasts : Option ℕ → ℕ → Bool
lasts None moment = true
lasts (Some end) moment = nat_lt moment end

-- from its start on, and before its end
abbrev pub is_open : ℕ → Period → Bool
is_open moment p = has_begun p.start moment && lasts p.end moment

abbrev pub is_active : ℕ → List Period → Bool
is_active moment [] = true
is_active moment (p ∷ ps) = list_any (is_open moment) (p ∷ ps)

-- ---- whom: an alert concerns an agency, a route, a trip or a stop where one of its selectors has the id
abbrev pub gives : Option (List ℕ) → List ℕ → Bool
gives None id = false
gives (Some given) id = bytes_eq given id

-- other fields of the selector don't matter
abbrev pub selects : Query → Selector → Bool
selects (Agency id) s = gives s.agency_id id
selects (Route id) s = gives s.route_id id || gives s.trip_route_id id
selects (Trip id) s = gives s.trip_id id
selects (Stop id) s = gives s.stop_id id

abbrev pub concerns : Query → List Selector → Bool
concerns query selectors = list_any (selects query) selectors

-- ---- the answer: the keys of all alerts that are active and concern whom is asked for, in the order of the alerts
abbrev pub is_in_force : ℕ → Query → Terms → Bool
is_in_force moment query a = is_active moment a.periods && concerns query a.selectors

abbrev pub in_force : ℕ → Query → List Terms → List EntityKey
in_force moment query alerts = map (λ a. a.key) (filter (is_in_force moment query) alerts)

-- ---- the next change: the least start or end after a moment, of all periods of all alerts
abbrev pub bounds_of : Period → List ℕ
bounds_of p = cons_option p.start (cons_option p.end [])

abbrev pub bounds_in : Terms → List ℕ
bounds_in a = flat_map bounds_of a.periods

abbrev pub all_bounds : List Terms → List ℕ
all_bounds alerts = flat_map bounds_in alerts

-- the lesser of a number, if there is one, and of another
abbrev pub lesser : Option ℕ → ℕ → ℕ
lesser None n = n
lesser (Some m) n = if nat_lt n m then n else m

-- the least of a number, if there is one, and of others, if there are any
abbrev pub earliest : Option ℕ → List ℕ → Option ℕ
earliest before ns = fold (λ o n. Some (lesser o n)) before ns

abbrev pub next_change : ℕ → List Terms → Option ℕ
next_change moment alerts = earliest None (filter (nat_lt moment) (all_bounds alerts))

-- ---- what of an alert is looked at
-- a number that a message holds without a sign
abbrev pub unsigned : ℤ → ℕ
unsigned (pos n) = n
unsigned (negsuc n) = 0

abbrev pub period_of : Value time_range → Period
period_of p = record { start = option_map unsigned p.0; end = option_map unsigned p.1.0 }

abbrev pub trip_id_of : Value trip_descriptor → Option (List ℕ)
trip_id_of t = t.0

abbrev pub trip_route_of : Value trip_descriptor → Option (List ℕ)
trip_route_of t = t.1.1.1.1.0

abbrev pub selector_of : Value entity_selector → Selector
selector_of s = record {
  agency_id = s.0;
  route_id = s.1.0;
  trip_id = option_and_then trip_id_of s.1.1.1.0;
  trip_route_id = option_and_then trip_route_of s.1.1.1.0;
  stop_id = s.1.1.1.1.0;
}

abbrev pub terms_of : EntityKey → Value alert → Terms
terms_of key a = record { key = key; periods = map period_of a.0; selectors = map selector_of a.1.0 }

-- ---- the alerts of entities
abbrev pub alert_of : Value entity → Option (Value alert)
alert_of e = e.1.1.1.1.0

-- an entity under its key, as what it says
abbrev pub KeyedEntity : Type 0
KeyedEntity = EntityKey × Value entity

abbrev pub alerts_in : List KeyedEntity → List Terms
alerts_in es = filter_map (λ e. option_map (terms_of e.0) (alert_of e.1)) es
