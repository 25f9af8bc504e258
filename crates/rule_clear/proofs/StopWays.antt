-- The cells of an entity behind one of its stop time updates.
use Rattle.std.proofs.Common.{◌<◌, ◌-◌, slice_index_or, sym, ap, ◌∙◌, subst}
use Rattle.std.specs.Prelude.{◌≡◌, ℕ, ◌==◌, pos, true, List, length, drop, map, Option, Some, None, option_map, slice_get, refl}
use Rattle.std.proofs.lemmas.List.{length-map}
use Rattle.std.proofs.lemmas.Option.{slice_get-map, slice_get_read}
use Rattle.std.proofs.Math.Bool.{or-true}
use Rattle.feed_values.specs.Schema.{Value}
use Rattle.feed_values.specs.Messages.{entity, stop_time_update, stop_time_event}
use Rattle.feed_values.specs.Meaning.{option_case}
use Rattle.feed_values.specs.Cells.{cell_in, entity_cell, has_item_of, number_cell, text_cell, way}
use Rattle.feed_values.specs.Views.{natural, entity_value, stop_time_event_value, stop_time_properties_value, stop_time_update_value, trip_update_value}
use Rattle.feed_values.specs.declared.cell_value.CellValue.{CellValue}
use Rattle.feed_values.specs.declared.cell_value.CellValue.TheVariants.{Missing, Number}
use Rattle.feed_values.specs.declared.slot.Slot.{Slot}
use Rattle.feed_values.specs.declared.entity.Entity.{Entity}
use Rattle.feed_values.specs.declared.trip_update.TripUpdate.{TripUpdate}
use Rattle.feed_values.specs.declared.stop_time_event.StopTimeEvent.{StopTimeEvent}
use Rattle.feed_values.specs.declared.slot.Slot.TheVariants.{S31, S32, S33, S34, S35, S36, S37, S38, S39, S40, S41}
use Rattle.feed_values.specs.declared.stop_time_properties.StopTimeProperties.{StopTimeProperties}
use Rattle.feed_values.specs.declared.stop_time_update.StopTimeUpdate.{StopTimeUpdate}
use Rattle.std.specs.Option.{is_none}
use Rattle.rule_table.specs.Judged.{places_at}
use Rattle.rule_clear.specs.Sound.{AreUpdates, IsUpdateAt, StandsAlone, ComesAfter, IsSound, Follows, cells_at, cells_in}

-- the updates that an entity holds
pub held_updates : (e : Entity) (u : TripUpdate) (stops : List StopTimeUpdate) → e.trip_update ≡ Some u → u.stop_time_update ≡ stops → AreUpdates (entity_value e) stops
held_updates e u stops is list = record {
  update = trip_update_value u;
  held = ap (option_map trip_update_value) is;
  list = ap (map stop_time_update_value) list;
}

pub update_at : (e : Value entity) (stops : List StopTimeUpdate) (i : ℕ) (stop : StopTimeUpdate) → AreUpdates e stops → slice_get stops i ≡ Some stop → IsUpdateAt e i (stop_time_update_value stop)
update_at e stops i stop k h = record {
  update = k.update;
  held = k.held;
  item = ap (λ l. slice_get l i) k.list ∙ slice_get-map stop_time_update_value stops i ∙ ap (option_map stop_time_update_value) h;
}

pub read_at : (e : Value entity) (stops : List StopTimeUpdate) (i : ℕ) (stop : StopTimeUpdate) → AreUpdates e stops → i < length stops → stop ≡ slice_index_or stops i stop → IsUpdateAt e i (stop_time_update_value stop)
read_at e stops i stop k below h = update_at e stops i stop k (slice_get_read stops (length stops) i stop refl below h)

-- behind an update's own way
behind : (e : Value entity) (i : ℕ) (v : Value stop_time_update) (s : Slot) → has_item_of "stop_time_update" (way s) ≡ true → IsUpdateAt e i v
    → entity_cell e s i ≡ cell_in stop_time_update v 0 (drop 2 (way s))
behind e i v S31 h k = rw (or-true (i == 0), k.held, k.item) refl
behind e i v S32 h k = rw (or-true (i == 0), k.held, k.item) refl
behind e i v S33 h k = rw (or-true (i == 0), k.held, k.item) refl
behind e i v S34 h k = rw (or-true (i == 0), k.held, k.item) refl
behind e i v S35 h k = rw (or-true (i == 0), k.held, k.item) refl
behind e i v S36 h k = rw (or-true (i == 0), k.held, k.item) refl
behind e i v S37 h k = rw (or-true (i == 0), k.held, k.item) refl
behind e i v S38 h k = rw (or-true (i == 0), k.held, k.item) refl
behind e i v S39 h k = rw (or-true (i == 0), k.held, k.item) refl
behind e i v S40 h k = rw (or-true (i == 0), k.held, k.item) refl
behind e i v S41 h k = rw (or-true (i == 0), k.held, k.item) refl
behind e i v _ h k = absurd cc

of_event : (held : Option StopTimeEvent) (f : StopTimeEvent → CellValue) (g : Value stop_time_event → CellValue) → ((event : StopTimeEvent) → f event ≡ g (stop_time_event_value event))
    → option_case held Missing f ≡ option_case (option_map stop_time_event_value held) Missing g
of_event None f g h = refl
of_event (Some event) f g h = h event

no_properties : (held : Option StopTimeProperties) → is_none held ≡ true → option_case (option_map stop_time_properties_value held) Missing (λ v. text_cell v.0) ≡ Missing
no_properties None h = refl
no_properties (Some x) h = absurd (cc h)

-- the cells that an update says, where they are those of an entity
module _ (e : Value entity) (i : ℕ) (stop : StopTimeUpdate) (k : IsUpdateAt e i (stop_time_update_value stop)) where
  abbrev there : Slot → CellValue
  there s = entity_cell e s i

  pub sequence : number_cell (natural stop.stop_sequence) ≡ there S32
  sequence = sym (behind e i (stop_time_update_value stop) S32 refl k)

  pub id : text_cell stop.stop_id ≡ there S33
  id = sym (behind e i (stop_time_update_value stop) S33 refl k)

  pub relationship : number_cell (natural stop.schedule_relationship) ≡ there S34
  relationship = sym (behind e i (stop_time_update_value stop) S34 refl k)

  pub arrival : option_case stop.arrival Missing (λ _. Number (pos 1)) ≡ there S35
  arrival = of_event stop.arrival (λ _. Number (pos 1)) (λ _. Number (pos 1)) (λ _. refl) ∙ sym (behind e i (stop_time_update_value stop) S35 refl k)

  pub arrival_delay : option_case stop.arrival Missing (λ event. number_cell event.delay) ≡ there S36
  arrival_delay = of_event stop.arrival (λ event. number_cell event.delay) (λ v. number_cell v.0) (λ _. refl) ∙ sym (behind e i (stop_time_update_value stop) S36 refl k)

  pub arrival_time : option_case stop.arrival Missing (λ event. number_cell event.time) ≡ there S37
  arrival_time = of_event stop.arrival (λ event. number_cell event.time) (λ v. number_cell v.1.0) (λ _. refl) ∙ sym (behind e i (stop_time_update_value stop) S37 refl k)

  pub departure : option_case stop.departure Missing (λ _. Number (pos 1)) ≡ there S38
  departure = of_event stop.departure (λ _. Number (pos 1)) (λ _. Number (pos 1)) (λ _. refl) ∙ sym (behind e i (stop_time_update_value stop) S38 refl k)

  pub departure_delay : option_case stop.departure Missing (λ event. number_cell event.delay) ≡ there S39
  departure_delay = of_event stop.departure (λ event. number_cell event.delay) (λ v. number_cell v.0) (λ _. refl) ∙ sym (behind e i (stop_time_update_value stop) S39 refl k)

  pub departure_time : option_case stop.departure Missing (λ event. number_cell event.time) ≡ there S40
  departure_time = of_event stop.departure (λ event. number_cell event.time) (λ v. number_cell v.1.0) (λ _. refl) ∙ sym (behind e i (stop_time_update_value stop) S40 refl k)

  -- where it has no properties no other stop is assigned
  pub unassigned : is_none stop.stop_time_properties ≡ true → there S41 ≡ Missing
  unassigned h = behind e i (stop_time_update_value stop) S41 refl k ∙ no_properties stop.stop_time_properties h

  cells : cells_in stop ≡ cells_at e i
  cells = cc (sequence, id, relationship, arrival, arrival_delay, arrival_time, departure, departure_delay, departure_time)

  pub sound_there : StandsAlone (cells_in stop) → IsSound e i
  sound_there h = subst StandsAlone cells h

pub follows_there : (e : Value entity) (i : ℕ) (before stop : StopTimeUpdate) → IsUpdateAt e (i - 1) (stop_time_update_value before) → IsUpdateAt e i (stop_time_update_value stop)
    → ComesAfter (cells_in before) (cells_in stop) → Follows e i
follows_there e i before stop j k h below = subst (λ u. ComesAfter u (cells_at e i)) (cells e (i - 1) before j) (subst (ComesAfter (cells_in before)) (cells e i stop k) h)

-- how many there are
pub update_places : (e : Value entity) (stops : List StopTimeUpdate) → AreUpdates e stops → places_at e S31 ≡ length stops
update_places e stops k = rw k.held (ap length k.list ∙ length-map stops stop_time_update_value)
