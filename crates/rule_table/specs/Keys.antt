-- The keys that a row's entry names among the values that were cited before it, and what it asks of them.
use Rattle.std.specs.Prelude.{◌≡◌, ℕ, ◌-◌, List, [], Option, Some, None}
use Rattle.feed_values.specs.declared.cell_value.CellValue.{CellValue}
use Rattle.rule_table.specs.declared.ask.Ask.{Ask}
use Rattle.rule_table.specs.declared.ask.Ask.TheVariants as ask
use Rattle.rule_table.specs.declared.asking.Keys.{Keys}
use Rattle.rule_table.specs.declared.place.Place.{Place}
use Rattle.rule_table.specs.declared.row.Cite.{Cite}
use Rattle.rule_table.specs.declared.row.Cite.TheVariants as cite
use Rattle.rule_table.specs.Asked.{slot_of, index_of, feed_of, place_ask, cell_ask, beside, trip_id_of, start_time_of, start_date_of, relationship_of, delay_of, time_of, holder_of, event_ask, other_kind, id_ask, text_at, sequence_at}

-- what isn't named is empty or 0
pub record AskKeys : Type 0 where
  pub text : List ℕ
  pub other : List ℕ
  pub sequence : ℕ

abbrev pub keys_value : Keys → AskKeys
keys_value k = record { text = k.text.now; other = k.other.now; sequence = k.sequence }

abbrev pub text_keys : Option (List ℕ) → Option AskKeys
text_keys None = None
text_keys (Some a) = Some (record { text = a; other = []; sequence = 0 })

abbrev pub two_keys : Option (List ℕ) → Option (List ℕ) → Option AskKeys
two_keys None b = None
two_keys (Some a) None = None
two_keys (Some a) (Some b) = Some (record { text = a; other = b; sequence = 0 })

abbrev pub stop_keys : Option (List ℕ) → Option ℕ → Option AskKeys
stop_keys None n = None
stop_keys (Some a) None = None
stop_keys (Some a) (Some n) = Some (record { text = a; other = []; sequence = n })

abbrev pub keys_at : List CellValue → Cite → Option AskKeys
keys_at vs (cite.TripKnown k) = text_keys (text_at vs k)
keys_at vs (cite.RouteKnown k) = text_keys (text_at vs k)
keys_at vs (cite.AgencyKnown k) = text_keys (text_at vs k)
keys_at vs (cite.StopKind k) = text_keys (text_at vs k)
keys_at vs (cite.TripRoute k) = text_keys (text_at vs k)
keys_at vs (cite.TripDirection k) = text_keys (text_at vs k)
keys_at vs (cite.TripExact k) = text_keys (text_at vs k)
keys_at vs (cite.OnGrid j k) = two_keys (text_at vs j) (text_at vs k)
keys_at vs (cite.VisitsTwice k) = text_keys (text_at vs k)
keys_at vs (cite.FirstArrival k) = text_keys (text_at vs k)
keys_at vs (cite.StopAt j k) = stop_keys (text_at vs j) (sequence_at vs k)
keys_at vs (cite.EventAt j k) = stop_keys (text_at vs j) (sequence_at vs k)
keys_at vs (cite.FirstVehicle k) = text_keys (text_at vs k)
keys_at vs (cite.HasPair j k) = two_keys (text_at vs j) (text_at vs k)
keys_at vs (cite.HasId k) = text_keys (text_at vs k)
keys_at vs (cite.FirstId k) = text_keys (text_at vs k)
keys_at vs (cite.FirstOccurrence k) = text_keys (text_at vs k)
keys_at vs (cite.Peak k) = text_keys (text_at vs k)
keys_at vs _ = Some (record { text = []; other = []; sequence = 0 })

abbrev pub ask_with : Place → AskKeys → Cite → Ask
ask_with at keys cite.Place = place_ask at
ask_with at keys (cite.Cell s) = cell_ask at s (index_of at)
ask_with at keys (cite.Before s) = cell_ask at s (index_of at - 1)
ask_with at keys cite.TripId = beside trip_id_of at
ask_with at keys cite.StartTime = beside start_time_of at
ask_with at keys cite.StartDate = beside start_date_of at
ask_with at keys cite.Relationship = beside relationship_of at
ask_with at keys cite.Delay = beside delay_of at
ask_with at keys cite.Time = beside time_of at
ask_with at keys cite.Holder = beside holder_of at
ask_with at keys (cite.HeadNow s) = ask.HeadNow s
ask_with at keys (cite.HeadBefore s) = ask.HeadBefore s
ask_with at keys cite.Moment = ask.Moment
ask_with at keys cite.Occurrence = ask.Occurrence
ask_with at keys cite.EntitiesChanged = ask.EntitiesChanged
ask_with at keys (cite.TripKnown k) = ask.TripKnown keys.text
ask_with at keys (cite.RouteKnown k) = ask.RouteKnown keys.text
ask_with at keys (cite.AgencyKnown k) = ask.AgencyKnown keys.text
ask_with at keys (cite.StopKind k) = ask.StopKind keys.text
ask_with at keys (cite.TripRoute k) = ask.TripRoute keys.text
ask_with at keys (cite.TripDirection k) = ask.TripDirection keys.text
ask_with at keys (cite.TripExact k) = ask.TripExact keys.text
ask_with at keys (cite.OnGrid j k) = ask.OnGrid keys.text keys.other
ask_with at keys (cite.VisitsTwice k) = ask.VisitsTwice keys.text
ask_with at keys (cite.FirstArrival k) = ask.FirstArrival keys.text
ask_with at keys (cite.StopAt j k) = ask.StopAt keys.text keys.sequence
ask_with at keys (cite.EventAt j k) = event_ask (slot_of at) keys.text keys.sequence
ask_with at keys (cite.FirstVehicle k) = ask.FirstVehicle (other_kind (slot_of at)) keys.text
ask_with at keys (cite.HasPair j k) = ask.HasPair (other_kind (slot_of at)) keys.text keys.other
ask_with at keys cite.AnyRow = ask.AnyRow (other_kind (slot_of at))
ask_with at keys (cite.HasId k) = id_ask (slot_of at) keys.text
ask_with at keys (cite.FirstId k) = ask.FirstId (feed_of at) keys.text
ask_with at keys (cite.FirstOccurrence k) = ask.FirstOccurrence (feed_of at) keys.text
ask_with at keys (cite.Peak k) = ask.Peak (feed_of at) keys.text
