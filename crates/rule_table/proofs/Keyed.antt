-- What an entry asks is asked of its keys.
use Rattle.std.specs.Prelude.{◌≡◌, ℕ, List, Option, Some, None, option_map, refl}
use Rattle.feed_values.specs.declared.cell_value.CellValue.{CellValue}
use Rattle.rule_table.specs.declared.ask.Ask.{Ask}
use Rattle.rule_table.specs.declared.ask.Ask.TheVariants as ask
use Rattle.rule_table.specs.declared.place.Place.{Place}
use Rattle.rule_table.specs.declared.row.Cite.{Cite}
use Rattle.rule_table.specs.declared.row.Cite.TheVariants as cite
use Rattle.rule_table.specs.Asked.{slot_of, feed_of, event_ask, other_kind, id_ask, text_at, sequence_at, with_both, ask_at}
use Rattle.rule_table.specs.Keys.{text_keys, two_keys, stop_keys, keys_at, ask_with}

of_text : (make : List ℕ → Ask) (a : Option (List ℕ)) → option_map make a ≡ option_map (λ keys. make keys.text) (text_keys a)
of_text make None = refl
of_text make (Some a) = refl

of_two : (make : List ℕ → List ℕ → Ask) (a b : Option (List ℕ)) → with_both make a b ≡ option_map (λ keys. make keys.text keys.other) (two_keys a b)
of_two make None b = refl
of_two make (Some a) None = refl
of_two make (Some a) (Some b) = refl

of_stop : (make : List ℕ → ℕ → Ask) (a : Option (List ℕ)) (n : Option ℕ) → with_both make a n ≡ option_map (λ keys. make keys.text keys.sequence) (stop_keys a n)
of_stop make None n = refl
of_stop make (Some a) None = refl
of_stop make (Some a) (Some n) = refl

pub asked : (at : Place) (vs : List CellValue) (c : Cite) → ask_at at vs c ≡ option_map (λ keys. ask_with at keys c) (keys_at vs c)
asked at vs (cite.TripKnown k) = of_text ask.TripKnown (text_at vs k)
asked at vs (cite.RouteKnown k) = of_text ask.RouteKnown (text_at vs k)
asked at vs (cite.AgencyKnown k) = of_text ask.AgencyKnown (text_at vs k)
asked at vs (cite.StopKind k) = of_text ask.StopKind (text_at vs k)
asked at vs (cite.TripRoute k) = of_text ask.TripRoute (text_at vs k)
asked at vs (cite.TripDirection k) = of_text ask.TripDirection (text_at vs k)
asked at vs (cite.TripExact k) = of_text ask.TripExact (text_at vs k)
asked at vs (cite.OnGrid j k) = of_two ask.OnGrid (text_at vs j) (text_at vs k)
asked at vs (cite.VisitsTwice k) = of_text ask.VisitsTwice (text_at vs k)
asked at vs (cite.FirstArrival k) = of_text ask.FirstArrival (text_at vs k)
asked at vs (cite.StopAt j k) = of_stop ask.StopAt (text_at vs j) (sequence_at vs k)
asked at vs (cite.EventAt j k) = of_stop (event_ask (slot_of at)) (text_at vs j) (sequence_at vs k)
asked at vs (cite.FirstVehicle k) = of_text (ask.FirstVehicle (other_kind (slot_of at))) (text_at vs k)
asked at vs (cite.HasPair j k) = of_two (ask.HasPair (other_kind (slot_of at))) (text_at vs j) (text_at vs k)
asked at vs (cite.HasId k) = of_text (id_ask (slot_of at)) (text_at vs k)
asked at vs (cite.FirstId k) = of_text (ask.FirstId (feed_of at)) (text_at vs k)
asked at vs (cite.FirstOccurrence k) = of_text (ask.FirstOccurrence (feed_of at)) (text_at vs k)
asked at vs (cite.Peak k) = of_text (ask.Peak (feed_of at)) (text_at vs k)
asked at vs _ = refl
