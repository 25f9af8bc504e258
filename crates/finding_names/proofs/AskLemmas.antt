-- The names and keys of asks are read as the asks.
use Rattle.std.proofs.Common.{◌≡◌, ℕ, List, Some, refl, ap, lit<}
use Rattle.std.specs.Prelude.{option_map}
use Rattle.feed_values.specs.declared.slot.Slot.{Slot}
use Rattle.feed_values.specs.Cells.{path_text}
use Rattle.rule_table.specs.declared.ask.Ask.{Ask}
use Rattle.rule_table.specs.declared.ask.Ask.TheVariants as ask
use Rattle.rule_table.specs.declared.kind.Kind.{Kind}
use Rattle.rt_report.specs.Findings.{ask_keys, ask_name}
use Rattle.finding_names.specs.Laws.{IsAskWithin, ask_read}
use Rattle.finding_names.specs.Paths.{path_named}
use Rattle.finding_names.proofs.NameLemmas.{kind_read}
use Rattle.finding_names.proofs.NumberLemmas.{u8_read, u32_read}
use Rattle.finding_names.proofs.PathLemmas.{path_read}

pub head_read : (s : Slot) → path_named (path_text s 0) ≡ Some (record { slot = s; index = 0 })
head_read s = path_read (record { slot = s; index = 0 }) (record { plain = λ _. refl; small = lit< tt })

pub ask_read_back : (a : Ask) → IsAskWithin a → ask_read (ask_name a) (ask_keys a) ≡ Some a
ask_read_back (ask.Cell p) h = ap (option_map ask.Cell) (path_read p h)
ask_read_back (ask.HeadNow s) h = ap (option_map (λ path. ask.HeadNow path.slot)) (head_read s)
ask_read_back (ask.HeadBefore s) h = ap (option_map (λ path. ask.HeadBefore path.slot)) (head_read s)
ask_read_back ask.Moment h = refl
ask_read_back ask.Occurrence h = refl
ask_read_back ask.EntitiesChanged h = refl
ask_read_back (ask.TripKnown trip) h = refl
ask_read_back (ask.RouteKnown route) h = refl
ask_read_back (ask.AgencyKnown agency) h = refl
ask_read_back (ask.StopKind stop) h = refl
ask_read_back (ask.TripRoute trip) h = refl
ask_read_back (ask.TripDirection trip) h = refl
ask_read_back (ask.TripExact trip) h = refl
ask_read_back (ask.OnGrid trip time) h = refl
ask_read_back (ask.VisitsTwice trip) h = refl
ask_read_back (ask.FirstArrival trip) h = refl
ask_read_back (ask.StopAt trip n) h = ap (λ o. option_map (λ (p : List ℕ × ℕ). ask.StopAt p.0 p.1) (option_map (λ m. (trip, m)) o)) (u32_read n h)
ask_read_back (ask.ArrivalAt trip n) h = ap (λ o. option_map (λ (p : List ℕ × ℕ). ask.ArrivalAt p.0 p.1) (option_map (λ m. (trip, m)) o)) (u32_read n h)
ask_read_back (ask.DepartureAt trip n) h = ap (λ o. option_map (λ (p : List ℕ × ℕ). ask.DepartureAt p.0 p.1) (option_map (λ m. (trip, m)) o)) (u32_read n h)
ask_read_back (ask.FirstVehicle k trip) h = ap (λ o. option_map (λ (p : Kind × List ℕ). ask.FirstVehicle p.0 p.1) (option_map (λ l. (l, trip)) o)) (kind_read k)
ask_read_back (ask.HasPair k trip vehicle) h = ap (λ o. option_map (λ (p : Kind × List ℕ × List ℕ). ask.HasPair p.0 p.1 p.2) (option_map (λ l. (l, trip, vehicle)) o)) (kind_read k)
ask_read_back (ask.AnyRow k) h = ap (option_map ask.AnyRow) (kind_read k)
ask_read_back (ask.HasTrip k trip) h = ap (λ o. option_map (λ (p : Kind × List ℕ). ask.HasTrip p.0 p.1) (option_map (λ l. (l, trip)) o)) (kind_read k)
ask_read_back (ask.HasVehicle k vehicle) h = ap (λ o. option_map (λ (p : Kind × List ℕ). ask.HasVehicle p.0 p.1) (option_map (λ l. (l, vehicle)) o)) (kind_read k)
ask_read_back (ask.FirstId feed vehicle) h = ap (λ o. option_map (λ (p : ℕ × List ℕ). ask.FirstId p.0 p.1) (option_map (λ m. (m, vehicle)) o)) (u8_read feed h)
ask_read_back (ask.FirstOccurrence feed vehicle) h = ap (λ o. option_map (λ (p : ℕ × List ℕ). ask.FirstOccurrence p.0 p.1) (option_map (λ m. (m, vehicle)) o)) (u8_read feed h)
ask_read_back (ask.Peak feed vehicle) h = ap (λ o. option_map (λ (p : ℕ × List ℕ). ask.Peak p.0 p.1) (option_map (λ m. (m, vehicle)) o)) (u8_read feed h)
