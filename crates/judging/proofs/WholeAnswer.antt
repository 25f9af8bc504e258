-- What all rules are answered at an entity is what its source answers.
use Rattle.std.specs.Prelude.{◌≡◌, List, Option, Some, None, refl}
use Rattle.feed_values.specs.Schema.{Value}
use Rattle.feed_values.specs.Messages.{entity}
use Rattle.timetable.specs.Timetables.{Tables}
use Rattle.rule_table.specs.declared.ask.Ask.{Ask}
use Rattle.rule_table.specs.declared.ask.Ask.TheVariants as ask
use Rattle.feed_values.specs.declared.cell_value.CellValue.{CellValue}
use Rattle.feed_values.specs.declared.cell_value.CellValue.TheVariants as value
use Rattle.rule_table.specs.declared.key.EntityKey.{EntityKey}
use Rattle.rule_table.specs.Answers.{Heads, heads_answer, pair_answer}
use Rattle.rule_history.specs.Answered.{local_answer}
use Rattle.rule_table.specs.Pairs.{PairRow}
use Rattle.judging.specs.Answering.{answered_by}
use Rattle.judging.specs.declared.entity_answers.Answering.TheVariants as by
use Rattle.judging.specs.Whole.{rows_alone, whole_answer}

module _ (rows : List PairRow) (heads : Heads) (k : EntityKey) (e : Value entity) where
  pub by_heads : (t : Option Tables) (q : Ask) → answered_by q ≡ by.Heads → heads_answer heads q ≡ whole_answer t (rows_alone rows) heads k e q
  by_heads t (ask.HeadNow slot) h = refl
  by_heads t (ask.HeadBefore slot) h = refl
  by_heads t ask.Moment h = refl
  by_heads t ask.EntitiesChanged h = refl
  by_heads t _ h = cc

  pub by_local : (t : Option Tables) (q : Ask) → answered_by q ≡ by.Local → local_answer t k e q ≡ whole_answer t (rows_alone rows) heads k e q
  by_local None (ask.HeadNow slot) h = cc
  by_local None (ask.HeadBefore slot) h = cc
  by_local None ask.Moment h = cc
  by_local None ask.EntitiesChanged h = cc
  by_local None (ask.FirstVehicle kind trip) h = cc
  by_local None (ask.HasPair kind trip vehicle) h = cc
  by_local None (ask.AnyRow kind) h = cc
  by_local None (ask.HasTrip kind trip) h = cc
  by_local None (ask.HasVehicle kind vehicle) h = cc
  by_local None (ask.FirstId feed vehicle) h = cc
  by_local None (ask.FirstOccurrence feed vehicle) h = cc
  by_local None (ask.Peak feed vehicle) h = cc
  by_local None (ask.Cell path) h = refl
  by_local None _ h = refl
  by_local (Some u) (ask.HeadNow slot) h = cc
  by_local (Some u) (ask.HeadBefore slot) h = cc
  by_local (Some u) ask.Moment h = cc
  by_local (Some u) ask.EntitiesChanged h = cc
  by_local (Some u) (ask.FirstVehicle kind trip) h = cc
  by_local (Some u) (ask.HasPair kind trip vehicle) h = cc
  by_local (Some u) (ask.AnyRow kind) h = cc
  by_local (Some u) (ask.HasTrip kind trip) h = cc
  by_local (Some u) (ask.HasVehicle kind vehicle) h = cc
  by_local (Some u) (ask.FirstId feed vehicle) h = cc
  by_local (Some u) (ask.FirstOccurrence feed vehicle) h = cc
  by_local (Some u) (ask.Peak feed vehicle) h = cc
  by_local (Some u) (ask.Cell path) h = refl
  by_local (Some u) _ h = refl

  -- whatever entity stands beside the rows
  pub by_rows : (l : EntityKey) (f : Value entity) (t : Option Tables) (q : Ask) → answered_by q ≡ by.Pairs → pair_answer rows l f q ≡ whole_answer t (rows_alone rows) heads k e q
  by_rows l f None (ask.FirstVehicle kind trip) h = refl
  by_rows l f None (ask.HasPair kind trip vehicle) h = refl
  by_rows l f None (ask.AnyRow kind) h = refl
  by_rows l f None (ask.HasTrip kind trip) h = refl
  by_rows l f None (ask.HasVehicle kind vehicle) h = refl
  by_rows l f None (ask.FirstId feed vehicle) h = refl
  by_rows l f None (ask.FirstOccurrence feed vehicle) h = refl
  by_rows l f None _ h = cc
  by_rows l f (Some u) (ask.FirstVehicle kind trip) h = refl
  by_rows l f (Some u) (ask.HasPair kind trip vehicle) h = refl
  by_rows l f (Some u) (ask.AnyRow kind) h = refl
  by_rows l f (Some u) (ask.HasTrip kind trip) h = refl
  by_rows l f (Some u) (ask.HasVehicle kind vehicle) h = refl
  by_rows l f (Some u) (ask.FirstId feed vehicle) h = refl
  by_rows l f (Some u) (ask.FirstOccurrence feed vehicle) h = refl
  by_rows l f (Some u) _ h = cc

  -- no vehicle has a peak
  pub by_peaks : (t : Option Tables) (q : Ask) → answered_by q ≡ by.Peaks → Some (let none : CellValue = value.Missing in none) ≡ whole_answer t (rows_alone rows) heads k e q
  by_peaks None (ask.Peak feed vehicle) h = refl
  by_peaks None (ask.HeadNow slot) h = cc
  by_peaks None _ h = cc
  by_peaks (Some u) (ask.Peak feed vehicle) h = refl
  by_peaks (Some u) _ h = cc
