-- The report of `predict`, by what its timetable and its zone are.
use Rattle.std.proofs.Common.{◌≡◌, ℕ, List, inl, inr, refl, sym, subst, IfSome, Ok, Err}
use Rattle.std.specs.declared.option.Option.{Option}
use Rattle.std.specs.FinMap.{get}
use Rattle.rt_outside.specs.Store.{Contents}
use Rattle.timetable.specs.Timetables.{Tables, tables_of}
use Rattle.timetable.specs.declared.LoadFault.{LoadFault}
use Rattle.trip_calendar.specs.Zones.{zone_of}
use Rattle.trip_calendar.specs.declared.zone.Zone.{Zone}
use Rattle.run_base.proofs.Chosen.{each}
use Rattle.run_base.specs.Found.{snapshot_in}
use Rattle.run_timetable.specs.Timetables.{refusal_text}
use Rattle.run_base.specs.Carried.{Extent, Whole}
use Rattle.run_predict.specs.Predicted.{IsLoadedReport, IsPredictReport, IsSnapshotReport, IsZonedReport}
use Rattle.run_base.specs.Report.{Report, refused_input}
use Rattle.run_predict.specs.Zones.{IsZoneFault, IsZoneOf, zone_text}
use Rattle.run_predict.specs.declared.zone_input_fault.ZoneInputFault.{ZoneInputFault}
use Rattle.run_words.specs.declared.zone_word.ZoneWord.{ZoneWord}

module _ (told : Option Contents) (t : Tables) (folder : List ℕ) (word : ZoneWord) (moment : ℕ) (file : List ℕ) where
  -- a zone was had
  pub zoned : (zone : Zone) → IfSome told (λ held. IsZoneOf word held zone) →
      IfSome told (λ held. (extent : Extent) (report : Report) → IsSnapshotReport extent t (zone_of zone) moment (snapshot_in (get held file)) report → IsZonedReport extent t word moment file held report)
  zoned zone =
      each told (λ held. IsZoneOf word held zone)
      (λ held. (extent : Extent) (report : Report) → IsSnapshotReport extent t (zone_of zone) moment (snapshot_in (get held file)) report → IsZonedReport extent t word moment file held report)
      (λ held is extent report w. inr (zone, is, w))

  -- or refused
  pub zone_refused : (why : ZoneInputFault) → IfSome told (λ held. IsZoneFault word held why) →
      IfSome told (λ held. IsZonedReport Whole t word moment file held (refused_input (zone_text word why)))
  zone_refused why =
      each told (λ held. IsZoneFault word held why) (λ held. IsZonedReport Whole t word moment file held (refused_input (zone_text word why)))
      (λ held is. inl (why, is, refl))

  -- a timetable was had
  pub loaded : IfSome told (λ held. tables_of folder held ≡ Ok t) →
      IfSome told (λ held. (extent : Extent) (report : Report) → IsZonedReport extent t word moment file held report → IsPredictReport folder word moment file extent held report)
  loaded =
      each told (λ held. tables_of folder held ≡ Ok t)
      (λ held. (extent : Extent) (report : Report) → IsZonedReport extent t word moment file held report → IsPredictReport folder word moment file extent held report)
      (λ held is extent report w. subst (λ loaded. IsLoadedReport extent folder loaded word moment file held report) (sym is) w)

module _ (told : Option Contents) (folder : List ℕ) (word : ZoneWord) (moment : ℕ) (file : List ℕ) where
  -- or refused
  pub load_refused : (why : LoadFault) → IfSome told (λ held. tables_of folder held ≡ Err why) →
      IfSome told (λ held. IsPredictReport folder word moment file Whole held (refused_input (refusal_text folder why)))
  load_refused why =
      each told (λ held. tables_of folder held ≡ Err why) (λ held. IsPredictReport folder word moment file Whole held (refused_input (refusal_text folder why)))
      (λ held is. subst (λ loaded. IsLoadedReport Whole folder loaded word moment file held (refused_input (refusal_text folder why))) (sym is) refl)
