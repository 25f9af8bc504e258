-- What `predict` is to write and to answer. It is a relation, since a zone is tied to its text or its bytes by one, and so are
-- the predictions of a trip update to its timetable, its zone and the moment. (This profile.)
use Rattle.std.specs.Prelude.{◌≡◌, ◌≤◌, ◌⊎◌, ℕ, List, [], ◌∷◌, ◌++◌, length, take, Contains, Option, Some, None, Result, Ok, Err, slice_get}
use Rattle.std.specs.FinMap.{get}
use Rattle.std.specs.List.{concat}
use Rattle.std.specs.Io.KnownBytes.{append_known}
use Rattle.feed_codec.specs.declared.refusal.Refusal.{Refusal}
use Rattle.feed_values.specs.Messages.{entity, feed_message}
use Rattle.feed_values.specs.Schema.{Value}
use Rattle.feed_values.specs.Views.{entity_value}
use Rattle.feed_values.specs.declared.entity.Entity.{Entity}
use Rattle.feed_values.specs.declared.trip_update.TripUpdate.{TripUpdate}
use Rattle.jiff_tz.specs.declared.timezone.TimeZone.{TimeZone as PlainZone}
use Rattle.judging.specs.Seats.{count_id}
use Rattle.propagation.specs.Predictions.{IsPrediction}
use Rattle.propagation.specs.declared.predictions.Predictions.{Predictions}
use Rattle.prediction_table.specs.Predictions.{AreRows, head_text}
use Rattle.rt_outside.specs.Sink.{AppendsPrefix}
use Rattle.rt_outside.specs.Store.{Contents}
use Rattle.timetable.specs.Timetables.{Tables, tables_of}
use Rattle.timetable.specs.declared.LoadFault.{LoadFault}
use Rattle.trip_calendar.specs.Zones.{zone_of}
use Rattle.trip_calendar.specs.declared.zone.Zone.{Zone}
use Rattle.run_words.specs.declared.zone_word.ZoneWord.{ZoneWord}
use Rattle.run_base.specs.declared.status.Status.TheVariants as answer
use Rattle.run_base.specs.Carried.{Begun, Extent, Whole}
use Rattle.run_base.specs.Found.{snapshot_in}
use Rattle.run_base.specs.Report.{Report, refused_input, refused_report}
use Rattle.run_timetable.specs.Timetables.{IsTableFile, refusal_text}
use Rattle.run_predict.specs.Zones.{IsZoneFault, IsZoneFile, IsZoneOf, zone_text}
use Rattle.run_predict.specs.declared.zone_input_fault.ZoneInputFault.{ZoneInputFault}

-- ---- the rows of an entity
abbrev pub AreUpdateRows : Tables → PlainZone → ℕ → (id : List ℕ) (occurrence : ℕ) → Option TripUpdate → List ℕ → Type 0
AreUpdateRows t zone moment id occurrence None text = text ≡ []
AreUpdateRows t zone moment id occurrence (Some update) text =
    (p : Predictions) × IsPrediction t zone update moment p × AreRows id occurrence update p text

-- of an entity by its value: the rows of what is predicted of its trip update, and none where it has no trip update; `occurrence`
-- counts the entities before it with its id
abbrev pub AreEntityRows : Tables → PlainZone → ℕ → (earlier : List (Value entity)) → Value entity → List ℕ → Type 0
AreEntityRows t zone moment earlier v text =
    (decoded : Entity) × (entity_value decoded ≡ v) × AreUpdateRows t zone moment decoded.id (count_id earlier decoded.id) decoded.trip_update text

-- ---- the table
-- the rows of the first entities, in the order of the snapshot, of as many as there are texts
abbrev pub AreTexts : Tables → PlainZone → ℕ → List (Value entity) → List (List ℕ) → Type 0
AreTexts t zone moment entities texts = (k : ℕ) (v : Value entity) (text : List ℕ) → slice_get entities k ≡ Some v → slice_get texts k ≡ Some text
    → AreEntityRows t zone moment (take k entities) v text

-- a table that is begun ends behind the rows of some entity, or before the first
abbrev pub Covers : Extent → (written all : ℕ) → Type 0
Covers Whole written all = written ≡ all
Covers Begun written all = written ≤ all

abbrev pub table_report : List (List ℕ) → Report
table_report texts = record { text = head_text ++ concat texts; errors = []; status = answer.Clean }

-- the header row, and the rows of each entity
abbrev pub IsTable : Extent → Tables → PlainZone → ℕ → List (Value entity) → Report → Type 0
IsTable extent t zone moment entities report =
    (texts : List (List ℕ)) × Covers extent (length texts) (length entities) × AreTexts t zone moment entities texts × (report ≡ table_report texts)

-- ---- the report
-- by what the snapshot says, of which `v.1.0` are the entities, or why it is refused
abbrev pub IsSnapshotReport : Extent → Tables → PlainZone → ℕ → Result (Value feed_message) Refusal → Report → Type 0
IsSnapshotReport extent t zone moment (Ok v) report = IsTable extent t zone moment v.1.0 report
IsSnapshotReport extent t zone moment (Err refusal) report = report ≡ refused_report refusal

-- with an accepted timetable: the zone is refused, or it is had and the snapshot is read
abbrev pub IsZonedReport : Extent → Tables → ZoneWord → ℕ → (file : List ℕ) → Contents → Report → Type 0
IsZonedReport extent t word moment file contents report =
    ((fault : ZoneInputFault) × IsZoneFault word contents fault × (report ≡ refused_input (zone_text word fault)))
    ⊎ ((zone : Zone) × IsZoneOf word contents zone × IsSnapshotReport extent t (zone_of zone) moment (snapshot_in (get contents file)) report)

abbrev pub IsLoadedReport : Extent → (folder : List ℕ) → Result Tables LoadFault → ZoneWord → ℕ → (file : List ℕ) → Contents → Report → Type 0
IsLoadedReport extent folder (Ok t) word moment file contents report = IsZonedReport extent t word moment file contents report
IsLoadedReport extent folder (Err fault) word moment file contents report = report ≡ refused_input (refusal_text folder fault)

-- the report of `predict` with the timetable in a folder, the zone that a word names, at a moment, on the snapshot in a file
abbrev pub IsPredictReport : (folder : List ℕ) → ZoneWord → ℕ → (file : List ℕ) → Extent → Contents → Report → Type 0
IsPredictReport folder word moment file extent contents report = IsLoadedReport extent folder (tables_of folder contents) word moment file contents report

-- the files that it reads: the snapshot's, the zone file and those of the timetable's folder
abbrev pub IsZonedInput : ZoneWord → (file : List ℕ) → List ℕ → Type 0
IsZonedInput word file name = Contains (file ∷ []) name ⊎ IsZoneFile word name

abbrev pub IsPredictInput : (folder : List ℕ) → ZoneWord → (file : List ℕ) → List ℕ → Type 0
IsPredictInput folder word file name = IsZonedInput word file name ⊎ IsTableFile (Some folder) name

-- ---- in the code, of which the report doesn't speak
-- the rows of the first entities, of which a prefix was appended
abbrev pub WritesTexts : Tables → PlainZone → ℕ → List (Value entity) → (old new : Option (List ℕ)) → Type 0
WritesTexts t zone moment entities old new =
    (texts : List (List ℕ)) × (length texts ≤ length entities) × AreTexts t zone moment entities texts × AppendsPrefix old new (concat texts)

-- the rows of all entities were appended
abbrev pub WritesAllTexts : Tables → PlainZone → ℕ → List (Value entity) → (old new : Option (List ℕ)) → Type 0
WritesAllTexts t zone moment entities old new =
    (texts : List (List ℕ)) × (length texts ≡ length entities) × AreTexts t zone moment entities texts × (new ≡ append_known old (concat texts))
