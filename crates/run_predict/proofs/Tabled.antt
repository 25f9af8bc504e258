-- The report on what was found in the snapshot's file.
use Rattle.std.proofs.Common.{◌≡◌, ℕ, List, inl, inr, refl, sym, ap, ◌∙◌, subst, IfSome, IfOk, Result, Ok, Err, OnOk, Some, None}
use Rattle.std.specs.declared.option.Option.{Option}
use Rattle.std.specs.FinMap.{get}
use Rattle.feed_codec.specs.declared.refusal.Refusal.{Refusal}
use Rattle.feed_codec.specs.Refusal.{refusal}
use Rattle.feed_values.specs.Messages.{feed_message}
use Rattle.feed_values.specs.Schema.{Value}
use Rattle.feed_values.specs.Snapshot.{entities_of, snapshot_value}
use Rattle.jiff_tz.specs.declared.timezone.TimeZone.{TimeZone as PlainZone}
use Rattle.rt_outside.specs.Sink.{AppendsPrefix}
use Rattle.rt_outside.specs.Store.{Contents}
use Rattle.snapshot_lines.specs.Lines.{line_of, refused}
use Rattle.timetable.specs.Timetables.{Tables}
use Rattle.run_base.proofs.Chosen.{all, each}
use Rattle.run_base.specs.Found.{bytes_in, decoded, snapshot_in, unless_faulty}
use Rattle.run_base.specs.Carried.{Extent, IsPut, MayBegin, Whole, WritesPart, WritesWhole}
use Rattle.run_predict.specs.Predicted.{IsSnapshotReport, IsTable}
use Rattle.run_base.specs.Report.{Report, refused_report}
use Rattle.run_base.specs.declared.status.Status.{Status}

pub on_ok : {T E A B : Type 0} (r : Result T E) → (A → B) → OnOk r A → OnOk r B
on_ok (Ok x) f a = f a
on_ok (Err e) f a = tt

module _ (is more_is : Extent → Report → Type 0) (more : (extent : Extent) (report : Report) → is extent report → more_is extent report) (old new : Option (List ℕ)) where
  begin_more : (report : Report) → MayBegin is report → MayBegin more_is report
  begin_more report (inl e) = inl e
  begin_more report (inr w) = inr (w.0, more w.0 report w.1)

  part_more : WritesPart is old new → WritesPart more_is old new
  part_more w = (w.0, begin_more w.0 w.1, w.2)

  whole_more : (status : Status) → WritesWhole is old new status → WritesWhole more_is old new status
  whole_more status w = (w.0, more Whole w.0 w.1, w.2, w.3, w.4)

-- what a snapshot says, by its bytes
abbrev value_of : Result (List ℕ) Refusal → Result (Value feed_message) Refusal
value_of (Ok bytes) = Ok (snapshot_value bytes)
value_of (Err why) = Err why

decoded_is : (bytes : List ℕ) (o : Option Refusal) → decoded bytes o ≡ value_of (unless_faulty bytes o)
decoded_is bytes None = refl
decoded_is bytes (Some why) = refl

snapshot_is : (held : Option (List ℕ)) → snapshot_in held ≡ value_of (bytes_in held)
snapshot_is None = refl
snapshot_is (Some bytes) = decoded_is bytes (refusal bytes)

module _ (t : Tables) (zone : PlainZone) (moment : ℕ) (told : Option Contents) (file : List ℕ) (found : Result (List ℕ) Refusal)
    (at : IfSome told (λ held. bytes_in (get held file) ≡ found)) (old new : Option (List ℕ)) where
  abbrev IsHere : Contents → Extent → Report → Type 0
  IsHere held extent report = IsSnapshotReport extent t zone moment (snapshot_in (get held file)) report

  -- the table of an accepted snapshot
  module _ (bytes : List ℕ) (is : found ≡ Ok bytes) where
    accepted : (held : Contents) → bytes_in (get held file) ≡ found → (extent : Extent) (report : Report) →
        IsTable extent t zone moment (entities_of bytes) report → IsHere held extent report
    accepted held e extent report w = subst (λ s. IsSnapshotReport extent t zone moment s report) (sym (snapshot_is (get held file) ∙ ap value_of (e ∙ is))) w

    pub accepted_part : WritesPart (λ extent. IsTable extent t zone moment (entities_of bytes)) old new → IfSome told (λ held. WritesPart (IsHere held) old new)
    accepted_part w =
        each told _ (λ held. WritesPart (IsHere held) old new)
        (λ held e. part_more (λ extent. IsTable extent t zone moment (entities_of bytes)) (IsHere held) (accepted held e) old new w) at

    pub accepted_whole : (status : Status) → WritesWhole (λ extent. IsTable extent t zone moment (entities_of bytes)) old new status →
        IfSome told (λ held. WritesWhole (IsHere held) old new status)
    accepted_whole status w =
        each told _ (λ held. WritesWhole (IsHere held) old new status)
        (λ held e. whole_more (λ extent. IsTable extent t zone moment (entities_of bytes)) (IsHere held) (accepted held e) old new status w) at

  -- the line of a refused one
  module _ (refusal : Refusal) (is : found ≡ Err refusal) where
    is_refused : (held : Contents) → bytes_in (get held file) ≡ found → (extent : Extent) → IsHere held extent (refused_report refusal)
    is_refused held e extent = subst (λ s. IsSnapshotReport extent t zone moment s (refused_report refusal)) (sym (snapshot_is (get held file) ∙ ap value_of (e ∙ is))) refl

    pub refused_part : AppendsPrefix old new (line_of (refused 0 refusal)) → IfSome told (λ held. WritesPart (IsHere held) old new)
    refused_part put = each told _ (λ held. WritesPart (IsHere held) old new) (λ held e. (refused_report refusal, inr (Whole, is_refused held e Whole), put)) at

    pub refused_put : {E : Type 0} (r : Result Status E) → IfOk r (IsPut (refused_report refusal) old new) → IfSome told (λ held. IfOk r (WritesWhole (IsHere held) old new))
    refused_put (Ok status) put =
        each told _ (λ held. WritesWhole (IsHere held) old new status) (λ held e. (refused_report refusal, is_refused held e Whole, put.1, refl, put.0)) at
    refused_put (Err why) put = all told _ (λ held. tt)
