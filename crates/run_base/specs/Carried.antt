-- What carrying out a command does. (This profile.)
use Rattle.std.specs.Prelude.{◌≡◌, ℕ, List, [], ◌⊎◌, Option, IfSome}
use Rattle.std.specs.Io.KnownBytes.{append_known}
use Rattle.rt_outside.specs.Causes.{Rose}
use Rattle.rt_outside.specs.Sink.{AppendsPrefix}
use Rattle.rt_outside.specs.Store.{Contents, contents_told}
use Rattle.run_base.specs.declared.status.Status.{Status}
use Rattle.run_base.specs.declared.status.Status.TheVariants as answer
use Rattle.run_base.specs.Faults.{IsReported, TellsFault}
use Rattle.run_base.specs.Outside.{Outside}
use Rattle.run_base.specs.Report.{Report}

-- ---- which report
-- A report may be whole, or begun: what a command may have written before a fault. Where it is a function of what the files hold, a
-- part of its text is all that may be begun; another command says what else may be.
pub data Extent : Type 0 where
  Whole : Extent
  Begun : Extent

-- the report that is this function of what the files hold
abbrev pub exactly : (Contents → Report) → Extent → Contents → Report → Type 0
exactly report extent held r = r ≡ report held

-- a whole or begun report, or one without a text, of which nothing more is said then
abbrev pub MayBegin : (Extent → Report → Type 0) → Report → Type 0
MayBegin is report = (report.text ≡ []) ⊎ ((extent : Extent) × is extent report)

-- ---- carried out
-- A prefix of a report's text was written to the output. Where the answer is one that a report may have, the report is whole, all of
-- its text was written, the answer is its own, and so is what was written to the error stream.
pub record TellsReport (is : Extent → Contents → Report → Type 0) (before after : Outside) (result : Status) : Type 0 where
  pub report : Report
  pub begun : IfSome (contents_told before.files.told) (λ held. MayBegin (λ extent. is extent held) report)
  pub whole : IsReported result → IfSome (contents_told before.files.told) (λ held. is Whole held report)
  pub text : IfSome (contents_told before.files.told) (λ held. AppendsPrefix before.out.written after.out.written report.text)
  pub all : IsReported result → IfSome (contents_told before.files.told) (λ held. after.out.written ≡ append_known before.out.written report.text)
  pub status : IsReported result → IfSome (contents_told before.files.told) (λ held. result ≡ report.status)
  pub errors : IsReported result → IfSome (contents_told before.files.told) (λ held. after.err.written ≡ append_known before.err.written report.errors)

-- A command was carried out: it told a report that `is` one, and each fault has its cause and is told. `reads` says which files the
-- command reads.
pub record CarriesOut (is : Extent → Contents → Report → Type 0) (reads : List ℕ → Type 0) (before after : Outside) (result : Status) : Type 0 where
  pub tells : TellsReport is before after result
  pub not_usage : result ≡ answer.Usage → ⊥
  pub read_fault : result ≡ answer.ReadFault → Rose before.files.faults after.files.faults
  pub write_fault : result ≡ answer.WriteFault → Rose before.out.faults after.out.faults ⊎ Rose before.err.faults after.err.faults
  pub told : TellsFault reads after.files.asked before.err after.err result

-- ---- written, before it is known how a command ends
-- the answer is the report's, and all of its text was appended to what was written before
abbrev pub IsPut : Report → Option (List ℕ) → Option (List ℕ) → Status → Type 0
IsPut report before after status = (status ≡ report.status) × (after ≡ append_known before report.text)

-- a prefix of a report was appended
abbrev pub WritesPart : (Extent → Report → Type 0) → (old new : Option (List ℕ)) → Type 0
WritesPart is old new = (report : Report) × MayBegin is report × AppendsPrefix old new report.text

-- all of a whole report was appended; it has this answer and nothing for the error stream
abbrev pub WritesWhole : (Extent → Report → Type 0) → (old new : Option (List ℕ)) → Status → Type 0
WritesWhole is old new status =
    (report : Report) × is Whole report × (new ≡ append_known old report.text) × (report.errors ≡ []) × (status ≡ report.status)
