-- The zone that words name, which isn't had.
use Rattle.std.proofs.Common.{◌≡◌, ◌≢◌, ℕ, List, refl, sym, subst, IfSome}
use Rattle.rt_outside.specs.Causes.{Rose}
use Rattle.rt_outside.specs.Sink.{SinkState}
use Rattle.rt_outside.specs.Store.{Contents, FilesState, contents_told}
use Rattle.run_words.specs.declared.zone_word.ZoneWord.{ZoneWord}
use Rattle.run_base.specs.declared.input_fault.InputFault.{InputFault}
use Rattle.run_base.specs.declared.status.Status.{Status}
use Rattle.run_base.specs.Carried.{CarriesOut, Extent, Whole}
use Rattle.run_base.specs.Faults.{IsErrorText, says_bad_zone, says_refused}
use Rattle.run_base.specs.Inputs.{FailsAt, SaysInputFault}
use Rattle.run_base.specs.Outside.{outside}
use Rattle.run_base.specs.Report.{Report, refused_input}
use Rattle.run_base.proofs.Carried.{input_more}
use Rattle.run_base.proofs.Chosen.{one_input}
use Rattle.run_predict.specs.Zones.{TellsZoneFault, file_named, zone_text}
use Rattle.run_predict.specs.declared.zone_input_fault.ZoneInputFault.{ZoneInputFault}
use Rattle.run_predict.specs.declared.zone_input_fault.ZoneInputFault.TheVariants as input

-- the text of a refused zone names its file, where it has one
zone_error : (reads : List ℕ → Type 0) (word : ZoneWord) (fault : ZoneInputFault) → (fault ≢ input.BadZone → fault ≢ input.Memory → reads (file_named word)) →
    fault ≢ input.ReadFault → fault ≢ input.Memory → IsErrorText reads (zone_text word fault)
zone_error reads word input.MissingFile named read memory = says_refused (file_named word) _ (named (λ e. cc e) (λ e. cc e))
zone_error reads word input.TooLarge named read memory = says_refused (file_named word) _ (named (λ e. cc e) (λ e. cc e))
zone_error reads word input.BadZone named read memory = says_bad_zone
zone_error reads word input.ReadFault named read memory = absurd (read refl)
zone_error reads word input.Memory named read memory = absurd (memory refl)

not_bad : (fault : ZoneInputFault) → fault ≡ input.ReadFault → fault ≢ input.BadZone
not_bad fault is e = differ (sym e)
  where
    differ : input.BadZone ≡ fault → ⊥
    differ e = cc

-- it is told, and the report is that it is refused
pub one_zone_fault : (is : Extent → Contents → Report → Type 0) (reads : List ℕ → Type 0) (files later : FilesState) (out eb ea : SinkState) (result : Status) (word : ZoneWord) (fault : ZoneInputFault)
    (why : InputFault) → (fault ≢ input.BadZone → fault ≢ input.Memory → reads (file_named word)) →
    (fault ≢ input.ReadFault → fault ≢ input.Memory → IfSome (contents_told files.told) (λ held. is Whole held (refused_input (zone_text word fault)))) →
    (fault ≡ input.ReadFault → Rose files.faults later.faults) → (fault ≡ input.ReadFault → IfSome later.asked (λ asked. asked ≡ file_named word)) →
    TellsZoneFault word fault why → SaysInputFault why eb ea result → CarriesOut is reads (outside files out eb) (outside later out ea) result
one_zone_fault is reads files later out eb ea result word fault why named refused rose asked tells said =
    one_input is reads files later out eb ea result why
    (input_more (λ name. (fault ≡ input.ReadFault) × (name ≡ file_named word)) (λ text. (fault ≢ input.ReadFault) × (fault ≢ input.Memory) × (text ≡ zone_text word fault)) (FailsAt reads files later)
    (λ text. IsErrorText reads text × IfSome (contents_told files.told) (λ held. is Whole held (refused_input text))) why
    (λ name w. (
      subst reads (sym w.1) (named (not_bad fault w.0) (λ e. failed fault w.0 e)),
      rose w.0,
      subst (λ n. IfSome later.asked (λ asked. asked ≡ n)) (sym w.1) (asked w.0),
    ))
    (λ text w. (
      subst (IsErrorText reads) (sym w.2) (zone_error reads word fault named w.0 w.1),
      subst (λ x. IfSome (contents_told files.told) (λ held. is Whole held (refused_input x))) (sym w.2) (refused w.0 w.1),
    )) tells) said
  where
    failed : (fault : ZoneInputFault) → fault ≡ input.ReadFault → fault ≡ input.Memory → ⊥
    failed fault a b = differ (sym a) b
      where
        differ : input.ReadFault ≡ fault → fault ≡ input.Memory → ⊥
        differ a b = cc
