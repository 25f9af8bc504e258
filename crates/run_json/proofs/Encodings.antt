-- The report of `encode`, by what its file says.
use Rattle.std.proofs.Common.{◌≡◌, ◌≢◌, ℕ, List, refl, sym, ap, subst, Some, None, IfSome, Ok, Err}
use Rattle.std.specs.declared.option.Option.{Option}
use Rattle.std.specs.FinMap.{get}
use Rattle.rt_outside.specs.Causes.{Rose}
use Rattle.rt_outside.specs.Sink.{SinkState}
use Rattle.rt_outside.specs.Store.{Contents, FilesState, contents_told}
use Rattle.run_base.specs.declared.input_fault.InputFault.{InputFault}
use Rattle.run_base.specs.declared.status.Status.{Status}
use Rattle.run_base.specs.Carried.{CarriesOut, exactly}
use Rattle.run_base.specs.Faults.{IsErrorText, says_refused}
use Rattle.run_base.specs.Inputs.{FailsAt, SaysInputFault}
use Rattle.run_base.specs.Outside.{outside}
use Rattle.run_base.proofs.Carried.{carried_input, input_more}
use Rattle.feed_values.specs.Schema.{Value}
use Rattle.feed_values.specs.Messages.{feed_message}
use Rattle.run_json.specs.declared.json_input_fault.JsonInputFault.{JsonInputFault}
use Rattle.run_json.specs.declared.json_input_fault.JsonInputFault.TheVariants.{MissingFile, TooLarge, NotJson, WrongKind, UnknownKey, OutOfRange, MissingKey, ReadFault, Memory}
use Rattle.run_json.specs.JsonInputs.{TellsJsonFault, input_message, input_text}
use Rattle.run_base.specs.Report.{Report, refused_input}
use Rattle.run_json.specs.Reports.{encode_report, written_report}

-- the file says this snapshot, and so does the report
pub in_report : (told : Option Contents) (file : List ℕ) (v : Value feed_message) (P : Report → Type 0) → IfSome told (λ held. input_message (get held file) ≡ Ok v) →
    P (written_report file (Ok v)) → IfSome told (λ held. P (encode_report file held))
in_report None file v P is p = tt
in_report (Some held) file v P is p = subst (λ found. P (written_report file found)) (sym is) p

-- the file is refused, and so is the report
pub refused_report : (told : Option Contents) (file : List ℕ) (why : JsonInputFault) → why ≢ ReadFault → why ≢ Memory →
    IfSome told (λ held. why ≢ ReadFault → why ≢ Memory → input_message (get held file) ≡ Err why) →
    IfSome told (λ held. encode_report file held ≡ refused_input (input_text file why))
refused_report None file why read memory is = tt
refused_report (Some held) file why read memory is = ap (written_report file) (is read memory)

-- ---- one that isn't had
-- the text of a refused file names it
input_error : (reads : List ℕ → Type 0) (name : List ℕ) (fault : JsonInputFault) → reads name → fault ≢ ReadFault → fault ≢ Memory → IsErrorText reads (input_text name fault)
input_error reads name MissingFile may read memory = says_refused name _ may
input_error reads name TooLarge may read memory = says_refused name _ may
input_error reads name NotJson may read memory = says_refused name _ may
input_error reads name (WrongKind path) may read memory = says_refused name _ may
input_error reads name (UnknownKey path) may read memory = says_refused name _ may
input_error reads name (OutOfRange path) may read memory = says_refused name _ may
input_error reads name (MissingKey path) may read memory = says_refused name _ may
input_error reads name ReadFault may read memory = absurd (read refl)
input_error reads name Memory may read memory = absurd (memory refl)

-- it is told, and the report is that it is refused
pub carried_json : (files later : FilesState) (out eb ea : SinkState) (result : Status) (file : List ℕ) (reads : List ℕ → Type 0) (fault : JsonInputFault) (why : InputFault) → reads file →
    IfSome (contents_told files.told) (λ held. fault ≢ ReadFault → fault ≢ Memory → input_message (get held file) ≡ Err fault) →
    (fault ≡ ReadFault → Rose files.faults later.faults) → IfSome later.asked (λ asked. asked ≡ file) →
    TellsJsonFault file fault why → SaysInputFault why eb ea result → CarriesOut (exactly (encode_report file)) reads (outside files out eb) (outside later out ea) result
carried_json files later out eb ea result file reads fault why may is rose asked tells said =
    carried_input (encode_report file) reads files later out eb ea result why
    (input_more (λ name. (fault ≡ ReadFault) × (name ≡ file)) (λ text. (fault ≢ ReadFault) × (fault ≢ Memory) × (text ≡ input_text file fault)) (FailsAt reads files later)
    (λ text. IsErrorText reads text × IfSome (contents_told files.told) (λ held. encode_report file held ≡ refused_input text)) why
    (λ name w. (subst reads (sym w.1) may, rose w.0, subst (λ n. IfSome later.asked (λ asked. asked ≡ n)) (sym w.1) asked))
    (λ text w. (
      subst (IsErrorText reads) (sym w.2) (input_error reads file fault may w.0 w.1),
      subst (λ x. IfSome (contents_told files.told) (λ held. encode_report file held ≡ refused_input x)) (sym w.2) (refused_report (contents_told files.told) file fault w.0 w.1 is),
    )) tells) said
