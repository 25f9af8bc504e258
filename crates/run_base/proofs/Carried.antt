-- What carrying out a command ends with.
use Rattle.std.proofs.Common.{◌≡◌, ℕ, List, [], ◌∷◌, ◌⊎◌, inl, inr, refl, sym, subst, Some, None, IfSome, ◌∙◌, ap, string_bytes}
use Rattle.std.specs.declared.option.Option.{Option}
use Rattle.std.specs.List.{Contains}
use Rattle.std.specs.Io.KnownBytes.{append_known}
use Rattle.rt_outside.specs.Causes.{Rose}
use Rattle.rt_outside.specs.Store.{Contents, FilesState, contents_told}
use Rattle.rt_outside.specs.Sink.{AppendsPrefix, SinkState}
use Rattle.rt_outside.proofs.Appends.{append_known-nil, AppendsPrefix-nothing}
use Rattle.run_base.specs.declared.fault.Fault.{Fault}
use Rattle.run_base.specs.declared.fault.Fault.TheVariants as fault
use Rattle.run_base.specs.declared.input_fault.InputFault.{InputFault}
use Rattle.run_base.specs.declared.input_fault.InputFault.TheVariants as input
use Rattle.run_base.specs.declared.status.Status.{Status}
use Rattle.run_base.specs.declared.status.Status.TheVariants as answer
use Rattle.run_base.specs.Report.{Report, refused_input}
use Rattle.run_base.specs.Faults.{TellsFault, IsErrorText, says_memory, says_write_fault, says_read_fault, Says, SaysFault, IsReported, memory_text, write_fault_text, read_fault_text}
use Rattle.run_base.specs.Inputs.{FailsAt, SaysInputFault, TellsInput, in_folder}
use Rattle.run_base.specs.Outside.{Outside, outside}
use Rattle.run_base.specs.Carried.{CarriesOut, TellsReport, Extent, Whole, MayBegin, exactly}
use Rattle.run_base.proofs.Told.{tells, tells_more, error_text_more}

-- what is told of an input, where less is said of it
pub input_more : (failed refused more_failed more_refused : List ℕ → Type 0) (why : InputFault) → ((name : List ℕ) → failed name → more_failed name) →
    ((text : List ℕ) → refused text → more_refused text) → TellsInput failed refused why → TellsInput more_failed more_refused why
input_more failed refused more_failed more_refused (input.Read name) fails refuses tells = fails name.now tells
input_more failed refused more_failed more_refused (input.ReadIn folder name) fails refuses tells = fails (in_folder folder.now name.now) tells
input_more failed refused more_failed more_refused input.Memory fails refuses tells = tt
input_more failed refused more_failed more_refused (input.Refused text) fails refuses tells = refuses (string_bytes text) tells

-- ---- one report that is a function of what the files hold
-- What a command does by this report, without the choice of a report where nothing is told of the files. It is the same as
-- `CarriesOut (exactly report)`, and what is proved below is proved of it.
pub record CarriesReport (report : Contents → Report) (reads : List ℕ → Type 0) (before after : Outside) (result : Status) : Type 0 where
  pub text : IfSome (contents_told before.files.told) (λ held. AppendsPrefix before.out.written after.out.written (report held).text)
  pub all : IsReported result → IfSome (contents_told before.files.told) (λ held. after.out.written ≡ append_known before.out.written (report held).text)
  pub status : IsReported result → IfSome (contents_told before.files.told) (λ held. result ≡ (report held).status)
  pub errors : IsReported result → IfSome (contents_told before.files.told) (λ held. after.err.written ≡ append_known before.err.written (report held).errors)
  pub not_usage : result ≡ answer.Usage → ⊥
  pub read_fault : result ≡ answer.ReadFault → Rose before.files.faults after.files.faults
  pub write_fault : result ≡ answer.WriteFault → Rose before.out.faults after.out.faults ⊎ Rose before.err.faults after.err.faults
  pub told : TellsFault reads after.files.asked before.err after.err result

-- a report without a text
abbrev pub nothing : Report
nothing = record { text = []; errors = []; status = answer.Clean }

module _ (reads : List ℕ → Type 0) (before after : Outside) (result : Status) where
  -- a report is one of a relation
  pub one_of : (is : Extent → Contents → Report → Type 0) (report : Report) → IfSome (contents_told before.files.told) (λ held. MayBegin (λ extent. is extent held) report) →
      (IsReported result → IfSome (contents_told before.files.told) (λ held. is Whole held report)) → CarriesReport (λ _. report) reads before after result →
      CarriesOut is reads before after result
  one_of is report begun whole carried = record {
    tells = record {
      report = report;
      begun = begun;
      whole = whole;
      text = carried.text;
      all = carried.all;
      status = carried.status;
      errors = carried.errors;
    };
    not_usage = carried.not_usage;
    read_fault = carried.read_fault;
    write_fault = carried.write_fault;
    told = carried.told;
  }

  module _ (report : Contents → Report) (carried : CarriesReport report reads before after result) where
    exact_at : (contents : Option Contents) → contents_told before.files.told ≡ contents → CarriesOut (exactly report) reads before after result
    exact_at None e = one_of (exactly report) nothing (empty _) (λ r. empty _) (record {
      text = empty _;
      all = λ r. empty _;
      status = λ r. empty _;
      errors = λ r. empty _;
      not_usage = carried.not_usage;
      read_fault = carried.read_fault;
      write_fault = carried.write_fault;
      told = carried.told;
    })
      where
        empty : (P : Contents → Type 0) → IfSome (contents_told before.files.told) P
        empty P = subst (λ o. IfSome o P) (sym e) tt
    exact_at (Some held) e = one_of (exactly report) (report held) (there (λ h. MayBegin (λ extent. exactly report extent h) (report held)) (inr (Whole, refl)))
        (λ r. there (λ h. report held ≡ report h) refl) (record {
          text = same (λ r. AppendsPrefix before.out.written after.out.written r.text) carried.text;
          all = λ r. same (λ r. after.out.written ≡ append_known before.out.written r.text) (carried.all r);
          status = λ r. same (λ r. result ≡ r.status) (carried.status r);
          errors = λ r. same (λ r. after.err.written ≡ append_known before.err.written r.errors) (carried.errors r);
          not_usage = carried.not_usage;
          read_fault = carried.read_fault;
          write_fault = carried.write_fault;
          told = carried.told;
        })
      where
        there : (P : Contents → Type 0) → P held → IfSome (contents_told before.files.told) P
        there P p = subst (λ o. IfSome o P) (sym e) p

        same : (P : Report → Type 0) → IfSome (contents_told before.files.told) (λ h. P (report h)) → IfSome (contents_told before.files.told) (λ h. P (report held))
        same P p = there (λ h. P (report held)) (subst (λ o. IfSome o (λ h. P (report h))) e p)

    pub exact : CarriesOut (exactly report) reads before after result
    exact = exact_at (contents_told before.files.told) refl

-- the text that stands on the output is a prefix of the report's
abbrev pub IsPart : (Contents → Report) → Outside → Outside → Type 0
IsPart report before after =
    IfSome (contents_told before.files.told) (λ held. AppendsPrefix before.out.written after.out.written (report held).text)

module _ (report : Contents → Report) (reads : List ℕ → Type 0) (before after : Outside) (result : Status) (text : IsPart report before after) where
  -- an answer that no report has
  at_fault : (actual : Status) → result ≡ actual → (IsReported actual → ⊥) →
      (actual ≡ answer.ReadFault → Rose before.files.faults after.files.faults) →
      (actual ≡ answer.WriteFault → Rose before.out.faults after.out.faults ⊎ Rose before.err.faults after.err.faults) →
      TellsFault reads after.files.asked before.err after.err result → CarriesReport report reads before after result
  at_fault actual is none read write told = record {
    text = text;
    all = λ r. absurd (none (subst IsReported is r));
    status = λ r. absurd (none (subst IsReported is r));
    errors = λ r. absurd (none (subst IsReported is r));
    not_usage = λ e. none (subst IsReported (sym e ∙ is) tt);
    read_fault = λ e. read (sym is ∙ e);
    write_fault = λ e. write (sym is ∙ e);
    told = told;
  }

  -- a text was said, whose answer no report has
  at_said : (said_text : List ℕ) (meant : Status) → IsErrorText reads said_text → (IsReported meant → ⊥) →
      (meant ≡ answer.ReadFault → Rose before.files.faults after.files.faults) →
      (meant ≡ answer.WriteFault → Rose before.out.faults after.out.faults) →
      (after.err.written ≡ append_known before.err.written said_text → TellsFault reads after.files.asked before.err after.err meant) →
      Says said_text meant before.err after.err result → CarriesReport report reads before after result
  at_said said_text meant is none read write whole (inl said) =
      at_fault meant said.0 none read (λ e. inl (write e))
      (tells (IsErrorText reads) reads after.files.asked before.err after.err said_text meant result is whole (inl said))
  at_said said_text meant is none read write whole (inr said) =
      at_fault answer.WriteFault said.0 (λ r. r) (λ e. absurd (cc e)) (λ _. inr said.1)
      (tells (IsErrorText reads) reads after.files.asked before.err after.err said_text meant result is whole (inr said))

  pub by_read_fault : (file : List ℕ) → reads file → Rose before.files.faults after.files.faults →
      IfSome after.files.asked (λ asked. asked ≡ file) → Says (read_fault_text file) answer.ReadFault before.err after.err result →
      CarriesReport report reads before after result
  by_read_fault file is rose named =
      at_said (read_fault_text file) answer.ReadFault (says_read_fault file is) (λ r. r) (λ _. rose) (λ e. absurd (cc e))
      (λ whole. (file, is, named, whole))

  pub by_memory : Says memory_text answer.Memory before.err after.err result → CarriesReport report reads before after result
  by_memory = at_said memory_text answer.Memory says_memory (λ r. r) (λ e. absurd (cc e)) (λ e. absurd (cc e)) (λ whole. whole)

  pub by_fault : (why : Fault) (file : List ℕ) → reads file → (why ≡ fault.Read → Rose before.files.faults after.files.faults) →
      (why ≡ fault.Write → Rose before.out.faults after.out.faults) → IfSome after.files.asked (λ asked. asked ≡ file) →
      SaysFault why file before.err after.err result → CarriesReport report reads before after result
  by_fault fault.Read file is read write named said = by_read_fault file is (read refl) named said
  by_fault fault.Write file is read write named said =
      at_said write_fault_text answer.WriteFault says_write_fault (λ r. r) (λ e. absurd (cc e)) (λ _. write refl) (λ whole. inl whole) said
  by_fault fault.Memory file is read write named said = by_memory said

  -- a fault that is no failed read was told
  by_other_fault : (why : Fault) (name : List ℕ) → (why ≡ fault.Read → ⊥) → (why ≡ fault.Write → Rose before.out.faults after.out.faults) →
      SaysFault why name before.err after.err result → CarriesReport report reads before after result
  by_other_fault fault.Read name other write said = absurd (other refl)
  by_other_fault fault.Write name other write said =
      at_said write_fault_text answer.WriteFault says_write_fault (λ r. r) (λ e. absurd (cc e)) (λ _. write refl) (λ whole. inl whole) said
  by_other_fault fault.Memory name other write said = by_memory said

  pub carried_read_fault : (file : List ℕ) → reads file → Rose before.files.faults after.files.faults →
      IfSome after.files.asked (λ asked. asked ≡ file) → Says (read_fault_text file) answer.ReadFault before.err after.err result →
      CarriesOut (exactly report) reads before after result
  carried_read_fault file is rose named said = exact reads before after result report (by_read_fault file is rose named said)

  pub carried_memory : Says memory_text answer.Memory before.err after.err result → CarriesOut (exactly report) reads before after result
  carried_memory said = exact reads before after result report (by_memory said)

  pub carried_fault : (why : Fault) (file : List ℕ) → reads file → (why ≡ fault.Read → Rose before.files.faults after.files.faults) →
      (why ≡ fault.Write → Rose before.out.faults after.out.faults) → IfSome after.files.asked (λ asked. asked ≡ file) →
      SaysFault why file before.err after.err result → CarriesOut (exactly report) reads before after result
  carried_fault why file is read write named said = exact reads before after result report (by_fault why file is read write named said)

  -- a fault that is no failed read was told
  pub carried_other_fault : (why : Fault) (name : List ℕ) → (why ≡ fault.Read → ⊥) → (why ≡ fault.Write → Rose before.out.faults after.out.faults) →
      SaysFault why name before.err after.err result → CarriesOut (exactly report) reads before after result
  carried_other_fault why name other write said = exact reads before after result report (by_other_fault why name other write said)

-- the files and the error stream were used, and nothing was written to the output
module _ (report : Contents → Report) (reads : List ℕ → Type 0) (files later : FilesState) (out eb ea : SinkState) where
  abbrev pub old : Outside
  old = outside files out eb

  abbrev pub new : Outside
  new = outside later out ea

  nothing_yet : (contents : Option Contents) → IfSome contents (λ held. AppendsPrefix out.written out.written (report held).text)
  nothing_yet None = tt
  nothing_yet (Some held) = AppendsPrefix-nothing out.written (report held).text

  -- an input was refused by this text
  abbrev pub RefusedBy : List ℕ → Type 0
  RefusedBy text = IfSome (contents_told files.told) (λ held. report held ≡ refused_input text)

  whole : (contents : Option Contents) (text : List ℕ) → IfSome contents (λ held. report held ≡ refused_input text) →
      IfSome contents (λ held. out.written ≡ append_known out.written (report held).text)
  whole None text is = tt
  whole (Some held) text is = subst (λ r. out.written ≡ append_known out.written r.text) (sym is) (sym (append_known-nil out.written))

  status : (contents : Option Contents) (text : List ℕ) → IfSome contents (λ held. report held ≡ refused_input text) →
      IfSome contents (λ held. answer.Refused ≡ (report held).status)
  status None text is = tt
  status (Some held) text is = ap (λ r. r.status) (sym is)

  errors : (contents : Option Contents) (text : List ℕ) → IfSome contents (λ held. report held ≡ refused_input text) →
      ea.written ≡ append_known eb.written text → IfSome contents (λ held. ea.written ≡ append_known eb.written (report held).errors)
  errors None text is e = tt
  errors (Some held) text is e = subst (λ r. ea.written ≡ append_known eb.written r.errors) (sym is) e

  at_refused : (text : List ℕ) → RefusedBy text → ea.written ≡ append_known eb.written text → CarriesReport report reads old new answer.Refused
  at_refused text is e = record {
    text = nothing_yet (contents_told files.told);
    all = λ r. whole (contents_told files.told) text is;
    status = λ r. status (contents_told files.told) text is;
    errors = λ r. errors (contents_told files.told) text is e;
    not_usage = λ e. absurd (cc e);
    read_fault = λ e. absurd (cc e);
    write_fault = λ e. absurd (cc e);
    told = tt;
  }

  -- it was refused
  pub by_refused : (result : Status) (text : List ℕ) → IsErrorText reads text → RefusedBy text →
      Says text answer.Refused eb ea result → CarriesReport report reads old new result
  by_refused result text may is (inl said) = subst (CarriesReport report reads old new) (sym said.0) (at_refused text is said.1)
  by_refused result text may is (inr said) =
      at_fault report reads old new result (nothing_yet (contents_told files.told)) answer.WriteFault said.0 (λ r. r) (λ e. absurd (cc e)) (λ _. inr said.1)
      (tells (IsErrorText reads) reads later.asked eb ea text answer.Refused result may (λ w. tt) (inr said))

  -- it was told why an input isn't had
  pub by_input : (result : Status) (why : InputFault) →
      TellsInput (FailsAt reads files later) (λ text. IsErrorText reads text × RefusedBy text) why →
      SaysInputFault why eb ea result → CarriesReport report reads old new result
  by_input result (input.Read name) why said = by_read_fault report reads old new result (nothing_yet (contents_told files.told)) name.now why.0 why.1 why.2 said
  by_input result (input.ReadIn folder name) why said =
      by_read_fault report reads old new result (nothing_yet (contents_told files.told)) (in_folder folder.now name.now) why.0 why.1 why.2 said
  by_input result input.Memory why said = by_memory report reads old new result (nothing_yet (contents_told files.told)) said
  by_input result (input.Refused text) why said = by_refused result (string_bytes text) why.0 why.1 said

  pub carried_input : (result : Status) (why : InputFault) →
      TellsInput (FailsAt reads files later) (λ text. IsErrorText reads text × RefusedBy text) why →
      SaysInputFault why eb ea result → CarriesOut (exactly report) reads old new result
  carried_input result why tells said = exact reads old new result report (by_input result why tells said)
