-- What carrying out one of several reports ends with.
use Rattle.std.proofs.Common.{◌≡◌, ℕ, ◌≤◌, List, [], ◌∷◌, inl, inr, refl, sym, ap, ◌∙◌, subst, Some, None, IfSome, string_bytes, arith}
use Rattle.std.specs.declared.option.Option.{Option}
use Rattle.std.specs.FinMap.{get}
use Rattle.std.specs.List.{Contains}
use Rattle.std.specs.Io.KnownBytes.{append_known}
use Rattle.rt_outside.specs.Causes.{Rose}
use Rattle.rt_outside.specs.Sink.{AppendsPrefix, SinkState}
use Rattle.rt_outside.specs.Store.{Contents, FilesState, contents_told}
use Rattle.rt_outside.proofs.Appends.{append_known-nil, AppendsPrefix-nothing, AppendsPrefix-whole}
use Rattle.feed_codec.specs.declared.refusal.Refusal.{Refusal}
use Rattle.feed_codec.specs.Refusal.{refusal}
use Rattle.run_base.specs.declared.fault.Fault.{Fault}
use Rattle.run_base.specs.declared.fault.Fault.TheVariants as fault
use Rattle.run_base.specs.declared.input_fault.InputFault.{InputFault}
use Rattle.run_base.specs.declared.input_fault.InputFault.TheVariants as input
use Rattle.run_base.specs.declared.status.Status.{Status}
use Rattle.run_base.specs.declared.status.Status.TheVariants as answer
use Rattle.run_base.specs.Carried.{CarriesOut, Extent, IsPut, MayBegin, Whole, WritesPart, WritesWhole, exactly}
use Rattle.run_base.specs.Faults.{TellsFault, IsErrorText, Says, SaysFault, IsCarriedOut, IsReported, read_fault_text}
use Rattle.run_base.specs.Inputs.{FailsAt, SaysInputFault, TellsInput, in_folder}
use Rattle.run_base.specs.Outside.{Outside, outside}
use Rattle.run_base.specs.Report.{Report, file_report, judged_report, refused_input, snapshot_report}
use Rattle.run_base.proofs.Carried.{CarriesReport, by_fault, by_memory, by_read_fault, by_refused, exact, nothing, one_of}
use Rattle.run_base.proofs.Told.{error_text_more, tells_more}

-- ---- of what may be there
pub any : {X : Type 0} (o : Option X) (A : Type 0) → A → IfSome o (λ _. A)
any None A a = tt
any (Some x) A a = a

pub all : {X : Type 0} (o : Option X) (P : X → Type 0) → ((x : X) → P x) → IfSome o P
all None P p = tt
all (Some x) P p = p x

pub each : {X : Type 0} (o : Option X) (P Q : X → Type 0) → ((x : X) → P x → Q x) → IfSome o P → IfSome o Q
each None P Q f p = tt
each (Some x) P Q f p = f x p

pub both : {X : Type 0} (o : Option X) (P Q R : X → Type 0) → ((x : X) → P x → Q x → R x) → IfSome o P → IfSome o Q → IfSome o R
both None P Q R f p q = tt
both (Some x) P Q R f p q = f x p q

-- ---- answers that no report has
pub says_reported : (text : List ℕ) (meant : Status) (before after : SinkState) (result : Status) → (IsReported meant → ⊥) → Says text meant before after result →
    IsReported result → ⊥
says_reported text meant before after result none (inl said) r = none (subst IsReported said.0 r)
says_reported text meant before after result none (inr said) r = subst IsReported said.0 r

fault_reported : (why : Fault) (file : List ℕ) (before after : SinkState) (result : Status) → SaysFault why file before after result → IsReported result → ⊥
fault_reported fault.Read file before after result = says_reported _ answer.ReadFault before after result (λ r. r)
fault_reported fault.Write file before after result = says_reported _ answer.WriteFault before after result (λ r. r)
fault_reported fault.Memory file before after result = says_reported _ answer.Memory before after result (λ r. r)

-- nothing is told where a request was carried out
pub quiet : (reads : List ℕ → Type 0) (last : Option (List ℕ)) (before after : SinkState) (result : Status) → IsCarriedOut result → TellsFault reads last before after result
quiet reads last before after answer.Clean c = tt
quiet reads last before after answer.Found c = tt
quiet reads last before after answer.Usage c = absurd c
quiet reads last before after answer.ReadFault c = absurd c
quiet reads last before after answer.WriteFault c = absurd c
quiet reads last before after answer.Memory c = absurd c
quiet reads last before after answer.Refused c = absurd c

module _ (is : Extent → Contents → Report → Type 0) (reads : List ℕ → Type 0) (files later : FilesState) (out new : SinkState) where
  -- ---- a whole report was written
  module _ (err : SinkState) (result : Status) (carried : IsCarriedOut result) where
    abbrev IsWhole : Report → Type 0
    IsWhole report = (new.written ≡ append_known out.written report.text) × (report.errors ≡ []) × (result ≡ report.status)

    put : (report : Report) → IfSome (contents_told files.told) (λ held. IsWhole report) → CarriesReport (λ _. report) reads (outside files out err) (outside later new err) result
    put report facts = record {
      text = each (contents_told files.told) _ _ (λ held f. AppendsPrefix-whole out.written new.written report.text f.0) facts;
      all = λ r. each (contents_told files.told) _ _ (λ held f. f.0) facts;
      status = λ r. each (contents_told files.told) _ _ (λ held f. f.2) facts;
      errors = λ r. each (contents_told files.told) _ _ (λ held f. sym (append_known-nil err.written) ∙ ap (append_known err.written) (sym f.1)) facts;
      not_usage = λ e. subst IsCarriedOut e carried;
      read_fault = λ e. absurd (subst IsCarriedOut e carried);
      write_fault = λ e. absurd (subst IsCarriedOut e carried);
      told = quiet reads later.asked err err result carried;
    }

    whole_at : (contents : Option Contents) → contents_told files.told ≡ contents →
        IfSome contents (λ held. WritesWhole (λ extent. is extent held) out.written new.written result) → CarriesOut is reads (outside files out err) (outside later new err) result
    whole_at None e w =
        one_of reads (outside files out err) (outside later new err) result is nothing
        (subst (λ o. IfSome o (λ held. MayBegin (λ extent. is extent held) nothing)) (sym e) tt)
        (λ r. subst (λ o. IfSome o (λ held. is Whole held nothing)) (sym e) tt)
        (put nothing (subst (λ o. IfSome o (λ held. IsWhole nothing)) (sym e) tt))
    whole_at (Some held) e w =
        one_of reads (outside files out err) (outside later new err) result is w.0
        (subst (λ o. IfSome o (λ held. MayBegin (λ extent. is extent held) w.0)) (sym e) (inr (Whole, w.1)))
        (λ r. subst (λ o. IfSome o (λ held. is Whole held w.0)) (sym e) w.1)
        (put w.0 (subst (λ o. IfSome o (λ held. IsWhole w.0)) (sym e) (w.2, w.3, w.4)))

    pub one_whole : IfSome (contents_told files.told) (λ held. WritesWhole (λ extent. is extent held) out.written new.written result) →
        CarriesOut is reads (outside files out err) (outside later new err) result
    one_whole = whole_at (contents_told files.told) refl

  -- ---- a part of one was written, and then a fault was told
  module _ (eb ea : SinkState) (result : Status) (why : Fault) (file : List ℕ) (reading : reads file) (read : why ≡ fault.Read → Rose files.faults later.faults)
      (write : why ≡ fault.Write → Rose out.faults new.faults) (named : IfSome later.asked (λ asked. asked ≡ file)) (said : SaysFault why file eb ea result) where
    told : (report : Report) → IfSome (contents_told files.told) (λ held. AppendsPrefix out.written new.written report.text) →
        CarriesReport (λ _. report) reads (outside files out eb) (outside later new ea) result
    told report text = by_fault (λ _. report) reads (outside files out eb) (outside later new ea) result text why file reading read write named said

    part_at : (contents : Option Contents) → contents_told files.told ≡ contents →
        IfSome contents (λ held. WritesPart (λ extent. is extent held) out.written new.written) → CarriesOut is reads (outside files out eb) (outside later new ea) result
    part_at None e w =
        one_of reads (outside files out eb) (outside later new ea) result is nothing
        (subst (λ o. IfSome o (λ held. MayBegin (λ extent. is extent held) nothing)) (sym e) tt)
        (λ r. absurd (fault_reported why file eb ea result said r))
        (told nothing (subst (λ o. IfSome o (λ held. AppendsPrefix out.written new.written [])) (sym e) tt))
    part_at (Some held) e w =
        one_of reads (outside files out eb) (outside later new ea) result is w.0
        (subst (λ o. IfSome o (λ held. MayBegin (λ extent. is extent held) w.0)) (sym e) w.1)
        (λ r. absurd (fault_reported why file eb ea result said r))
        (told w.0 (subst (λ o. IfSome o (λ held. AppendsPrefix out.written new.written w.0.text)) (sym e) w.2))

    pub one_part : IfSome (contents_told files.told) (λ held. WritesPart (λ extent. is extent held) out.written new.written) →
        CarriesOut is reads (outside files out eb) (outside later new ea) result
    one_part = part_at (contents_told files.told) refl

-- ---- an input wasn't had
-- where it is refused, this report has no text, so it begins any other
module _ (is : Extent → Contents → Report → Type 0) (reads : List ℕ → Type 0) (files later : FilesState) (out eb ea : SinkState) (result : Status) where
  abbrev pub IsRefused : List ℕ → Type 0
  IsRefused text = IfSome (contents_told files.told) (λ held. is Whole held (refused_input text))

  begins : (report : Report) → report.text ≡ [] → IfSome (contents_told files.told) (λ held. MayBegin (λ extent. is extent held) report)
  begins report e = all (contents_told files.told) (λ held. MayBegin (λ extent. is extent held) report) (λ held. inl e)

  written : IfSome (contents_told files.told) (λ held. AppendsPrefix out.written out.written [])
  written = any (contents_told files.told) _ (AppendsPrefix-nothing out.written [])

  read : (name : List ℕ) → reads name → Rose files.faults later.faults → IfSome later.asked (λ asked. asked ≡ name) →
      Says (read_fault_text name) answer.ReadFault eb ea result → CarriesOut is reads (outside files out eb) (outside later out ea) result
  read name may rose asked said =
      one_of reads (outside files out eb) (outside later out ea) result is nothing (begins nothing refl) (λ r. absurd (says_reported _ answer.ReadFault eb ea result (λ r. r) said r))
      (by_read_fault (λ _. nothing) reads (outside files out eb) (outside later out ea) result written name may rose asked said)

  pub one_input : (why : InputFault) →
      TellsInput (FailsAt reads files later) (λ text. IsErrorText reads text × IsRefused text) why →
      SaysInputFault why eb ea result → CarriesOut is reads (outside files out eb) (outside later out ea) result
  one_input (input.Read name) why said = read name.now why.0 why.1 why.2 said
  one_input (input.ReadIn folder name) why said = read (in_folder folder.now name.now) why.0 why.1 why.2 said
  one_input input.Memory why said =
      one_of reads (outside files out eb) (outside later out ea) result is nothing (begins nothing refl) (λ r. absurd (says_reported _ answer.Memory eb ea result (λ r. r) said r))
      (by_memory (λ _. nothing) reads (outside files out eb) (outside later out ea) result written said)
  one_input (input.Refused text) why said =
      one_of reads (outside files out eb) (outside later out ea) result is (refused_input (string_bytes text)) (begins (refused_input (string_bytes text)) refl) (λ r. why.1)
      (by_refused (λ _. refused_input (string_bytes text)) reads files later out eb ea result (string_bytes text) why.0 (any (contents_told files.told) _ refl) said)

-- ---- what was carried out behind the reading of other files, as part of the whole
module _ (is more_is : Extent → Contents → Report → Type 0) (reads more : List ℕ → Type 0) (files : FilesState) (out err : SinkState) (after : Outside) (result : Status)
    (reading : (name : List ℕ) → reads name → more name) (first : FilesState)
    (rises : Rose files.faults after.files.faults → Rose first.faults after.files.faults) where
  begun_more : (held : Contents) (report : Report) → ((extent : Extent) (report : Report) → is extent held report → more_is extent held report) →
      MayBegin (λ extent. is extent held) report → MayBegin (λ extent. more_is extent held) report
  begun_more held report f (inl e) = inl e
  begun_more held report f (inr w) = inr (w.0, f w.0 report w.1)

  pub one_within : contents_told files.told ≡ contents_told first.told →
      IfSome (contents_told first.told) (λ held. (extent : Extent) (report : Report) → is extent held report → more_is extent held report) →
      CarriesOut is reads (outside files out err) after result → CarriesOut more_is more (outside first out err) after result
  one_within same maps one = record {
    tells = record {
      report = one.tells.report;
      begun = both (contents_told first.told) _ _ _ (λ held f b. begun_more held one.tells.report f b) maps
          (subst (λ o. IfSome o (λ held. MayBegin (λ extent. is extent held) one.tells.report)) same one.tells.begun);
      whole = λ r. both (contents_told first.told) _ _ _ (λ held f w. f Whole one.tells.report w) maps
          (subst (λ o. IfSome o (λ held. is Whole held one.tells.report)) same (one.tells.whole r));
      text = there (AppendsPrefix out.written after.out.written one.tells.report.text) one.tells.text;
      all = λ r. there (after.out.written ≡ append_known out.written one.tells.report.text) (one.tells.all r);
      status = λ r. there (result ≡ one.tells.report.status) (one.tells.status r);
      errors = λ r. there (after.err.written ≡ append_known err.written one.tells.report.errors) (one.tells.errors r);
    };
    not_usage = one.not_usage;
    read_fault = λ e. rises (one.read_fault e);
    write_fault = one.write_fault;
    told = tells_more (IsErrorText reads) (IsErrorText more) reads more after.files.asked err after.err result (λ text. error_text_more reads more text reading) reading one.told;
  }
    where
      there : (P : Type 0) → IfSome (contents_told files.told) (λ _. P) → IfSome (contents_told first.told) (λ _. P)
      there P p = subst (λ o. IfSome o (λ _. P)) same p

-- the same of reports that are functions
module _ (report whole : Contents → Report) (reads more : List ℕ → Type 0) (files : FilesState) (out err : SinkState) (after : Outside) (result : Status)
    (reading : (name : List ℕ) → reads name → more name) (first : FilesState)
    (rises : Rose files.faults after.files.faults → Rose first.faults after.files.faults) where
  pub carried_within : contents_told files.told ≡ contents_told first.told → IfSome (contents_told first.told) (λ held. report held ≡ whole held) →
      CarriesOut (exactly report) reads (outside files out err) after result → CarriesOut (exactly whole) more (outside first out err) after result
  carried_within same is carried =
      one_within (exactly report) (exactly whole) reads more files out err after result reading first rises same
      (each (contents_told first.told) (λ held. report held ≡ whole held) (λ held. (extent : Extent) (r : Report) → exactly report extent held r → exactly whole extent held r)
      (λ held e extent r q. q ∙ e) is) carried

-- the same of an equal name
pub carried_name : (ask : List ℕ → Contents → Report) (a b : List ℕ) (before after : Outside) (result : Status) → a ≡ b →
    CarriesOut (exactly (ask a)) (Contains (a ∷ [])) before after result → CarriesOut (exactly (ask b)) (Contains (b ∷ [])) before after result
carried_name ask a b before after result same = subst (λ name. CarriesOut (exactly (ask name)) (Contains (name ∷ [])) before after result) same

-- ---- a request that was carried out
-- all was written, and nothing on the error stream
pub carried_done : (report : Contents → Report) (reads : List ℕ → Type 0) (before after : Outside) (result : Status) → IsCarriedOut result → after.err ≡ before.err →
    IfSome (contents_told before.files.told) (λ held. (after.out.written ≡ append_known before.out.written (report held).text) × (result ≡ (report held).status) × ((report held).errors ≡ [])) →
    CarriesOut (exactly report) reads before after result
carried_done report reads before after result is silent put = exact reads before after result report (record {
  text = there (λ r. AppendsPrefix before.out.written after.out.written r.text) (λ r w. AppendsPrefix-whole before.out.written after.out.written r.text w.0);
  all = λ _. there (λ r. after.out.written ≡ append_known before.out.written r.text) (λ r w. w.0);
  status = λ _. there (λ r. result ≡ r.status) (λ r w. w.1);
  errors = λ _. there (λ r. after.err.written ≡ append_known before.err.written r.errors)
      (λ r w. ap (λ e. e.written) silent ∙ sym (append_known-nil before.err.written) ∙ ap (append_known before.err.written) (sym w.2));
  not_usage = λ e. subst IsCarriedOut e is;
  read_fault = λ e. absurd (subst IsCarriedOut e is);
  write_fault = λ e. absurd (subst IsCarriedOut e is);
  told = quiet reads after.files.asked before.err after.err result is;
})
  where
    there : (P : Report → Type 0) → ((r : Report) → (after.out.written ≡ append_known before.out.written r.text) × (result ≡ r.status) × (r.errors ≡ []) → P r) → IfSome (contents_told before.files.told) (λ held. P (report held))
    there P gives = each (contents_told before.files.told) _ (λ held. P (report held)) (λ held w. gives (report held) w) put

-- and so of a report that has nothing for the error stream
pub carried_put : (report : Contents → Report) (reads : List ℕ → Type 0) (before after : Outside) (result : Status) → IsCarriedOut result → after.err ≡ before.err →
    ((held : Contents) → (let r : Report = report held in r.errors) ≡ []) → IfSome (contents_told before.files.told) (λ held. IsPut (report held) before.out.written after.out.written result) →
    CarriesOut (exactly report) reads before after result
carried_put report reads before after result is silent none put =
    carried_done report reads before after result is silent
    (each (contents_told before.files.told) (λ held. IsPut (report held) before.out.written after.out.written result)
    (λ held. (after.out.written ≡ append_known before.out.written (report held).text) × (result ≡ (report held).status) × ((report held).errors ≡ []))
    (λ held w. (w.1, w.0, none held)) put)

-- the report on a file has nothing for it, where that of what is accepted hasn't
module _ (accepts : List ℕ → Report) (none : (bytes : List ℕ) → (let r : Report = accepts bytes in r.errors) ≡ []) where
  judged_silent : (bytes : List ℕ) (why : Option Refusal) → (let r : Report = judged_report accepts bytes why in r.errors) ≡ []
  judged_silent bytes None = none bytes
  judged_silent bytes (Some refusal) = refl

  snapshot_silent : (held : Option (List ℕ)) → (let r : Report = snapshot_report accepts held in r.errors) ≡ []
  snapshot_silent None = refl
  snapshot_silent (Some bytes) = judged_silent bytes (refusal bytes)

  pub file_silent : (file : List ℕ) (contents : Contents) → (let r : Report = file_report accepts file contents in r.errors) ≡ []
  file_silent file contents = snapshot_silent (get contents file)

-- ---- faults
-- a count that rose after it had not fallen rose
pub rose_later : (old mid new : ℕ) → old ≤ mid → Rose mid new → Rose old new
rose_later old mid new later rose = omega arith

pub not_read : (why : Fault) → why ≡ fault.Write → why ≡ fault.Read → ⊥
not_read why w r = differ (sym w ∙ r)
  where
    differ : fault.Write ≡ fault.Read → ⊥
    differ e = cc

-- nothing is written
pub nothing_written : (is : Extent → Report → Type 0) (old : Option (List ℕ)) → WritesPart is old old
nothing_written is old = (nothing, inl refl, AppendsPrefix-nothing old [])
