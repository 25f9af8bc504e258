-- What `verify` has written, and the report that its file gives.
use Rattle.std.proofs.Common.{◌≡◌, ◌<◌, ◌≤◌, ◌++◌, ℕ, List, [], length, true, false, cond, nat_lt, Option, Some, None, IfSome, Err, sym, ap, ◌∙◌, subst, arith, append_assoc}
use Rattle.std.specs.Prelude.{IsSomeAnd}
use Rattle.std.specs.FinMap.{get}
use Rattle.std.specs.Io.KnownBytes.{append_known}
use Rattle.std.proofs.lemmas.Bool.Decides.{nat_tests}
use Rattle.rt_outside.specs.Causes.{Rose}
use Rattle.rt_outside.specs.Read.{TellsWhole}
use Rattle.rt_outside.specs.Sink.{AppendsPrefix, SinkState}
use Rattle.rt_outside.specs.Store.{Contents, FilesState, contents_told}
use Rattle.rt_outside.specs.declared.read_end.ReadEnd.{ReadEnd}
use Rattle.rt_outside.specs.declared.read_end.ReadEnd.TheVariants as end
use Rattle.rt_outside.proofs.Appends.{append_known-both, AppendsPrefix-first, AppendsPrefix-second, AppendsPrefix-whole}
use Rattle.run_base.specs.declared.input_fault.InputFault.{InputFault}
use Rattle.run_base.specs.declared.status.Status.{Status}
use Rattle.run_base.specs.Carried.{CarriesOut, exactly}
use Rattle.run_base.specs.Faults.{IsErrorText, says_refused}
use Rattle.run_base.specs.Inputs.{FailsAt, SaysInputFault}
use Rattle.run_base.specs.Outside.{outside}
use Rattle.run_base.specs.Report.{Report, refused_input}
use Rattle.run_base.proofs.Carried.{carried_input, input_more}
use Rattle.run_base.specs.Sending.{SendsText}
use Rattle.run_verify.specs.Verified.{FailsRead, IsRefused, TellsEnd, held_report, judged_report, large_text, report_limit, verify_report}

-- ---- all verdicts were sent or are held back, and then comes their sum
module _ (before mid : Option (List ℕ)) (start verdicts rest : List ℕ) (none : start ≡ []) (s : SendsText before mid (start ++ verdicts) rest) where
  whole_is : (sum : List ℕ) → s.sent ++ (rest ++ sum) ≡ verdicts ++ sum
  whole_is sum = sym (append_assoc s.sent rest sum) ∙ ap (λ t. t ++ sum) (s.text_is ∙ ap (λ t. t ++ verdicts) none)

  pub begun : (sum : List ℕ) → AppendsPrefix before mid (verdicts ++ sum)
  begun sum = subst (AppendsPrefix before mid) (whole_is sum) (AppendsPrefix-first before mid s.sent (rest ++ sum) (AppendsPrefix-whole before mid s.sent s.written))

  pub broken : (now : Option (List ℕ)) (sum bytes : List ℕ) → bytes ≡ rest ++ sum → AppendsPrefix mid now bytes → AppendsPrefix before now (verdicts ++ sum)
  broken now sum bytes e p = subst (AppendsPrefix before now) (whole_is sum) (AppendsPrefix-second before mid now s.sent (rest ++ sum) s.written (subst (AppendsPrefix mid now) e p))

  pub done : (now : Option (List ℕ)) (sum bytes : List ℕ) → bytes ≡ rest ++ sum → now ≡ append_known mid bytes → now ≡ append_known before (verdicts ++ sum)
  done now sum bytes e p = append_known-both before mid now s.sent (rest ++ sum) s.written (p ∙ ap (append_known mid) e) ∙ ap (append_known before) (whole_is sum)

-- ---- the report in a file
small : (n : ℕ) → n ≤ report_limit → nat_lt report_limit n ≡ false
small n h = grind (arith, nat_tests)

large : (n : ℕ) → report_limit < n → nat_lt report_limit n ≡ true
large n h = grind (arith, nat_tests)

-- it was read whole
pub in_report : (told : Option Contents) (file bytes held_bytes : List ℕ) (P : Report → Type 0) → bytes ≡ held_bytes → IfSome told (λ held. (get held file ≡ Some held_bytes) × (length held_bytes ≤ report_limit)) → P (judged_report bytes)
    → IfSome told (λ held. P (verify_report file held))
in_report None file bytes held_bytes P e is p = tt
in_report (Some held) file bytes held_bytes P e is p =
    let same : verify_report file held ≡ judged_report bytes =
    ap (held_report file) is.0 ∙ ap (λ b. cond b (refused_input (large_text file)) (judged_report held_bytes)) (small (length held_bytes) is.1) ∙ ap judged_report (sym e) in
    subst P (sym same) p

too_large : (file : List ℕ) (o : Option (List ℕ)) → IsSomeAnd o (λ whole. report_limit < length whole) → held_report file o ≡ refused_input (large_text file)
too_large file None h = absurd h
too_large file (Some bytes) h = ap (λ b. cond b (refused_input (large_text file)) (judged_report bytes)) (large (length bytes) h)

-- it is refused
refused_is : (told : Option Contents) (file : List ℕ) (why : ReadEnd) (text : List ℕ) → IfSome told (λ held. TellsWhole held file report_limit (Err why)) → IsRefused why file text
    → IfSome told (λ held. verify_report file held ≡ refused_input text)
refused_is None file why text is w = tt
refused_is (Some held) file end.Absent text is w = ap (held_report file) is ∙ ap refused_input (sym w)
refused_is (Some held) file end.TooLarge text is w = too_large file (get held file) is ∙ ap refused_input (sym w)
refused_is (Some held) file end.ReadFault text is w = absurd w
refused_is (Some held) file end.Memory text is w = absurd w

error_is : (reads : List ℕ → Type 0) (file : List ℕ) (why : ReadEnd) (text : List ℕ) → reads file → IsRefused why file text → IsErrorText reads text
error_is reads file end.Absent text may w = subst (IsErrorText reads) (sym w) (says_refused file _ may)
error_is reads file end.TooLarge text may w = subst (IsErrorText reads) (sym w) (says_refused file _ may)
error_is reads file end.ReadFault text may w = absurd w
error_is reads file end.Memory text may w = absurd w

-- and it is told
pub carried_end : (files later : FilesState) (out eb ea : SinkState) (result : Status) (file : List ℕ) (reads : List ℕ → Type 0) (why : ReadEnd) (fault : InputFault) → reads file
    → IfSome (contents_told files.told) (λ held. TellsWhole held file report_limit (Err why)) → (why ≡ end.ReadFault → Rose files.faults later.faults) → IfSome later.asked (λ asked. asked ≡ file)
    → TellsEnd file why fault → SaysInputFault fault eb ea result → CarriesOut (exactly (verify_report file)) reads (outside files out eb) (outside later out ea) result
carried_end files later out eb ea result file reads why fault may is rose asked tells said =
    carried_input (verify_report file) reads files later out eb ea result fault
    (input_more (FailsRead why file) (IsRefused why file) (FailsAt reads files later) (λ text. IsErrorText reads text × IfSome (contents_told files.told) (λ held. verify_report file held ≡ refused_input text)) fault
    (λ name w. (subst reads (sym w.1) may, rose w.0, subst (λ n. IfSome later.asked (λ last. last ≡ n)) (sym w.1) asked))
    (λ text w. (error_is reads file why text may w, refused_is (contents_told files.told) file why text is w)) tells) said
