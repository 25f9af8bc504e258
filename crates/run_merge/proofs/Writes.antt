-- What writing the union carries out, whatever the files are.
use Rattle.std.proofs.Common.{◌≡◌, ◌≤◌, ◌<◌, ℕ, List, [], ◌∷◌, Bool, true, false, cond, nat_lt, ◌==◌, Vec, Global, vec_len, length, refl, sym, ap, ◌∙◌, subst, IfSome, arith}
use Rattle.std.proofs.lemmas.Bool.Decides.{nat_tests}
use Rattle.std.proofs.lemmas.List.{nil_from_length}
use Rattle.rt_outside.specs.Sink.{AppendsPrefix, SinkState}
use Rattle.rt_outside.specs.Store.{Contents, FilesState, contents_told}
use Rattle.rt_outside.proofs.Appends.{AppendsPrefix-nothing}
use Rattle.feed_values.specs.Accepted.{snapshot_limit}
use Rattle.feed_values.specs.Canonical.{canonical}
use Rattle.feed_values.specs.Schema.{Value}
use Rattle.feed_values.specs.Messages.{feed_message}
use Rattle.run_base.specs.declared.status.Status.{Status}
use Rattle.run_base.specs.declared.status.Status.TheVariants as answer
use Rattle.run_base.specs.Carried.{CarriesOut, exactly}
use Rattle.run_base.specs.declared.input_fault.InputFault.{InputFault}
use Rattle.run_base.specs.Faults.{IsErrorText, Says, large_union_text, memory_text, says_large_union}
use Rattle.run_base.specs.Inputs.{FailsAt, SaysInputFault, TellsInput}
use Rattle.run_base.specs.Outside.{outside}
use Rattle.run_base.specs.Report.{Report, refused_input}
use Rattle.run_base.proofs.Carried.{by_refused, carried_input, carried_memory, exact, input_more}
use Rattle.run_base.proofs.Chosen.{any}
use Rattle.run_merge.specs.Merged.{union_report, written}
use Rattle.run_merge.specs.Gathering.{report_on}

-- a command that reads no file did this
abbrev pub DoesAlways : Report → SinkState → SinkState → SinkState → SinkState → Status → Type 0
DoesAlways report out new eb ea result = (files : FilesState) → CarriesOut (exactly (λ held. report)) (λ name. ⊥) (outside files out eb) (outside files new ea) result

-- ---- which report it is
small : (n : ℕ) → n ≤ snapshot_limit → nat_lt snapshot_limit n ≡ false
small n l = grind (arith, nat_tests)

large : (n : ℕ) → snapshot_limit < n → nat_lt snapshot_limit n ≡ true
large n l = grind (arith, nat_tests)

small_report : (v : Value feed_message) (bytes : List ℕ) → bytes ≡ canonical feed_message v → length bytes ≤ snapshot_limit → written bytes answer.Clean ≡ union_report v
small_report v bytes is le =
    ap (λ b. written b answer.Clean) is
    ∙ ap (λ b. cond b (refused_input large_union_text) (written (canonical feed_message v) answer.Clean)) (sym (ap (λ xs. nat_lt snapshot_limit (length xs)) (sym is) ∙ small (length bytes) le))

large_report : (v : Value feed_message) → snapshot_limit < length (canonical feed_message v) → refused_input large_union_text ≡ union_report v
large_report v l = ap (λ b. cond b (refused_input large_union_text) (written (canonical feed_message v) answer.Clean)) (sym (large (length (canonical feed_message v)) l))

-- whether there are lines
is_zero : (n : ℕ) → (n == 0) ≡ true → n ≡ 0
is_zero n e = grind (arith, nat_tests)

not_zero : (n : ℕ) → (n == 0) ≡ false → n ≡ 0 → ⊥
not_zero n e z = grind (arith, nat_tests)

pub none_left : (v : Vec ℕ Global) (r : Bool) → r ≡ (vec_len v == 0) → r ≡ true → v.items ≡ []
none_left v r e is = nil_from_length v.items (long (is_zero (vec_len v) (sym e ∙ is)))
  where
    long : vec_len v ≡ 0 → length v.items ≡ 0
    long z = omega arith

pub some_left : (v : Vec ℕ Global) (r : Bool) → r ≡ (vec_len v == 0) → r ≡ false → v.items ≡ [] → ⊥
some_left v r e is none = not_zero (vec_len v) (sym e ∙ is) (long (ap length none))
  where
    long : length v.items ≡ 0 → vec_len v ≡ 0
    long z = omega arith

module _ (out new eb ea : SinkState) (result : Status) where
  of_same : (a b : Report) → a ≡ b → DoesAlways a out new eb ea result → DoesAlways b out new eb ea result
  of_same a b same does = subst (λ r. DoesAlways r out new eb ea result) same does

  -- the bytes of a union were written
  pub small_written : (v : Value feed_message) (held bytes : List ℕ) → held ≡ bytes → bytes ≡ canonical feed_message v → length bytes ≤ snapshot_limit →
      DoesAlways (written held answer.Clean) out new eb ea result → DoesAlways (union_report v) out new eb ea result
  small_written v held bytes same is le = of_same (written held answer.Clean) (union_report v) (ap (λ b. written b answer.Clean) same ∙ small_report v bytes is le)

  -- the report on what was gathered
  pub none_refused : (feeds : List (List ℕ)) (v : Value feed_message) (lines : List ℕ) → lines ≡ [] → union_report v ≡ report_on feeds [] → DoesAlways (union_report v) out new eb ea result →
      DoesAlways (report_on feeds lines) out new eb ea result
  none_refused feeds v lines none is = of_same (union_report v) (report_on feeds lines) (is ∙ ap (report_on feeds) (sym none))

  pub some_refused : (feeds : List (List ℕ)) (lines held : List ℕ) → (lines ≡ [] → ⊥) → held ≡ lines → DoesAlways (written held answer.Found) out new eb ea result →
      DoesAlways (report_on feeds lines) out new eb ea result
  some_refused feeds [] held some same does = absurd (some refl)
  some_refused feeds (byte ∷ lines) held some same does = of_same (written held answer.Found) (written (byte ∷ lines) answer.Found) (ap (λ b. written b answer.Found) same) does

-- a union that is too large was told
pub large_told : (v : Value feed_message) (out eb ea : SinkState) (result : Status) → snapshot_limit < length (canonical feed_message v) → Says large_union_text answer.Refused eb ea result →
    DoesAlways (union_report v) out out eb ea result
large_told v out eb ea result l said files =
    exact (λ name. ⊥) (outside files out eb) (outside files out ea) result (λ held. union_report v)
    (by_refused (λ held. union_report v) (λ name. ⊥) files files out eb ea result large_union_text says_large_union (any (contents_told files.told) (union_report v ≡ refused_input large_union_text) (sym (large_report v l))) said)

-- and want of memory
pub memory_told : (report : Report) (out eb ea : SinkState) (result : Status) → Says memory_text answer.Memory eb ea result → DoesAlways report out out eb ea result
memory_told report out eb ea result said files =
    carried_memory (λ held. report) (λ name. ⊥) (outside files out eb) (outside files out ea) result
    (any (contents_told files.told) (AppendsPrefix out.written out.written report.text) (AppendsPrefix-nothing out.written report.text)) said

-- and a file that couldn't be read
pub read_told : (report : Contents → Report) (reads : List ℕ → Type 0) (files later : FilesState) (out eb ea : SinkState) (result : Status) (why : InputFault) →
    TellsInput (FailsAt reads files later) (λ text. ⊥) why → SaysInputFault why eb ea result → CarriesOut (exactly report) reads (outside files out eb) (outside later out ea) result
read_told report reads files later out eb ea result why tells said =
    carried_input report reads files later out eb ea result why
    (input_more (FailsAt reads files later) (λ text. ⊥) (FailsAt reads files later) (λ text. IsErrorText reads text × IfSome (contents_told files.told) (λ held. report held ≡ refused_input text)) why
    (λ name fails. fails) (λ text none. absurd none) tells)
    said
