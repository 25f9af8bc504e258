-- From what was said to what a run tells.
use Rattle.std.proofs.Common.{◌≡◌, ℕ, List, inl, inr, sym, subst}
use Rattle.std.specs.declared.option.Option.{Option}
use Rattle.std.specs.Io.KnownBytes.{append_known}
use Rattle.rt_outside.specs.Sink.{SinkState}
use Rattle.run_base.specs.declared.status.Status.{Status}
use Rattle.run_base.specs.declared.status.Status.TheVariants as answer
use Rattle.run_base.specs.Faults.{TellsOneOf, IsErrorText, says_memory, says_write_fault, says_read_fault, says_refused, says_bad_zone, says_large_union, Says}

-- a text that may stand there was said
pub tells : (may reads : List ℕ → Type 0) (last : Option (List ℕ)) (before after : SinkState) (text : List ℕ) (meant result : Status) →
    may text → (after.written ≡ append_known before.written text → TellsOneOf may reads last before after meant) →
    Says text meant before after result → TellsOneOf may reads last before after result
tells may reads last before after text meant result is whole (inl said) = subst (TellsOneOf may reads last before after) (sym said.0) (whole said.1)
tells may reads last before after text meant result is whole (inr said) =
    subst (TellsOneOf may reads last before after) (sym said.0) (inr (said.1, (text, is, said.2)))

-- where more files are read, a text that may stand there still may
pub error_text_more : (reads more : List ℕ → Type 0) (text : List ℕ) → ((name : List ℕ) → reads name → more name) →
    IsErrorText reads text → IsErrorText more text
error_text_more reads more text reading says_memory = says_memory
error_text_more reads more text reading says_write_fault = says_write_fault
error_text_more reads more text reading (says_read_fault name is) = says_read_fault name (reading name is)
error_text_more reads more text reading (says_refused name why is) = says_refused name why (reading name is)
error_text_more reads more text reading says_bad_zone = says_bad_zone
error_text_more reads more text reading says_large_union = says_large_union

-- and what a fault tells still does
pub tells_more : (may more_may reads more : List ℕ → Type 0) (last : Option (List ℕ)) (before after : SinkState) (result : Status) →
    ((text : List ℕ) → may text → more_may text) → ((name : List ℕ) → reads name → more name) →
    TellsOneOf may reads last before after result → TellsOneOf more_may more last before after result
tells_more may more_may reads more last before after answer.Clean texts reading told = tt
tells_more may more_may reads more last before after answer.Found texts reading told = tt
tells_more may more_may reads more last before after answer.Usage texts reading told = tt
tells_more may more_may reads more last before after answer.ReadFault texts reading told = (told.0, reading told.0 told.1, told.2, told.3)
tells_more may more_may reads more last before after answer.WriteFault texts reading (inl whole) = inl whole
tells_more may more_may reads more last before after answer.WriteFault texts reading (inr part) =
    inr (part.0, (part.1.0, texts part.1.0 part.1.1, part.1.2))
tells_more may more_may reads more last before after answer.Memory texts reading told = told
tells_more may more_may reads more last before after answer.Refused texts reading told = tt
