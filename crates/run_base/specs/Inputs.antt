-- Why an input of a command isn't had, and how that is told. (This profile.)
use Rattle.std.specs.Prelude.{◌≡◌, ℕ, List, ◌++◌, ◌∷◌, ⊤, IfSome, string_bytes}
use Rattle.rt_outside.specs.Causes.{Rose}
use Rattle.rt_outside.specs.Sink.{SinkState}
use Rattle.rt_outside.specs.Store.{FilesState}
use Rattle.run_base.specs.declared.input_fault.InputFault.{InputFault}
use Rattle.run_base.specs.declared.input_fault.InputFault.TheVariants as input
use Rattle.run_base.specs.declared.status.Status.{Status}
use Rattle.run_base.specs.declared.status.Status.TheVariants as answer
use Rattle.run_base.specs.Faults.{Says, memory_text, read_fault_text}

-- a file of this name in a folder
abbrev pub in_folder : List ℕ → List ℕ → List ℕ
in_folder folder name = folder ++ 47 ∷ name

-- it was told why an input isn't had: a read fault by the name of its file, want of memory, or why the input is refused
abbrev pub SaysInputFault : InputFault → SinkState → SinkState → Status → Type 0
SaysInputFault (input.Read name) before after result = Says (read_fault_text name.now) answer.ReadFault before after result
SaysInputFault (input.ReadIn folder name) before after result = Says (read_fault_text (in_folder folder.now name.now)) answer.ReadFault before after result
SaysInputFault input.Memory before after result = Says memory_text answer.Memory before after result
SaysInputFault (input.Refused text) before after result = Says (string_bytes text) answer.Refused before after result

-- a file that is read was asked for last, and its read failed
abbrev pub FailsAt : (reads : List ℕ → Type 0) (before after : FilesState) → List ℕ → Type 0
FailsAt reads before after name = reads name × Rose before.faults after.faults × IfSome after.asked (λ last. last ≡ name)

-- What is told is so: a file is named only where its read `failed`, and an input is `refused` with this text. Want of memory may be
-- told in place of either.
abbrev pub TellsInput : (failed refused : List ℕ → Type 0) → InputFault → Type 0
TellsInput failed refused (input.Read name) = failed name.now
TellsInput failed refused (input.ReadIn folder name) = failed (in_folder folder.now name.now)
TellsInput failed refused input.Memory = ⊤
TellsInput failed refused (input.Refused text) = refused (string_bytes text)
