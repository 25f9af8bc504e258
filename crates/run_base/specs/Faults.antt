-- What is written to the error stream where a run isn't carried out. (This profile.)
use Rattle.std.specs.Prelude.{◌≡◌, ℕ, List, ◌++◌, ◌⊎◌, codes, Option, IfSome, ⊤}
use Rattle.std.specs.Io.KnownBytes.{append_known}
use Rattle.rt_outside.specs.Causes.{Rose}
use Rattle.rt_outside.specs.Sink.{AppendsPrefix, SinkState}
use Rattle.run_base.specs.declared.fault.Fault.{Fault}
use Rattle.run_base.specs.declared.fault.Fault.TheVariants as fault
use Rattle.run_base.specs.declared.status.Status.{Status}
use Rattle.run_base.specs.declared.status.Status.TheVariants as answer

abbrev pub memory_text : List ℕ
memory_text = codes "out of memory\n"

abbrev pub write_fault_text : List ℕ
write_fault_text = codes "write fault\n"

abbrev pub read_fault_text : List ℕ → List ℕ
read_fault_text name = codes "read fault: " ++ name ++ codes "\n"

-- an input is refused: the name of its file, and what is wrong with it
abbrev pub refused_text : List ℕ → List ℕ → List ℕ
refused_text name why = codes "refused: " ++ name ++ codes ": " ++ why ++ codes "\n"

-- the zone that a rule in the words says is refused; there is no file then
abbrev pub bad_zone_text : List ℕ
bad_zone_text = refused_text (codes "zone") (codes "bad zone")

-- the union of feeds is refused where it has more bytes than a snapshot may have; no file has that name
abbrev pub large_union_text : List ℕ
large_union_text = refused_text (codes "merged") (codes "too large")

-- the texts of a command that may stand on the error stream, where these files are read
pub data IsErrorText (reads : List ℕ → Type 0) : List ℕ → Type 0 where
  says_memory : IsErrorText reads memory_text
  says_write_fault : IsErrorText reads write_fault_text
  says_read_fault : (name : List ℕ) → reads name → IsErrorText reads (read_fault_text name)
  says_refused : (name why : List ℕ) → reads name → IsErrorText reads (refused_text name why)
  says_bad_zone : IsErrorText reads bad_zone_text
  says_large_union : IsErrorText reads large_union_text

-- What was appended to the error stream with an answer that tells a fault. A read fault names a file that is read,
-- and the one last asked for, where that is told. Where the error stream failed too, a prefix of one of the texts stands there
-- that `may` stand there.
abbrev pub TellsOneOf : (may reads : List ℕ → Type 0) → Option (List ℕ) → SinkState → SinkState → Status → Type 0
TellsOneOf may reads last before after answer.ReadFault =
    (name : List ℕ) × reads name × IfSome last (λ asked. asked ≡ name) × (after.written ≡ append_known before.written (read_fault_text name))
TellsOneOf may reads last before after answer.Memory = after.written ≡ append_known before.written memory_text
TellsOneOf may reads last before after answer.WriteFault =
    (after.written ≡ append_known before.written write_fault_text)
    ⊎ (Rose before.faults after.faults × ((text : List ℕ) × may text × AppendsPrefix before.written after.written text))
TellsOneOf may reads last before after answer.Clean = ⊤
TellsOneOf may reads last before after answer.Found = ⊤
TellsOneOf may reads last before after answer.Usage = ⊤
TellsOneOf may reads last before after answer.Refused = ⊤

-- that of a command
abbrev pub TellsFault : (List ℕ → Type 0) → Option (List ℕ) → SinkState → SinkState → Status → Type 0
TellsFault reads last before after result = TellsOneOf (IsErrorText reads) reads last before after result

-- the answers of a request that was carried out to the end of its files
abbrev pub IsCarriedOut : Status → Type 0
IsCarriedOut answer.Clean = ⊤
IsCarriedOut answer.Found = ⊤
IsCarriedOut answer.Usage = ⊥
IsCarriedOut answer.ReadFault = ⊥
IsCarriedOut answer.WriteFault = ⊥
IsCarriedOut answer.Memory = ⊥
IsCarriedOut answer.Refused = ⊥

-- the answers that a report may have
abbrev pub IsReported : Status → Type 0
IsReported answer.Clean = ⊤
IsReported answer.Found = ⊤
IsReported answer.Usage = ⊤
IsReported answer.ReadFault = ⊥
IsReported answer.WriteFault = ⊥
IsReported answer.Memory = ⊥
IsReported answer.Refused = ⊤

-- a text was written whole and the answer is the one meant; or a put failed, and a prefix of it was written
abbrev pub Says : List ℕ → Status → SinkState → SinkState → Status → Type 0
Says text meant before after result =
    ((result ≡ meant) × (after.written ≡ append_known before.written text))
    ⊎ ((result ≡ answer.WriteFault) × Rose before.faults after.faults × AppendsPrefix before.written after.written text)

-- a fault was told by its own text, and its own answer is meant
abbrev pub SaysFault : Fault → List ℕ → SinkState → SinkState → Status → Type 0
SaysFault fault.Read file before after result = Says (read_fault_text file) answer.ReadFault before after result
SaysFault fault.Write file before after result = Says write_fault_text answer.WriteFault before after result
SaysFault fault.Memory file before after result = Says memory_text answer.Memory before after result
