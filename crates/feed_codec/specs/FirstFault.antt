-- The first fault as a relation: a front of whole fields, and behind it what goes wrong first.
-- (Protocol Buffers, Encoding, "Message Structure"; the order of faults is this profile's.)
use Rattle.std.specs.Prelude.{◌≡◌, ◌↔◌, ℕ, ◌-◌, ◌<◌, ◌≤◌, true, List, ◌++◌, length, take, Some, None, IfSome, ◌==◌, ◌⊎◌}
use Rattle.std.specs.Bool.{MatchBool}
use Rattle.std.specs.List.{AllByRecursion}
use Rattle.std.specs.Str.{IsUtf8}
use Rattle.rt_wire.specs.declared.fault.WireFault.{WireFault}
use Rattle.rt_wire.specs.Fields.{WireField, IsBytes, Joins, Spells}
use Rattle.rt_wire.specs.Faults.{OwnFault}
use Rattle.feed_values.specs.declared.required.Required.{Required}
use Rattle.feed_values.specs.Schema as schema
use Rattle.feed_values.specs.Schema.{Schema}
use Rattle.feed_values.specs.Messages.{feed_message, feed_header, entity}
use Rattle.feed_values.specs.Meaning.{fields, payload_in}
use Rattle.feed_values.specs.Accepted.{IsWhole, IsMessage, IsAccepted, missing, header_fields, is_differential, snapshot_limit}
use Rattle.feed_codec.specs.declared.refusal.Reason.TheVariants.{NotText, MissingField, Differential, TooLarge}
use Rattle.feed_codec.specs.declared.refusal.Refusal.{Refusal}
use Rattle.feed_codec.specs.Refusal.{refused, shifted, own_fault, refusal}

-- What goes wrong first at the front of some bytes: they are no field, or a whole field stands there whose payload,
-- at the field's end, goes wrong.
pub data FrontGoesWrong (InPayload : ℕ → List ℕ → Refusal → Type 0) (bytes : List ℕ) (r : Refusal) : Type 0 where
  no_field : (f : WireFault) → OwnFault bytes f → r ≡ own_fault f → FrontGoesWrong InPayload bytes r
  inside : (f : WireField) (spelled more p : List ℕ) (inner : Refusal) → bytes ≡ spelled ++ more → Spells 100 f spelled
      → payload_in f.value ≡ Some p
      → InPayload f.number p inner → r ≡ shifted (length spelled - length p) inner → FrontGoesWrong InPayload bytes r

-- The bytes are a front and a rest. The front is fields that are whole, and the rest goes wrong.
pub record FirstIn (Whole : WireField → Type 0) (InPayload : ℕ → List ℕ → Refusal → Type 0) (bytes : List ℕ) (r : Refusal) : Type 0 where
  pub fields : List WireField
  pub front : List ℕ
  pub rest : List ℕ
  pub bytes_are : bytes ≡ front ++ rest
  pub joins : Joins (Spells 100) fields front
  pub whole : AllByRecursion Whole fields
  pub first : Refusal
  pub wrong : FrontGoesWrong InPayload rest first
  pub place : r ≡ shifted (length front) first

-- A text isn't UTF-8, at the first byte behind its longest front that is.
pub record NoText (p : List ℕ) (r : Refusal) : Type 0 where
  pub reason : r.reason ≡ NotText
  pub within : r.at < length p
  pub front : IsUtf8 (take r.at p)
  pub longest : (n : ℕ) → r.at < n → n ≤ length p → IsUtf8 (take n p) → ⊥

-- how a payload of a slot goes wrong
abbrev pub PayloadWrong : Schema → ℕ → List ℕ → Refusal → Type 0
PayloadWrong schema.end number p r = ⊥
PayloadWrong (schema.scalar n name presence t rest) number p r = PayloadWrong rest number p r
PayloadWrong (schema.text n name presence rest) number p r = MatchBool (number == n) (NoText p r) (PayloadWrong rest number p r)
PayloadWrong (schema.message n name presence m rest) number p r =
    MatchBool (number == n) (FirstIn (IsWhole m) (PayloadWrong m) p r) (PayloadWrong rest number p r)
PayloadWrong (schema.repeated n name m rest) number p r =
    MatchBool (number == n) (FirstIn (IsWhole m) (PayloadWrong m) p r) (PayloadWrong rest number p r)

-- The first fault of the bytes of a message, but for required slots.
abbrev pub FirstFault : Schema → List ℕ → Refusal → Type 0
FirstFault s bytes r = FirstIn (IsWhole s) (PayloadWrong s) bytes r

-- An entity goes wrong inside, or else at its end, where a required slot is missing.
abbrev pub EntityWrong : List ℕ → Refusal → Type 0
EntityWrong p r =
    FirstFault entity p r ⊎ (IsMessage entity p × ((which : Required) × (missing entity (fields p) ≡ Some which)
    × (r ≡ refused (length p) (MissingField which))))

-- ---- the snapshot

-- a payload of the header is a message; one of an entity lacks no required slot either
abbrev pub IsEntity : List ℕ → Type 0
IsEntity p = IsMessage entity p × (missing entity (fields p) ≡ None)

abbrev pub PartWhole : WireField → Type 0
PartWhole f =
    MatchBool (f.number == 1) (IfSome (payload_in f.value) (IsMessage feed_header))
    (MatchBool (f.number == 2) (IfSome (payload_in f.value) IsEntity) (Unit {0}))

abbrev pub PartWrong : ℕ → List ℕ → Refusal → Type 0
PartWrong number p r = MatchBool (number == 1) (FirstFault feed_header p r) (MatchBool (number == 2) (EntityWrong p r) ⊥)

-- At the snapshot's end the header, or its version, is missing; or else the incrementality is DIFFERENTIAL.
pub data EndWrong (bytes : List ℕ) (r : Refusal) : Type 0 where
  lacks : (which : Required) → missing feed_message (fields bytes) ≡ Some which → r ≡ refused (length bytes) (MissingField which)
      → EndWrong bytes r
  differs : missing feed_message (fields bytes) ≡ None → is_differential (header_fields (fields bytes)) ≡ true
      → r ≡ refused (length bytes) Differential → EndWrong bytes r

-- The first fault of a snapshot: it is too large; or a field of it goes wrong, itself or inside; or, where none does, its end.
pub data IsRefused (bytes : List ℕ) (r : Refusal) : Type 0 where
  too_large : snapshot_limit < length bytes → r ≡ refused snapshot_limit TooLarge → IsRefused bytes r
  in_field : length bytes ≤ snapshot_limit → FirstIn PartWhole PartWrong bytes r → IsRefused bytes r
  at_end : length bytes ≤ snapshot_limit → (l : List WireField) → Joins (Spells 100) l bytes → AllByRecursion PartWhole l
      → EndWrong bytes r → IsRefused bytes r

-- ---- what follows

-- A byte list is accepted, or refused with one place and reason, and never both; `refusal` computes which.
pub record RefusalIsFirst : Type 0 where
  pub refused : (bytes : List ℕ) (r : Refusal) → IsBytes bytes → (refusal bytes ≡ Some r) ↔ IsRefused bytes r
  pub accepted : (bytes : List ℕ) → IsBytes bytes → (refusal bytes ≡ None) ↔ IsAccepted bytes
  pub either : (bytes : List ℕ) → IsBytes bytes → IsAccepted bytes ⊎ ((r : Refusal) × IsRefused bytes r)
  pub not_both : (bytes : List ℕ) (r : Refusal) → IsBytes bytes → IsAccepted bytes → IsRefused bytes r → ⊥
