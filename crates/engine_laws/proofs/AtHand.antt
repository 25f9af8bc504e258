-- What is answered by what is at hand of a feed: its headers, and for its entities the header's timestamp and the moment alone.
use Rattle.std.specs.Prelude.{◌≡◌, Bool, true, false, Option, refl}
use Rattle.std.specs.Option.{option_or}
use Rattle.feed_values.specs.declared.cell_value.CellValue.{CellValue}
use Rattle.feed_values.specs.declared.slot.Slot.{Slot}
use Rattle.feed_values.specs.declared.slot.Slot.TheVariants.{S3}
use Rattle.feed_values.specs.Snapshot.{header_of, timestamp_of}
use Rattle.rule_table.specs.declared.ask.Ask.{Ask}
use Rattle.rule_table.specs.declared.ask.Ask.TheVariants as ask
use Rattle.rule_table.specs.Answers.{Heads, heads_answer, limit_answer}
use Rattle.rule_table.specs.Sources.{Source, from_headers, source_of, is_headed}
use Rattle.rule_history.specs.History.{Snapshot}
use Rattle.rule_history.specs.Answered.{heads_of}

-- what comes from headers and the moment is answered by the headers, whatever else answers
pub heads_first : (heads : Heads) (x : Option CellValue) (a : Ask) → is_headed (source_of a) ≡ true → option_or (heads_answer heads a) x ≡ heads_answer heads a
heads_first heads x (ask.HeadNow q) h = refl
heads_first heads x (ask.HeadBefore q) h = refl
heads_first heads x ask.Moment h = refl
heads_first heads x ask.EntitiesChanged h = refl
heads_first heads x _ h = cc

-- what an entity's rules ask is answered without the header before and the entities before
abbrev pub is_held : Source → Bool
is_held from_headers = false
is_held _ = true

stamp_alone : (s : Snapshot) (b : Option Snapshot) (q : Slot) → is_held (source_of (ask.HeadNow q)) ≡ true → heads_answer (heads_of s b) (ask.HeadNow q) ≡ limit_answer (timestamp_of (header_of s.bytes)) s.moment (ask.HeadNow q)
stamp_alone s b S3 h = refl
stamp_alone s b _ h = cc

pub heads_limits : (s : Snapshot) (b : Option Snapshot) (a : Ask) → is_held (source_of a) ≡ true → heads_answer (heads_of s b) a ≡ limit_answer (timestamp_of (header_of s.bytes)) s.moment a
heads_limits s b (ask.HeadNow q) h = stamp_alone s b q h
heads_limits s b (ask.HeadBefore q) h = cc
heads_limits s b ask.EntitiesChanged h = cc
heads_limits s b _ h = refl
