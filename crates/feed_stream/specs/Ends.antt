-- What is asked at a snapshot's end. (GTFS Realtime Reference 2.0, "FeedHeader"; that DIFFERENTIAL isn't taken is this profile's.)
use Rattle.std.specs.Prelude.{ℕ, List, Option, Some, None}
use Rattle.feed_values.specs.declared.required.Required.TheVariants as required
use Rattle.feed_values.specs.Meaning.{fields}
use Rattle.feed_codec.specs.declared.refusal.Reason.TheVariants.{MissingField}
use Rattle.feed_codec.specs.declared.refusal.Refusal.{Refusal}
use Rattle.feed_codec.specs.Refusal.{refused, header_fault}

-- what is wrong with the header, by its payloads, joined, where one came
abbrev pub header_end_fault : ℕ → Option (List ℕ) → Option Refusal
header_end_fault end None = Some (refused end (MissingField required.Header))
header_end_fault end (Some parts) = header_fault end (fields parts)
