-- What writing asks of a table of slots, and its parts. (Protocol Buffers, Language Guide, "Assigning Field Numbers".)
use Rattle.std.specs.Prelude.{◌<◌, ◌^◌}
use Rattle.feed_values.specs.Schema as schema
use Rattle.feed_values.specs.Schema.{Schema, Value}
use Rattle.feed_values.specs.Messages.{alert, vehicle_position}

-- the slots after the first
abbrev pub after_first : Schema → Schema
after_first schema.end = schema.end
after_first (schema.scalar n name presence t rest) = rest
after_first (schema.text n name presence rest) = rest
after_first (schema.message n name presence m rest) = rest
after_first (schema.repeated n name m rest) = rest

-- the slots of an alert from `url` on, and what an alert holds in them
abbrev pub alert_from_url : Schema
alert_from_url = after_first (after_first (after_first (after_first alert)))

abbrev pub held_from_url : Value alert → Value alert_from_url
held_from_url v = v.1.1.1.1

-- the slots of a vehicle position from `timestamp` on, and what a vehicle position holds in them
abbrev pub position_from_timestamp : Schema
position_from_timestamp = after_first (after_first (after_first (after_first vehicle_position)))

abbrev pub held_from_timestamp : Value vehicle_position → Value position_from_timestamp
held_from_timestamp v = v.1.1.1.1

-- The number of each slot is one that a tag can have, in the messages inside too.
abbrev pub TagsFit : Schema → Type 0
TagsFit schema.end = Unit {0}
TagsFit (schema.scalar n name presence t rest) = (n < 2 ^ 29) × TagsFit rest
TagsFit (schema.text n name presence rest) = (n < 2 ^ 29) × TagsFit rest
TagsFit (schema.message n name presence m rest) = (n < 2 ^ 29) × TagsFit m × TagsFit rest
TagsFit (schema.repeated n name m rest) = (n < 2 ^ 29) × TagsFit m × TagsFit rest
