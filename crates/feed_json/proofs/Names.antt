-- What the law of reading back asks of the names of slots; the table of messages has it.
use Rattle.std.specs.Prelude.{◌≡◌, false, codes, bytes_eq}
use Rattle.feed_values.specs.Schema as schema
use Rattle.feed_values.specs.Schema.{Schema}
use Rattle.feed_json.specs.Unform.{is_key}

-- No two slots of a message have one name, and none is named `unknown`, in the messages inside too.
abbrev pub NamesDiffer : Schema → Type 0
NamesDiffer schema.end = Unit {0}
NamesDiffer (schema.scalar n name presence t rest) = (is_key rest (codes name) ≡ false) × NamesDiffer rest
NamesDiffer (schema.text n name presence rest) = (is_key rest (codes name) ≡ false) × NamesDiffer rest
NamesDiffer (schema.message n name presence m rest) = (is_key rest (codes name) ≡ false) × NamesDiffer m × NamesDiffer rest
NamesDiffer (schema.repeated n name m rest) = (is_key rest (codes name) ≡ false) × NamesDiffer m × NamesDiffer rest

-- no slot is named `incrementality`, in the messages inside too
abbrev pub IsFree : Schema → Type 0
IsFree schema.end = Unit {0}
IsFree (schema.scalar n name presence t rest) = (bytes_eq (codes name) (codes "incrementality") ≡ false) × IsFree rest
IsFree (schema.text n name presence rest) = IsFree rest
IsFree (schema.message n name presence m rest) = IsFree m × IsFree rest
IsFree (schema.repeated n name m rest) = IsFree m × IsFree rest
