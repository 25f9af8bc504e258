-- The union of well-formed snapshots is well formed.
use Rattle.std.proofs.Common.{◌≡◌, ℕ, zero, suc, ◌+◌, ◌≤◌, ◌<◌, ℤ, List, [], ◌∷◌, ◌++◌, map, length, codes, decimal, refl, sym, subst, Some, None, IfSome, arith}
use Rattle.std.specs.declared.option.Option.{Option}
use Rattle.std.specs.List.{All, AllByRecursion, cons_option}
use Rattle.std.specs.Str.{IsUtf8, IsAscii}
use Rattle.std.proofs.lemmas.Fmt.{IsAscii-decimal}
use Rattle.std.proofs.lemmas.List.{length-map}
use Rattle.std.proofs.lemmas.List.Elements.{All-nil, All-cons, All-contains}
use Rattle.std.proofs.lemmas.Str.{IsUtf8-append, IsUtf8-from_ascii, IsAscii-append}
use Rattle.feed_values.specs.Schema as schema
use Rattle.feed_values.specs.Schema.{Value}
use Rattle.feed_values.specs.Messages.{feed_message, feed_header, entity}
use Rattle.feed_values.specs.Snapshot.{timestamp_of}
use Rattle.feed_values.specs.declared.feed_message.FeedMessage.{FeedMessage}
use Rattle.feed_values.specs.Views.{feed_message_value}
use Rattle.feed_values.specs.WellFormed.{InRange, IsWellFormed, IsWellFormedFeed}
use Rattle.feed_merge.specs.Union.{feed_limit, prefix, renamed, prefixed, entities_in, united_from, stamps_in, greatest_stamp, union_header, headed, united}
use Rattle.feed_merge.proofs.Stamps.{one_given}

-- ---- texts
colon_ascii : IsAscii (codes ":")
colon_ascii zero = omega arith
colon_ascii (suc i) = omega arith

version_ascii : IsAscii (codes "2.0")
version_ascii zero = omega arith
version_ascii (suc zero) = omega arith
version_ascii (suc (suc zero)) = omega arith
version_ascii (suc (suc (suc i))) = omega arith

pub prefix_text : (f : ℕ) → f < feed_limit → IsUtf8 (prefix f)
prefix_text f l = IsUtf8-from_ascii (prefix f) (IsAscii-append (decimal f) (codes ":") (IsAscii-decimal f (omega arith)) colon_ascii)

-- ---- entities
pub renamed_formed : (text : List ℕ) (e : Value entity) → IsUtf8 text → IsWellFormed entity e → IsWellFormed entity (renamed text e)
renamed_formed text e utf8 fit = (IsUtf8-append text e.0 utf8 fit.0, fit.1)

entity_formed : (f : ℕ) (e : Value entity) → f < feed_limit → IsWellFormed entity e → IsWellFormed entity (prefixed f e)
entity_formed f e l fit = renamed_formed (prefix f) e (prefix_text f l) fit

abbrev pub AllFormed : List (Value entity) → Type 0
AllFormed es = AllByRecursion (IsWellFormed entity) es

pub entities_formed : (f : ℕ) (es : List (Value entity)) → f < feed_limit → AllFormed es → AllFormed (map (prefixed f) es)
entities_formed f [] l fit = tt
entities_formed f (e ∷ es) l fit = (entity_formed f e l fit.0, entities_formed f es l fit.1)

both : (xs ys : List (Value entity)) → AllFormed xs → AllFormed ys → AllFormed (xs ++ ys)
both [] ys one two = two
both (x ∷ xs) ys one two = (one.0, both xs ys one.1 two)

pub held_formed : (v : Value feed_message) → IsWellFormedFeed v → AllFormed (entities_in v)
held_formed v fit = fit.message.1.0

united_formed : (g : ℕ) (vs : List (Value feed_message)) → g + length vs ≤ feed_limit → AllByRecursion IsWellFormedFeed vs → AllFormed (united_from g vs)
united_formed g [] few fit = tt
united_formed g (v ∷ vs) few fit =
    both (map (prefixed g) (entities_in v)) (united_from (g + 1) vs) (entities_formed g (entities_in v) (omega arith) (held_formed v fit.0)) (united_formed (g + 1) vs (omega arith) fit.1)

union_entities_formed : (vs : List (Value feed_message)) → length vs ≤ feed_limit → AllByRecursion IsWellFormedFeed vs → AllFormed (united_from 0 vs)
union_entities_formed vs few fit = united_formed 0 vs (omega arith) fit

-- ---- the timestamp
abbrev pub StampFits : Option ℤ → Type 0
StampFits stamp = IfSome stamp (InRange schema.U64)

stamp_formed : (v : Value feed_message) → IsWellFormedFeed v → StampFits (timestamp_of v.0)
stamp_formed v fit = fit.message.0.1.1.0

stamps_more : (stamp : Option ℤ) (zs : List ℤ) → StampFits stamp → All (InRange schema.U64) zs → All (InRange schema.U64) (cons_option stamp zs)
stamps_more None zs fit all = all
stamps_more (Some z) zs fit all = All-cons (InRange schema.U64) z zs fit all

stamps_formed : (vs : List (Value feed_message)) → AllByRecursion IsWellFormedFeed vs → All (InRange schema.U64) (stamps_in vs)
stamps_formed [] fit = All-nil (InRange schema.U64)
stamps_formed (v ∷ vs) fit = stamps_more (timestamp_of v.0) (stamps_in vs) (stamp_formed v fit.0) (stamps_formed vs fit.1)

pub greatest_formed : (vs : List (Value feed_message)) → AllByRecursion IsWellFormedFeed vs → StampFits (greatest_stamp vs)
greatest_formed vs fit = at (greatest_stamp vs) refl
  where
    at : (stamp : Option ℤ) → greatest_stamp vs ≡ stamp → StampFits stamp
    at None e = tt
    at (Some z) e = All-contains (InRange schema.U64) (stamps_in vs) z (stamps_formed vs fit) (one_given (stamps_in vs) z e)

-- ---- the union
header_formed : (stamp : Option ℤ) → StampFits stamp → IsWellFormed feed_header (union_header stamp)
header_formed stamp fit = (IsUtf8-from_ascii (codes "2.0") version_ascii, ((omega arith, omega arith, omega arith), (fit, (tt, tt))))

pub headed_formed : (stamp : Option ℤ) (es : List (Value entity)) → StampFits stamp → AllFormed es → IsWellFormedFeed (headed stamp es)
headed_formed stamp es fit all = record { message = (header_formed stamp fit, (all, tt)); full = refl }

pub union_formed : (vs : List (Value feed_message)) → length vs ≤ feed_limit → AllByRecursion IsWellFormedFeed vs → IsWellFormedFeed (united vs)
union_formed vs few fit = headed_formed (greatest_stamp vs) (united_from 0 vs) (greatest_formed vs fit) (union_entities_formed vs few fit)

-- of messages
pub messages_few : (ms : List FeedMessage) → length ms ≤ feed_limit → length (map feed_message_value ms) ≤ feed_limit
messages_few ms few = let same : length (map feed_message_value ms) ≡ length ms = length-map ms feed_message_value in omega (arith, same)

pub merged_formed : (ms : List FeedMessage) (es : List (Value entity)) → length ms ≤ feed_limit → AllByRecursion IsWellFormedFeed (map feed_message_value ms) →
    es ≡ united_from 0 (map feed_message_value ms) → AllFormed es
merged_formed ms es few fit is = subst AllFormed (sym is) (union_entities_formed (map feed_message_value ms) (messages_few ms few) fit)
