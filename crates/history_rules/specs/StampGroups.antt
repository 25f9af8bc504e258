-- Keys by moment: what a map of groups has.
use Rattle.std.specs.Prelude.{◌≡◌, ◌<◌, ◌^◌, Bool, true, false, ◌&&◌, List, Option, Some, None}
use Rattle.std.specs.declared.cmp.Ordering.{Ordering}
use Rattle.std.specs.Ordering.{nat_cmp, ordering_then, eq_by_cmp}
use Rattle.std.specs.List.{list_any}
use Rattle.std.specs.BTreeMap.{BTreeMap, get}
use Rattle.std.specs.BTreeMap.Range.{range_contains}
use Rattle.std.specs.declared.ops.Bound.TheVariants.{Excluded, Included}
use Rattle.std.specs.BTreeSet.{BTreeSet, contains}
use Rattle.rule_table.specs.Order.{key_cmp}
use Rattle.rule_table.specs.declared.key.EntityKey.{EntityKey}
use Rattle.history_rules.specs.declared.moment.Moment.{Moment}
use Rattle.history_rules.specs.Stamps.{Stamp, holds}

-- by feed, then timestamp
abbrev pub moment_cmp : Moment → Moment → Ordering
moment_cmp a b = ordering_then (nat_cmp a.feed b.feed) (nat_cmp a.stamp b.stamp)

abbrev pub key_in : EntityKey → Option (BTreeSet EntityKey) → Bool
key_in key None = false
key_in key (Some set) = contains key_cmp set key

-- whether the group of a moment has a key
abbrev pub has_at : BTreeMap Moment (BTreeSet EntityKey) → Moment → EntityKey → Bool
has_at groups at key = key_in key (get moment_cmp groups at)

-- whether a stamp of a key is after one moment and up to another
abbrev pub between : Moment → Moment → EntityKey → Stamp → Bool
between low high key s = range_contains moment_cmp (Excluded low) (Included high) s.at && eq_by_cmp key_cmp key s.key

-- whether one of some groups has a key
abbrev pub in_groups : EntityKey → List (Moment × BTreeSet EntityKey) → Bool
in_groups key es = list_any (λ e. contains key_cmp e.1 key) es

-- timestamps are of 64 bits
abbrev pub AreSmall : List Stamp → Type 0
AreSmall stamps = (s : Stamp) → holds stamps s ≡ true → s.at.stamp < 2 ^ 64
