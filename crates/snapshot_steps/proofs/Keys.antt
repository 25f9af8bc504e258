-- Keys in order, and lists of other parts while one is judged.
use Rattle.std.specs.Prelude.{◌≡◌, ℕ, not, ◌&&◌, ◌||◌, Bool, true, false, List, Option, Some, None, option_map, unwrap_or, if◌then◌else◌, refl}
use Rattle.std.specs.List.{list_any}
use Rattle.std.specs.List.Sorted.{IsStrictlySortedBy}
use Rattle.std.proofs.Common.{sym, ap, ◌∙◌}
use Rattle.rule_table.specs.declared.key.EntityKey.{EntityKey}
use Rattle.rule_table.specs.Order.{key_cmp, same_key}
use Rattle.rule_table.proofs.SameTests.{any-same, key-symm}
use Rattle.rule_history.specs.Standing.{Standing}
use Rattle.held_feeds.specs.part_laws.Touched.{is_among}
use Rattle.held_feeds.specs.entity_index.Held.{HeldEntities}
use Rattle.held_feeds.specs.entity_index.Lists.{Lists, list_of, no_lists, with_list}
use Rattle.rule_history.specs.History.{Snapshot}
use Rattle.held_feeds.specs.row_changes.Held.{AreOfEntities, entity_at}
use Rattle.held_feeds.specs.row_changes.Touched.{is_over_given}
use Rattle.held_feeds.specs.row_changes.HeldRows.{HeldRows}
use Rattle.held_feeds.specs.row_changes.OverProofs.{over}
use Rattle.held_feeds.specs.touched_entities.Again.{FindPart, IsPassed, list_renewed, list_under, lists_at, renewed_under}
use Rattle.held_feeds.specs.touched_entities.Told.{FeedTold}
use Rattle.held_feeds.specs.touched_entities.RisingProofs.{rises_sorted}
use Rattle.held_feeds.specs.cached_laws.State.{State, feed_of}
use Rattle.held_feeds.specs.cached_laws.Keys.{AreKeys, is_over_then, lasts_then}

pub any_among : (key : EntityKey) (keys : List EntityKey) → list_any (same_key key) keys ≡ is_among keys key
any_among key keys = any-same (same_key key) (λ q. same_key q key) (λ q. key-symm key q) keys

pub keys_are : (test : EntityKey → Bool) (keys : List EntityKey) → IsStrictlySortedBy key_cmp keys → ((key : EntityKey) → list_any (same_key key) keys ≡ test key) → AreKeys test keys
keys_are test keys sorted among = record { rise = rises_sorted keys sorted; among = λ key. sym (any_among key keys) ∙ among key }

-- a list of another number stays where a part is judged
pub other_part : (part q n : ℕ) (find : FindPart) (keys : List EntityKey) (old new : List HeldEntities) (before after : List FeedTold) → ((l : Lists) (xs : List Standing) → list_of (with_list l part xs) q ≡ list_of l q) →
    IsPassed part n find keys old new before after → (k : EntityKey) → list_under new k q ≡ list_under old k q
other_part part q n find keys old new before after stays passed k = ap (λ (o : Option Lists). list_of (unwrap_or o no_lists) q) (passed.lists_are k) ∙ either (is_among keys k)
  where
    go : (o : Option Lists) (xs : List Standing) → list_of (unwrap_or (option_map (λ l. with_list l part xs) o) no_lists) q ≡ list_of (unwrap_or o no_lists) q
    go None xs = refl
    go (Some l) xs = stays l xs

    either : (b : Bool) → list_of (unwrap_or (if b then renewed_under part n find old k else lists_at old k) no_lists) q ≡ list_under old k q
    either true = go (lists_at old k) (list_renewed part n find old k)
    either false = refl

-- ---- keys by bounds
pub kept_test : (a k b : Bool) → k ≡ true → a ≡ (a || (not k && b))
kept_test true k b h = refl
kept_test false k b h = sym (ap (λ x. not x && b) h)

pub moved_test : (a k b c : Bool) → k ≡ false → b ≡ c → (a || b) ≡ (a || (not k && c))
moved_test a k b c h e = ap (λ x. a || x) e ∙ sym (ap (λ x. a || (not x && c)) h)

-- the keys above a bound once the snapshot came
pub over_then : (state : State) (s : Snapshot) (held : HeldRows) → AreOfEntities (entity_at (lasts_then s (feed_of state))) held → (before : Option ℕ) (key : EntityKey) → is_over_given s.feed before held.stamps key ≡ is_over_then state s before key
over_then state s held are None key = refl
over_then state s held are (Some bound) key = over (entity_at (lasts_then s (feed_of state))) held are s.feed bound key
