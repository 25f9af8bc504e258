-- What is handed out feed by feed is what is held of all feeds.
use Rattle.std.specs.Prelude.{◌≡◌, ℕ, zero, suc, ◌-◌, ◌<◌, ◌≤◌, List, [], ◌∷◌, ◌++◌, length, map, Option, Some, None, refl}
use Rattle.std.specs.List.{flat_map}
use Rattle.std.proofs.Common.{sym, ap, ◌∙◌, subst, arith, append_assoc, append-nil}
use Rattle.rule_history.specs.History.{below, feed_limit, feed_limit-is}
use Rattle.rule_history.specs.Standing.{Standing}
use Rattle.engine_laws.specs.HeldFeeds.{KeyedLists, joined}
use Rattle.history_rules.specs.HeldPeaks.{HeldPeaks}
use Rattle.cached_laws.specs.entity_index.Held.{HeldEntities, entities_before, held_at, values_of}
use Rattle.cached_laws.specs.State.{HeldHeader, State, feed_of, header_at, snapshot_with}
use Rattle.held_feeds.specs.Entities.{entities_said}
use Rattle.held_feeds.specs.States.{HandedFeed, handed_feed}
use Rattle.held_feeds.specs.Left.{feed_lists, flat, last_feeds}

flat_append : (xs ys : List (List Standing)) → flat (xs ++ ys) ≡ flat xs ++ flat ys
flat_append [] ys = refl
flat_append (x ∷ xs) ys = ap (λ l. x ++ l) (flat_append xs ys) ∙ sym (append_assoc x (flat xs) (flat ys))

flat_seconds : (lists : KeyedLists) → flat (map (λ c. c.1) lists) ≡ flat_map (λ c. c.1) lists
flat_seconds [] = refl
flat_seconds (c ∷ cs) = ap (λ l. c.1 ++ l) (flat_seconds cs)

-- the standings of a feed
abbrev standings_of : HandedFeed → List Standing
standings_of feed = feed.header ++ flat_map (λ c. c.1) feed.entities

flat_feed : (feed : HandedFeed) → flat (feed_lists feed) ≡ standings_of feed
flat_feed feed = ap (λ l. feed.header ++ l) (flat_seconds feed.entities)

-- the lists of feeds are the standings of each, one feed after the other
flat_feeds : (feeds : List HandedFeed) → flat (flat_map feed_lists feeds) ≡ flat_map standings_of feeds
flat_feeds [] = refl
flat_feeds (feed ∷ feeds) =
    flat_append (feed_lists feed) (flat_map feed_lists feeds)
    ∙ ap (λ l. l ++ flat (flat_map feed_lists feeds)) (flat_feed feed)
    ∙ ap (λ l. standings_of feed ++ l) (flat_feeds feeds)

-- ---- the feeds that are left
pub none_left : (state : State) (n : ℕ) → n ≡ 0 → last_feeds state n ≡ []
unfolding last_feeds
none_left state zero h = refl
none_left state (suc n) h = absurd (omega (arith, h))

pub one_left : (state : State) (n : ℕ) → (n ≡ 0 → ⊥) → last_feeds state n ≡ handed_feed state (256 - n) ∷ last_feeds state (n - 1)
unfolding last_feeds
one_left state zero h = absurd (h refl)
one_left state (suc n) h = ap (λ m. handed_feed state m ∷ last_feeds state n) (here n) ∙ ap (λ m. handed_feed state (256 - suc n) ∷ last_feeds state m) (less n)
  where
    here : (n : ℕ) → 255 - n ≡ 256 - suc n
    here n = omega arith

    less : (n : ℕ) → n ≡ suc n - 1
    less n = omega arith

-- the feeds below a number, and those that are left behind it
behind : {A : Type 0} (state : State) (part : HandedFeed → List A) (m n : ℕ) → m ≡ 256 → n ≤ m → below (λ f. part (handed_feed state f)) m ≡ below (λ f. part (handed_feed state f)) (m - n) ++ flat_map part (last_feeds state n)
unfolding last_feeds
behind state part m zero is h = sym (append-nil (below (λ f. part (handed_feed state f)) m)) ∙ ap (λ k. below (λ f. part (handed_feed state f)) k ++ []) (whole m)
  where
    whole : (m : ℕ) → m ≡ m - 0
    whole m = omega arith
behind state part m (suc n) is h =
    behind state part m n is (less m n h)
    ∙ ap (λ k. below (λ f. part (handed_feed state f)) k ++ flat_map part (last_feeds state n)) (one_less m n is h)
    ∙ append_assoc (below (λ f. part (handed_feed state f)) (255 - n)) (part (handed_feed state (255 - n))) (flat_map part (last_feeds state n))
    ∙ ap (λ k. below (λ f. part (handed_feed state f)) k ++ flat_map part (handed_feed state (255 - n) ∷ last_feeds state n)) (left_over m n is h)
  where
    less : (m n : ℕ) → suc n ≤ m → n ≤ m
    less m n l = omega (arith, l)

    one_less : (m n : ℕ) → m ≡ 256 → suc n ≤ m → m - n ≡ suc (255 - n)
    one_less m n e l = omega (arith, e, l)

    left_over : (m n : ℕ) → m ≡ 256 → suc n ≤ m → 255 - n ≡ m - suc n
    left_over m n e l = omega (arith, e, l)

-- all are those that are left of 256
pub all_feeds : {A : Type 0} (state : State) (part : HandedFeed → List A) (n : ℕ) → n ≡ 256 → flat_map part (last_feeds state n) ≡ below (λ f. part (handed_feed state f)) feed_limit
all_feeds state part n h =
    sym (behind state part feed_limit n feed_limit-is (most feed_limit feed_limit-is) ∙ ap (λ k. below (λ f. part (handed_feed state f)) k ++ flat_map part (last_feeds state n)) (none feed_limit feed_limit-is))
  where
    most : (m : ℕ) → m ≡ 256 → n ≤ m
    most m e = omega (arith, e, h)

    none : (m : ℕ) → m ≡ 256 → m - n ≡ 0
    none m e = omega (arith, e, h)

pub all_findings : (state : State) (n : ℕ) → n ≡ 256 → flat (flat_map feed_lists (last_feeds state n)) ≡ joined (feed_of state)
all_findings state n h = flat_feeds (last_feeds state n) ∙ all_feeds state standings_of n h

-- ---- the entities of a feed
module _ (index : List HeldEntities) (headers : List HeldHeader) (peaks : HeldPeaks) (f : ℕ) where
  abbrev state : State
  state = record { index = index; headers = headers; peaks = peaks }

  last_said : (m : ℕ) (o : Option (List ℕ)) → values_of (entities_before f o) ≡ entities_said (snapshot_with f m o)
  last_said m None = refl
  last_said m (Some b) = refl

  pub held_said : values_of (entities_before f (held_at index f).bytes) ≡ entities_said (feed_of state f).last
  held_said = last_said (header_at headers f).moment (held_at index f).bytes

-- ---- an item that is handed out leaves less
pub less_left : {A : Type 0} (s t : List A) (x : A) → s ≡ x ∷ t → length t < length s
less_left {A = A} s t x h = subst (λ (xs : List A). length t < length xs) (sym h) (omega arith)
