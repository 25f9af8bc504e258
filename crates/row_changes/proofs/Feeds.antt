-- The rows of feeds, key by key.
use Rattle.std.specs.Prelude.{◌≡◌, ℕ, zero, suc, ◌==◌, nat_lt, Bool, true, false, cond, ◌&&◌, ◌||◌, List, [], ◌∷◌, Option, Some, None, option_map, bytes_eq, refl}
use Rattle.std.specs.List.{find}
use Rattle.std.proofs.Common.{sym, ap, ◌∙◌, subst, arith}
use Rattle.std.proofs.lemmas.Bool.Decides.{nat_tests}
use Rattle.std.proofs.lemmas.Bool.{eqb-true}
use Rattle.std.proofs.lemmas.List.Folds.{list_any-append}
use Rattle.std.proofs.Math.Bool.{or-false}
use Rattle.feed_values.specs.Snapshot.{entity_of}
use Rattle.rule_table.specs.Order.{same_key}
use Rattle.rule_table.specs.Groups.{Each}
use Rattle.rule_table.specs.Pairs.{PairRow, rows_of, same_row, has_row}
use Rattle.rule_table.proofs.SameKeys.{key_is}
use Rattle.rule_table.proofs.SameTests.{key-symm}
use Rattle.rule_history.specs.History.{Snapshot, Keyed, entities_in, entities_of_snapshot, below, feed_limit}
use Rattle.rule_history.specs.Answered.{rows_in, payload_under}
use Rattle.engine_laws.specs.HeldFeeds.{HeldFeed, AreApart, IsLastOf, rows_held}
use Rattle.engine_laws.proofs.Sorted.{apart_rising, entities_rise, entities_feed}
use Rattle.row_changes.specs.Given.{rows_under}
use Rattle.row_changes.specs.Held.{entity_at}
use Rattle.row_changes.proofs.EntityRows.{not-here}

-- ---- of entities whose keys are apart
none_there : (r : PairRow) (es : List Keyed) → Each (λ d. same_key r.key d.0 ≡ false) es → has_row (rows_in es) r ≡ false
none_there r [] h = refl
none_there r (e ∷ es) h =
    list_any-append (same_row r) (rows_of e.0 (entity_of e.1)) (rows_in es) ∙ ap (λ b. b || has_row (rows_in es) r) (not-here e.0 (Some (entity_of e.1)) r (key-symm e.0 r.key ∙ h.0)) ∙ none_there r es h.1

row_under : (es : List Keyed) → AreApart es → (r : PairRow) → has_row (rows_in es) r ≡ has_row (rows_under r.key (option_map entity_of (payload_under r.key es))) r
row_under [] h r = refl
row_under (e ∷ es) h r =
    list_any-append (same_row r) (rows_of e.0 (entity_of e.1)) (rows_in es) ∙
    elim (same_key e.0 r.key) as (λ b. same_key e.0 r.key ≡ b → (has_row (rows_of e.0 (entity_of e.1)) r || has_row (rows_in es) r)
    ≡ has_row (rows_under r.key (option_map entity_of (option_map (λ (d : Keyed). d.1) (cond b (Some e) (find (λ d. same_key d.0 r.key) es))))) r) [
      | true ↦ λ q.
          let k : e.0 ≡ r.key = key_is e.0 r.key q in
          ap (λ b. has_row (rows_of e.0 (entity_of e.1)) r || b) (none_there r es (subst (λ l. Each (λ d. same_key l d.0 ≡ false) es) k h.0)) ∙ or-false (has_row (rows_of e.0 (entity_of e.1)) r)
          ∙ ap (λ l. has_row (rows_of l (entity_of e.1)) r) k
      | false ↦ λ q. ap (λ b. b || has_row (rows_in es) r) (not-here e.0 (Some (entity_of e.1)) r q) ∙ row_under es h.1 r
    ] refl

-- ---- of a feed
pub of-feed : (f : ℕ) (n : Option Snapshot) → IsLastOf f n → Each (λ e. e.0.feed ≡ f) (entities_of_snapshot n)
of-feed f None l = tt
of-feed f (Some s) l = subst (λ g. Each (λ e. e.0.feed ≡ g) (entities_in s.feed s.bytes)) l (entities_feed s.feed s.bytes)

apart : (n : Option Snapshot) → AreApart (entities_of_snapshot n)
apart None = tt
apart (Some s) = apart_rising (entities_in s.feed s.bytes) (entities_rise s.feed s.bytes)

not-of-feed : (f : ℕ) (es : List Keyed) → Each (λ e. e.0.feed ≡ f) es → (r : PairRow) → (r.key.feed == f) ≡ false → has_row (rows_in es) r ≡ false
not-of-feed f [] h r n = refl
not-of-feed f (e ∷ es) h r n =
    list_any-append (same_row r) (rows_of e.0 (entity_of e.1)) (rows_in es) ∙ ap (λ b. b || has_row (rows_in es) r) (not-here e.0 (Some (entity_of e.1)) r (key-symm e.0 r.key ∙ other)) ∙ not-of-feed f es h.1 r n
  where
    other : same_key r.key e.0 ≡ false
    other = ap (λ b. b && bytes_eq r.key.id e.0.id && r.key.occurrence == e.0.occurrence) (ap (λ g. r.key.feed == g) h.0 ∙ n)

-- ---- of all feeds
pub lt-zero : (x : ℕ) → nat_lt x zero ≡ false
lt-zero x = grind (arith, nat_tests)

pub lt-itself : (x n : ℕ) → (x == n) ≡ true → nat_lt x (suc n) ≡ true
lt-itself x n h = grind (arith, nat_tests)

pub lt-other : (x n : ℕ) → (x == n) ≡ false → nat_lt x n ≡ nat_lt x (suc n)
lt-other x n h = grind (arith, nat_tests)

module _ (feeds : ℕ → HeldFeed) (last : (f : ℕ) → IsLastOf f (feeds f).last) (r : PairRow) where
  abbrev part : ℕ → List PairRow
  part f = rows_in (entities_of_snapshot (feeds f).last)

  in-part : (n : ℕ) → has_row (below part n) r ≡ (nat_lt r.key.feed n && has_row (part r.key.feed) r)
  in-part zero = ap (λ b. b && has_row (part r.key.feed) r) (sym (lt-zero r.key.feed))
  in-part (suc n) = list_any-append (same_row r) (below part n) (part n) ∙ ap (λ b. b || has_row (part n) r) (in-part n) ∙ each (r.key.feed == n) refl
    where
      absorbed : (a b : Bool) → (a && b || b) ≡ b
      absorbed true true = refl
      absorbed true false = refl
      absorbed false b = refl

      each : (b : Bool) → (r.key.feed == n) ≡ b → (nat_lt r.key.feed n && has_row (part r.key.feed) r || has_row (part n) r) ≡ (nat_lt r.key.feed (suc n) && has_row (part r.key.feed) r)
      each true e =
          ap (λ m. nat_lt r.key.feed n && has_row (part r.key.feed) r || has_row (part m) r) (sym (eqb-true r.key.feed n e)) ∙ absorbed (nat_lt r.key.feed n) (has_row (part r.key.feed) r)
          ∙ ap (λ b. b && has_row (part r.key.feed) r) (sym (lt-itself r.key.feed n e))
      each false e =
          ap (λ b. nat_lt r.key.feed n && has_row (part r.key.feed) r || b) (not-of-feed n (entities_of_snapshot (feeds n).last) (of-feed n (feeds n).last (last n)) r e) ∙ or-false _
          ∙ ap (λ b. b && has_row (part r.key.feed) r) (lt-other r.key.feed n e)

  pub rows-are : has_row (rows_held feeds) r ≡ has_row (rows_under r.key (entity_at feeds r.key)) r
  rows-are = in-part feed_limit ∙ each (nat_lt r.key.feed feed_limit)
    where
      each : (b : Bool) → (b && has_row (part r.key.feed) r) ≡ has_row (rows_under r.key (cond b (option_map entity_of (payload_under r.key (entities_of_snapshot (feeds r.key.feed).last))) None)) r
      each true = row_under (entities_of_snapshot (feeds r.key.feed).last) (apart (feeds r.key.feed).last) r
      each false = refl
