-- Rows in the order of an index are alike the rows of feeds.
use Rattle.std.specs.Prelude.{◌≡◌, true, false, cond, ◌&&◌, List, [], ◌∷◌, filter, refl}
use Rattle.std.specs.declared.cmp.Ordering.{Ordering}
use Rattle.std.specs.declared.cmp.Ordering.TheVariants.{Less, Equal, Greater}
use Rattle.std.specs.Ordering.{ordering_then}
use Rattle.std.specs.List.{AllByRecursion}
use Rattle.std.specs.List.Sorted.{IsStrictlySortedBy}
use Rattle.std.proofs.Common.{sym, ap, ◌∙◌}
use Rattle.std.proofs.lemmas.List.Kept.{IsStrictlySortedBy-filter}
use Rattle.rule_table.specs.declared.kind.Kind.{Kind}
use Rattle.rule_table.specs.Kinds.{kind_cmp}
use Rattle.rule_table.specs.Order.{key_cmp}
use Rattle.rule_table.specs.Groups.{Each}
use Rattle.rule_table.specs.Rises.{Rises}
use Rattle.rule_table.specs.Pairs.{PairRow, is_of}
use Rattle.engine_laws.specs.Rows as feeds
use Rattle.engine_laws.specs.HeldFeeds.{rows_held}
use Rattle.engine_laws.proofs.Rows.{rows_rising}
use Rattle.pairing_rules.specs.Rows.{row_cmp, id_cmp}
use Rattle.pairing_rules.proofs.Order.{same-kinds}
use Rattle.pairing_rules.proofs.Members.{has-filter, same_rows}
use Rattle.row_changes.specs.Held.{AreHeldRows, AreAlikeHeld}
use Rattle.row_changes.proofs.Feeds.{rows-are}

pub those : AreHeldRows
those held_feeds last held h r = h.rows_are r ∙ sym (rows-are held_feeds last r)

-- of one kind both orders are by key
by-key : (a b : PairRow) → kind_cmp a.kind b.kind ≡ Equal → feeds.row_cmp a b ≡ Less → row_cmp a b ≡ Less
by-key a b k l =
    ap (λ o. ordering_then o (ordering_then (key_cmp a.key b.key) (ordering_then (id_cmp a.trip b.trip) (id_cmp a.vehicle b.vehicle)))) k
    ∙ ap (λ o. ordering_then o (ordering_then (id_cmp a.trip b.trip) (id_cmp a.vehicle b.vehicle))) (first (key_cmp a.key b.key) (sym (ap (ordering_then (key_cmp a.key b.key)) k) ∙ l))
  where
    first : (o : Ordering) → ordering_then o Equal ≡ Less → o ≡ Less
    first Less h = refl
    first Equal h = cc
    first Greater h = cc

module _ (k : Kind) where
  all-less : (x : PairRow) → is_of k x ≡ true → (v : List PairRow) → Each (λ y. feeds.row_cmp x y ≡ Less) v → AllByRecursion (λ y. row_cmp x y ≡ Less) (filter (is_of k) v)
  all-less x e [] h = tt
  all-less x e (y ∷ v) h =
      elim (is_of k y) as (λ b. is_of k y ≡ b → AllByRecursion (λ z. row_cmp x z ≡ Less) (cond b (y ∷ filter (is_of k) v) (filter (is_of k) v))) [
        | true ↦ λ f. (by-key x y (same-kinds x.kind y.kind k e f) h.0, all-less x e v h.1)
        | false ↦ λ _. all-less x e v h.1
      ] refl

  sorted-kind : (v : List PairRow) → Rises feeds.row_cmp v → IsStrictlySortedBy row_cmp (filter (is_of k) v)
  unfolding IsStrictlySortedBy
  sorted-kind [] h = tt
  sorted-kind (x ∷ v) h =
      elim (is_of k x) as (λ b. is_of k x ≡ b → IsStrictlySortedBy row_cmp (cond b (x ∷ filter (is_of k) v) (filter (is_of k) v))) [
        | true ↦ λ e. (all-less x e v h.0, sorted-kind v h.1)
        | false ↦ λ _. sorted-kind v h.1
      ] refl

pub alike : AreAlikeHeld
alike held_feeds last held h sorted k =
    same_rows (filter (is_of k) held.pairs) (filter (is_of k) (rows_held held_feeds)) (IsStrictlySortedBy-filter row_cmp (is_of k) held.pairs sorted) (sorted-kind k (rows_held held_feeds) (rows_rising (λ f. (held_feeds f).last) last))
    (λ r. has-filter (is_of k) held.pairs r ∙ ap (λ b. b && is_of k r) (those held_feeds last held h r) ∙ sym (has-filter (is_of k) (rows_held held_feeds) r))
