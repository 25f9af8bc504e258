-- An entity that rows which came or went don't concern keeps its pairing findings.
use Rattle.std.specs.Prelude.{◌≡◌, ℕ, ◌<◌, ◌||◌, Bool, true, false, cond, List, [], ◌∷◌, ◌++◌, Option, Some, option_map, refl, ◌⊎◌}
use Rattle.std.specs.List.{list_any, find}
use Rattle.std.proofs.Common.{inl, inr, sym, ◌∙◌, subst}
use Rattle.std.proofs.lemmas.Bool.{or_parts, or_left}
use Rattle.feed_values.specs.Schema.{Value}
use Rattle.feed_values.specs.Messages.{entity}
use Rattle.feed_values.specs.Snapshot.{entity_of}
use Rattle.rule_table.specs.declared.kind.Kind.{Kind}
use Rattle.rule_table.specs.declared.kind.Kind.TheVariants as kind
use Rattle.rule_table.specs.declared.key.EntityKey.{EntityKey}
use Rattle.rule_table.specs.Order.{same_key}
use Rattle.rule_table.specs.Found.{Found}
use Rattle.rule_table.specs.Groups.{Each}
use Rattle.rule_table.specs.Pairs.{PairRow, rows_of, is_of, any_row, shares}
use Rattle.rule_table.specs.PairAgree.{Agree, AgreeOnRow}
use Rattle.rule_table.proofs.SameAsks.{kind_same}
use Rattle.rule_history.specs.History.{Snapshot, Keyed, now, entities_of_snapshot, below, feed_limit}
use Rattle.rule_history.specs.Answered.{rows_in, payload_under}
use Rattle.rule_history.specs.Changed.{with, changed_rows, other, differ, turns, is_paired}
use Rattle.engine_laws.specs.HeldFeeds.{IsLastOf}
use Rattle.engine_laws.specs.Laws.{PairingStays, PairingKeeps}
use Rattle.engine_laws.proofs.Lists.{any_left, any_right, any_below}
use Rattle.engine_laws.proofs.Next.{last_now}
use Rattle.engine_laws.proofs.Spots.{key_is}
use Rattle.engine_laws.proofs.Rows.{row_agrees, rows_rising}

-- ---- a row of an entity is among all rows
any_in : (p : PairRow → Bool) (key : EntityKey) (v : List ℕ) (es : List Keyed) → payload_under key es ≡ Some v → list_any p (rows_of key (entity_of v)) ≡ true → list_any p (rows_in es) ≡ true
any_in p key v [] e h = cc
any_in p key v (x ∷ es) e h =
    elim (same_key x.0 key) as (λ b. same_key x.0 key ≡ b → option_map (λ (d : Keyed). d.1) (cond b (Some x) (find (λ d. same_key d.0 key) es)) ≡ Some v → list_any p (rows_of x.0 (entity_of x.1) ++ rows_in es) ≡ true) [
      | true ↦ λ s q.
          let same : x.1 ≡ v = cc in
          any_left p (rows_of x.0 (entity_of x.1)) (rows_in es)
          (subst (λ k. list_any p (rows_of k (entity_of x.1)) ≡ true) (sym (key_is x.0 key s)) (subst (λ w. list_any p (rows_of key (entity_of w)) ≡ true) (sym same) h))
      | false ↦ λ _ q. any_right p (rows_of x.0 (entity_of x.1)) (rows_in es) (any_in p key v es q h)
    ] refl e

any_among : (p : PairRow → Bool) (last : ℕ → Option Snapshot) (e : Keyed) → e.0.feed < feed_limit → payload_under e.0 (entities_of_snapshot (last e.0.feed)) ≡ Some e.1 →
    list_any p (rows_of e.0 (entity_of e.1)) ≡ true → list_any p (below (λ f. rows_in (entities_of_snapshot (last f))) feed_limit) ≡ true
any_among p last e l under there = any_below p (λ f. rows_in (entities_of_snapshot (last f))) e.0.feed feed_limit l (any_in p e.0 e.1 (entities_of_snapshot (last e.0.feed)) under there)

-- ---- kinds
either_kind : (k r : Kind) → (k ≡ r) ⊎ (k ≡ other r)
either_kind kind.TripUpdate kind.TripUpdate = inl refl
either_kind kind.TripUpdate kind.Vehicle = inr refl
either_kind kind.Vehicle kind.TripUpdate = inr refl
either_kind kind.Vehicle kind.Vehicle = inl refl

not_differ : (a b : Bool) → differ a b ≡ false → a ≡ b
not_differ true true h = refl
not_differ true false h = cc
not_differ false b h = sym h

-- ---- an entity
-- that is there with the same byte string by the last snapshots before and now
module _ (one two : ℕ → Option Snapshot) (of_one : (f : ℕ) → IsLastOf f (one f)) (of_two : (f : ℕ) → IsLastOf f (two f)) (e : Keyed) (l : e.0.feed < feed_limit)
    (old : payload_under e.0 (entities_of_snapshot (one e.0.feed)) ≡ Some e.1) (new : payload_under e.0 (entities_of_snapshot (two e.0.feed)) ≡ Some e.1) where
  abbrev u : List PairRow
  u = below (λ f. rows_in (entities_of_snapshot (one f))) feed_limit

  abbrev v : List PairRow
  v = below (λ f. rows_in (entities_of_snapshot (two f))) feed_limit

  each_agrees : (mine : List PairRow) → is_paired u v mine ≡ false → Each (AgreeOnRow u v e.0.feed) mine
  each_agrees [] h = tt
  each_agrees (r ∷ mine) h =
      let p = or_parts (list_any (shares r) (changed_rows u v) || turns u v (other r.kind)) (is_paired u v mine) h in
      let q = or_parts (list_any (shares r) (changed_rows u v)) (turns u v (other r.kind)) p.0 in
      (row_agrees u v (rows_rising one of_one) (rows_rising two of_two) r q.0 e.0.feed, each_agrees mine p.1)

  kinds_agree : (r : PairRow) (mine : List PairRow) → rows_of e.0 (entity_of e.1) ≡ r ∷ mine → is_paired u v (r ∷ mine) ≡ false → (k : Kind) → any_row u k ≡ any_row v k
  kinds_agree r mine is h k =
      elim (either_kind k r.kind) [
        | inl q ↦ subst (λ z. any_row u z ≡ any_row v z) (sym q) (among one old ∙ sym (among two new))
        | inr q ↦ subst (λ z. any_row u z ≡ any_row v z) (sym q) (not_differ (any_row u (other r.kind)) (any_row v (other r.kind)) turned)
      ]
    where
      among : (last : ℕ → Option Snapshot) → payload_under e.0 (entities_of_snapshot (last e.0.feed)) ≡ Some e.1 → any_row (below (λ f. rows_in (entities_of_snapshot (last f))) feed_limit) r.kind ≡ true
      among last under =
          any_among (is_of r.kind) last e l under
          (subst (λ rs. list_any (is_of r.kind) rs ≡ true) (sym is) (or_left (is_of r.kind r) (list_any (is_of r.kind) mine) (kind_same r.kind)))

      turned : turns u v (other r.kind) ≡ false
      turned =
          (or_parts (list_any (shares r) (changed_rows u v)) (turns u v (other r.kind))
          (or_parts (list_any (shares r) (changed_rows u v) || turns u v (other r.kind)) (is_paired u v mine) h).0).1

  agrees : (r : PairRow) (mine : List PairRow) → rows_of e.0 (entity_of e.1) ≡ r ∷ mine → is_paired u v (r ∷ mine) ≡ false → Agree u v e.0 (entity_of e.1)
  agrees r mine is h = record {
    any = kinds_agree r mine is h;
    rows = subst (Each (AgreeOnRow u v e.0.feed)) (sym is) (each_agrees (r ∷ mine) h);
  }

  keeps : (find : List PairRow → EntityKey → Value entity → List Found) → ((u v : List PairRow) (k : EntityKey) (e : Value entity) → Agree u v k e → find u k e ≡ find v k e) →
      ((u : List PairRow) (k : EntityKey) (e : Value entity) → rows_of k e ≡ [] → find u k e ≡ []) → is_paired u v (rows_of e.0 (entity_of e.1)) ≡ false → find u e.0 (entity_of e.1) ≡ find v e.0 (entity_of e.1)
  keeps find agree none out = go (rows_of e.0 (entity_of e.1)) refl out
    where
      go : (mine : List PairRow) → rows_of e.0 (entity_of e.1) ≡ mine → is_paired u v mine ≡ false → find u e.0 (entity_of e.1) ≡ find v e.0 (entity_of e.1)
      go [] is h = none u e.0 (entity_of e.1) is ∙ sym (none v e.0 (entity_of e.1) is)
      go (r ∷ mine) is h = agree u v e.0 (entity_of e.1) (agrees r mine is h)

pub pairing_stays : PairingStays
pairing_stays find agree none g s e l old new out = keeps (now g) (now (with g s)) (last_now g) (last_now (with g s)) e l old new find agree none out

pub pairing_keeps : PairingKeeps
pairing_keeps find agree none old new home later e l before here out = keeps (λ f. (old f).last) (λ f. (new f).last) (λ f. (home f).last_of) (λ f. (later f).last_of) e l before here find agree none out
