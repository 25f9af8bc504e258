-- Entities replaced one after the other.
use Rattle.std.specs.Prelude.{◌≡◌, ◌==◌, Bool, true, false, cond, ◌&&◌, ◌||◌, List, [], ◌∷◌, ◌++◌, Option, None, refl}
use Rattle.std.specs.List.{list_any}
use Rattle.std.proofs.Common.{sym, ap, ◌∙◌}
use Rattle.std.proofs.lemmas.List.Folds.{list_any-append}
use Rattle.std.proofs.Math.Bool.{or-false, and-false, or-true}
use Rattle.feed_values.specs.Schema.{Value}
use Rattle.feed_values.specs.Messages.{entity}
use Rattle.rule_table.specs.declared.key.EntityKey.{EntityKey}
use Rattle.rule_table.specs.Order.{same_key}
use Rattle.rule_table.specs.Pairs.{PairRow, is_id, has_row, same_row}
use Rattle.rule_table.proofs.SameKeys.{key_is}
use Rattle.rule_table.proofs.SameTests.{any-same, key-symm}
use Rattle.rule_history.specs.Changed.{changed_rows, differ}
use Rattle.engine_laws.specs.HeldFeeds.{rows_held}
use Rattle.history_rules.specs.Stamps.{holds}
use Rattle.row_changes.specs.Given.{rows_under, is_given}
use Rattle.row_changes.specs.Held.{Entities, entity_at, NothingIsHeld, is_done, replaced, changed_at, StartReplaces, UpdateReplaces, AllIsReplaced}
use Rattle.row_changes.proofs.Lists.{any-flat, any-and}
use Rattle.row_changes.proofs.Members.{any-members, has-changed, differ-same}
use Rattle.row_changes.specs.Updated.{exchanged}
use Rattle.row_changes.proofs.EntityRows.{not-here}
use Rattle.row_changes.proofs.Exchanged.{exchanged-same, exchanged-all}
use Rattle.row_changes.proofs.Feeds.{rows-are}

none-of : (k : EntityKey) (o : Option (Value entity)) → o ≡ None → (r : PairRow) → false ≡ has_row (rows_under k o) r
none-of k o h r = ap (λ x. has_row (rows_under k x) r) (sym h)

pub nothing_held : NothingIsHeld
nothing_held at none held p s = record {
  rows_are = λ r. ap (λ u. has_row u r) p ∙ none-of r.key (at r.key) (none r.key) r;
  stamps_are = λ x. ap (λ u. holds u x) s ∙ sym (ap (λ o. is_given o x) (none x.key) ∙ and-false (x.at.feed == x.key.feed));
}

pub start : StartReplaces
start old new held ids h t v = record {
  held_are = record { rows_are = h.rows_are; stamps_are = h.stamps_are };
  ids_are = record { trips_are = t; vehicles_are = v };
}

-- ---- one more key
done-now : (done : List EntityKey) (key k : EntityKey) → is_done (done ++ key ∷ []) k ≡ (is_done done k || same_key k key)
done-now done key k = list_any-append (same_key k) done (key ∷ []) ∙ ap (λ b. is_done done k || b) (or-false (same_key k key))

module _ (old new : Entities) (done : List EntityKey) (key : EntityKey) where
  -- what a test says of the entity under a key, before and after
  moved : (test : EntityKey → Option (Value entity) → Bool) (k : EntityKey) (was now had has : Bool) → is_done done key ≡ false → was ≡ (same_key key k && test key (old key)) → now ≡ (same_key key k && test key (new key)) →
      had ≡ test k (replaced old new done k) → has ≡ exchanged was now had → has ≡ test k (replaced old new (done ++ key ∷ []) k)
  moved test k was now had has n w x h u = u ∙ ap (λ b. exchanged b now had) w ∙ ap (λ b. exchanged (same_key key k && test key (old key)) b had) x ∙ each (same_key key k) refl
    where
      each : (b : Bool) → same_key key k ≡ b → exchanged (b && test key (old key)) (b && test key (new key)) had ≡ test k (replaced old new (done ++ key ∷ []) k)
      each true e =
          let same : key ≡ k = key_is key k e in
          let before : had ≡ test key (old key) = h ∙ ap (λ y. test y (replaced old new done y)) (sym same) ∙ ap (λ b. test key (cond b (new key) (old key))) n in
          let all : is_done (done ++ key ∷ []) k ≡ true = done-now done key k ∙ ap (λ b. is_done done k || b) (key-symm k key ∙ e) ∙ or-true (is_done done k) in
          ap (exchanged (test key (old key)) (test key (new key))) before ∙ exchanged-all (test key (old key)) (test key (new key)) ∙ ap (λ y. test y (new y)) same ∙ ap (λ b. test k (cond b (new k) (old k))) (sym all)
      each false e =
          let still : is_done (done ++ key ∷ []) k ≡ is_done done k = done-now done key k ∙ ap (λ b. is_done done k || b) (key-symm k key ∙ e) ∙ or-false (is_done done k) in
          exchanged-same false had ∙ h ∙ ap (λ b. test k (cond b (new k) (old k))) (sym still)

  abbrev changes : EntityKey → List PairRow
  changes k = changed_rows (rows_under k (old k)) (rows_under k (new k))

  one-more : (p : PairRow → Bool) (had has : Bool) → had ≡ list_any p (changed_at old new done) → has ≡ (had || list_any p (changes key)) → has ≡ list_any p (changed_at old new (done ++ key ∷ []))
  one-more p had has h u =
      u ∙ ap (λ b. b || list_any p (changes key)) (h ∙ any-flat p changes done)
      ∙ sym (any-flat p changes (done ++ key ∷ []) ∙ list_any-append (λ k. list_any p (changes k)) done (key ∷ []) ∙ ap (λ b. list_any (λ k. list_any p (changes k)) done || b) (or-false (list_any p (changes key))))

-- the rows of a key are under it alone
only-here : (key : EntityKey) (o : Option (Value entity)) (r : PairRow) → has_row (rows_under key o) r ≡ (same_key key r.key && has_row (rows_under key o) r)
only-here key o r = each (same_key key r.key) refl
  where
    each : (b : Bool) → same_key key r.key ≡ b → has_row (rows_under key o) r ≡ (b && has_row (rows_under key o) r)
    each true e = refl
    each false e = not-here key o r e

pub update : UpdateReplaces
update old new done key before after had has h d u n = record {
  held_are = record {
    rows_are = λ r.
        moved old new done key (λ k o. has_row (rows_under k o) r) r.key _ _ (has_row before.pairs r) (has_row after.pairs r) d (only-here key (old key) r) (only-here key (new key) r) (h.held_are.rows_are r) (u.rows_are r);
    stamps_are = λ s. moved old new done key (λ k o. is_given o s) s.key _ _ (holds before.stamps s) (holds after.stamps s) d refl refl (h.held_are.stamps_are s) (u.stamps_are s);
  };
  ids_are = record {
    trips_are = λ q. one-more old new done key (λ r. is_id q r.trip) _ _ (h.ids_are.trips_are q) (n.trips_are q);
    vehicles_are = λ q. one-more old new done key (λ r. is_id q r.vehicle) _ _ (h.ids_are.vehicles_are q) (n.vehicles_are q);
  };
}

-- ---- all keys
module _ (old new : Entities) (done : List EntityKey) (rest : (k : EntityKey) → is_done done k ≡ false → old k ≡ new k) where
  all-new : (k : EntityKey) → replaced old new done k ≡ new k
  all-new k = each (is_done done k) refl
    where
      each : (b : Bool) → is_done done k ≡ b → cond b (new k) (old k) ≡ new k
      each true e = refl
      each false e = rest k e

  module _ (r : PairRow) where
    abbrev is_changed : Bool
    is_changed = differ (has_row (rows_under r.key (old r.key)) r) (has_row (rows_under r.key (new r.key)) r)

    at-key : (k : EntityKey) → has_row (changed_rows (rows_under k (old k)) (rows_under k (new k))) r ≡ (same_key r.key k && is_changed)
    at-key k = has-changed (rows_under k (old k)) (rows_under k (new k)) r ∙ each (same_key r.key k) refl
      where
        each : (b : Bool) → same_key r.key k ≡ b → differ (has_row (rows_under k (old k)) r) (has_row (rows_under k (new k)) r) ≡ (b && is_changed)
        each true e = ap (λ x. differ (has_row (rows_under x (old x)) r) (has_row (rows_under x (new x)) r)) (sym (key_is r.key k e))
        each false e =
            let n : same_key k r.key ≡ false = key-symm k r.key ∙ e in
            ap (λ b. differ b (has_row (rows_under k (new k)) r)) (not-here k (old k) r n) ∙ not-here k (new k) r n

    changed-is : has_row (changed_at old new done) r ≡ is_changed
    changed-is =
        any-flat (same_row r) (λ k. changed_rows (rows_under k (old k)) (rows_under k (new k))) done ∙ any-same _ (λ k. same_key r.key k && is_changed) at-key done ∙ any-and (same_key r.key) is_changed done
        ∙ each (is_done done r.key) refl
      where
        each : (b : Bool) → is_done done r.key ≡ b → (b && is_changed) ≡ is_changed
        each true e = refl
        each false e = sym (ap (λ o. differ (has_row (rows_under r.key o) r) (has_row (rows_under r.key (new r.key)) r)) (rest r.key e) ∙ differ-same (has_row (rows_under r.key (new r.key)) r))

pub all : AllIsReplaced
all before after last_before last_after done rest held ids h = record {
  held_are = record {
    rows_are = λ r. h.held_are.rows_are r ∙ ap (λ o. has_row (rows_under r.key o) r) (all-new (entity_at before) (entity_at after) done rest r.key);
    stamps_are = λ s. h.held_are.stamps_are s ∙ ap (λ o. is_given o s) (all-new (entity_at before) (entity_at after) done rest s.key);
  };
  ids_are = record {
    trips_are = λ q. h.ids_are.trips_are q ∙ any-members (λ r. is_id q r.trip) _ (changed_rows (rows_held before) (rows_held after)) same;
    vehicles_are = λ q. h.ids_are.vehicles_are q ∙ any-members (λ r. is_id q r.vehicle) _ (changed_rows (rows_held before) (rows_held after)) same;
  };
}
  where
    same : (r : PairRow) → has_row (changed_at (entity_at before) (entity_at after) done) r ≡ has_row (changed_rows (rows_held before) (rows_held after)) r
    same r =
        changed-is (entity_at before) (entity_at after) done rest r
        ∙ sym (has-changed (rows_held before) (rows_held after) r ∙ ap (λ b. differ b (has_row (rows_held after) r)) (rows-are before last_before r)
        ∙ ap (λ b. differ (has_row (rows_under r.key (entity_at before r.key)) r) b) (rows-are after last_after r))
