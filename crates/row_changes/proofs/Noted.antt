-- The ids of the rows that came or went at an entity.
use Rattle.std.specs.Prelude.{◌≡◌, ℕ, Bool, true, false, not, cond, ◌&&◌, ◌||◌, List, [], ◌∷◌, filter, Option, Some, None, option_and_then, refl}
use Rattle.std.specs.List.{list_any}
use Rattle.std.proofs.Common.{sym, ap, ◌∙◌}
use Rattle.std.proofs.lemmas.List.Elements.{filter-append}
use Rattle.std.proofs.lemmas.List.Folds.{list_any-append}
use Rattle.std.proofs.Math.Bool.{or-false, or_assoc}
use Rattle.feed_values.specs.Schema.{Value}
use Rattle.feed_values.specs.Messages.{entity}
use Rattle.rule_table.specs.declared.key.EntityKey.{EntityKey}
use Rattle.rule_table.specs.declared.kind.Kind.TheVariants.{TripUpdate, Vehicle}
use Rattle.rule_table.specs.Ids.{update_ids, vehicle_ids, same_ids}
use Rattle.rule_table.specs.Pairs.{PairRow, GivenIds, is_id, has_row, row_with}
use Rattle.rule_history.specs.Changed.{rows_without, changed_rows}
use Rattle.row_changes.specs.declared.ids.ChangedIds.{ChangedIds}
use Rattle.row_changes.specs.Given.{rows_under, id_rows}
use Rattle.row_changes.specs.Ids.{has_text, new_trip, new_vehicle, given_trip, given_vehicle}
use Rattle.row_changes.specs.Updated.{AreNoted}
use Rattle.row_changes.proofs.EntityRows.{rows-split, ids-there}
use Rattle.row_changes.proofs.Exchanged.{update-alone, vehicle-alone}

module _ (q : List ℕ) (key : EntityKey) (o : Option (Value entity)) where
  abbrev is_gone : PairRow → Bool
  is_gone r = not (has_row (rows_under key o) r)

  update-there : (ids : GivenIds) → has_row (rows_under key o) (row_with TripUpdate key ids) ≡ same_ids ids (option_and_then update_ids o)
  update-there ids = update-alone key o (row_with TripUpdate key ids) refl ∙ ids-there TripUpdate key ids (option_and_then update_ids o)

  vehicle-there : (ids : GivenIds) → has_row (rows_under key o) (row_with Vehicle key ids) ≡ same_ids ids (option_and_then vehicle_ids o)
  vehicle-there ids = vehicle-alone key o (row_with Vehicle key ids) refl ∙ ids-there Vehicle key ids (option_and_then vehicle_ids o)

  one-left : (of : PairRow → Option (List ℕ)) (r : PairRow) (b : Bool) → has_row (rows_under key o) r ≡ b → list_any (λ c. is_id q (of c)) (filter is_gone (r ∷ [])) ≡ (not b && is_id q (of r))
  one-left of r b h = ap (λ x. list_any (λ c. is_id q (of c)) (cond (not x) (r ∷ []) [])) h ∙ either b
    where
      either : (x : Bool) → list_any (λ c. is_id q (of c)) (cond (not x) (r ∷ []) []) ≡ (not x && is_id q (of r))
      either true = refl
      either false = or-false (is_id q (of r))

  update-trip : (ids : Option GivenIds) → list_any (λ c. is_id q c.trip) (filter is_gone (id_rows TripUpdate key ids)) ≡ new_trip q ids (option_and_then update_ids o)
  update-trip None = refl
  update-trip (Some ids) = one-left (λ c. c.trip) (row_with TripUpdate key ids) _ (update-there ids)

  vehicle-trip : (ids : Option GivenIds) → list_any (λ c. is_id q c.trip) (filter is_gone (id_rows Vehicle key ids)) ≡ new_trip q ids (option_and_then vehicle_ids o)
  vehicle-trip None = refl
  vehicle-trip (Some ids) = one-left (λ c. c.trip) (row_with Vehicle key ids) _ (vehicle-there ids)

  update-vehicle : (ids : Option GivenIds) → list_any (λ c. is_id q c.vehicle) (filter is_gone (id_rows TripUpdate key ids)) ≡ new_vehicle q ids (option_and_then update_ids o)
  update-vehicle None = refl
  update-vehicle (Some ids) = one-left (λ c. c.vehicle) (row_with TripUpdate key ids) _ (update-there ids)

  vehicle-vehicle : (ids : Option GivenIds) → list_any (λ c. is_id q c.vehicle) (filter is_gone (id_rows Vehicle key ids)) ≡ new_vehicle q ids (option_and_then vehicle_ids o)
  vehicle-vehicle None = refl
  vehicle-vehicle (Some ids) = one-left (λ c. c.vehicle) (row_with Vehicle key ids) _ (vehicle-there ids)

  -- of the rows of an entity
  gone-by : (of : PairRow → Option (List ℕ)) (e : Option (Value entity)) (x y : Bool) → list_any (λ c. is_id q (of c)) (filter is_gone (id_rows TripUpdate key (option_and_then update_ids e))) ≡ x →
      list_any (λ c. is_id q (of c)) (filter is_gone (id_rows Vehicle key (option_and_then vehicle_ids e))) ≡ y → list_any (λ c. is_id q (of c)) (rows_without (rows_under key e) (rows_under key o)) ≡ (x || y)
  gone-by of e x y h k =
      let us = id_rows TripUpdate key (option_and_then update_ids e) in
      let vs = id_rows Vehicle key (option_and_then vehicle_ids e) in
      ap (λ xs. list_any (λ c. is_id q (of c)) (filter is_gone xs)) (rows-split key e) ∙ ap (list_any (λ c. is_id q (of c))) (filter-append is_gone us vs)
      ∙ list_any-append (λ c. is_id q (of c)) (filter is_gone us) (filter is_gone vs) ∙ ap (λ b. b || list_any (λ c. is_id q (of c)) (filter is_gone vs)) h ∙ ap (λ b. x || b) k

  pub gone-trip : (e : Option (Value entity)) → list_any (λ c. is_id q c.trip) (rows_without (rows_under key e) (rows_under key o)) ≡ given_trip q e o
  gone-trip e = gone-by (λ c. c.trip) e _ _ (update-trip (option_and_then update_ids e)) (vehicle-trip (option_and_then vehicle_ids e))

  pub gone-vehicle : (e : Option (Value entity)) → list_any (λ c. is_id q c.vehicle) (rows_without (rows_under key e) (rows_under key o)) ≡ given_vehicle q e o
  gone-vehicle e = gone-by (λ c. c.vehicle) e _ _ (update-vehicle (option_and_then update_ids e)) (vehicle-vehicle (option_and_then vehicle_ids e))

module _ (key : EntityKey) (o n : Option (Value entity)) where
  -- those that came are put in first
  changed-by : (p : PairRow → Bool) (had mid has x y : Bool) → mid ≡ (had || x) → has ≡ (mid || y) → list_any p (rows_without (rows_under key n) (rows_under key o)) ≡ x → list_any p (rows_without (rows_under key o) (rows_under key n)) ≡ y →
      has ≡ (had || list_any p (changed_rows (rows_under key o) (rows_under key n)))
  changed-by p had mid has x y m h a b =
      h ∙ ap (λ z. z || y) m ∙ or_assoc had x y
      ∙ ap (λ z. had || z) (sym (list_any-append p (rows_without (rows_under key n) (rows_under key o)) (rows_without (rows_under key o) (rows_under key n)) ∙ ap (λ z. z || list_any p (rows_without (rows_under key o) (rows_under key n))) a ∙ ap (λ z. x || z) b))

  pub noted : (had mid has : ChangedIds) → ((q : List ℕ) → has_text mid.trips q ≡ (has_text had.trips q || given_trip q n o)) → ((q : List ℕ) → has_text mid.vehicles q ≡ (has_text had.vehicles q || given_vehicle q n o)) →
      ((q : List ℕ) → has_text has.trips q ≡ (has_text mid.trips q || given_trip q o n)) → ((q : List ℕ) → has_text has.vehicles q ≡ (has_text mid.vehicles q || given_vehicle q o n)) → AreNoted key o n had has
  noted had mid has t v u w = record {
    trips_are = λ q. changed-by (λ r. is_id q r.trip) (has_text had.trips q) (has_text mid.trips q) (has_text has.trips q) (given_trip q n o) (given_trip q o n) (t q) (u q) (gone-trip q key o n) (gone-trip q key n o);
    vehicles_are = λ q.
        changed-by (λ r. is_id q r.vehicle) (has_text had.vehicles q) (has_text mid.vehicles q) (has_text has.vehicles q) (given_vehicle q n o) (given_vehicle q o n) (v q) (w q) (gone-vehicle q key o n) (gone-vehicle q key n o);
  }

-- two messages put in, one after the other
pub put-both : (f : Option GivenIds → Option GivenIds → Bool) (old one two : Bool) (a aa b bb c ca d da : Option GivenIds) → one ≡ (old || f a b) → two ≡ (one || f c d) → a ≡ aa → b ≡ bb → c ≡ ca → d ≡ da →
    two ≡ (old || (f aa bb || f ca da))
put-both f old one two a aa b bb c ca d da h k p q r s =
    k ∙ ap (λ x. x || f c d) h ∙ ap (λ x. (old || f x b) || f c d) p ∙ ap (λ x. (old || f aa x) || f c d) q ∙ ap (λ x. (old || f aa bb) || f x d) r ∙ ap (λ x. (old || f aa bb) || f ca x) s
    ∙ or_assoc old (f aa bb) (f ca da)
