-- Answers by what is put in of each row are those over the rows.
use Rattle.std.proofs.Common.{◌≡◌, ◌++◌, ◌==◌, ◌&&◌, ◌||◌, ℕ, Bool, true, false, List, [], ◌∷◌, Some, None, map, refl, ap, sym, ◌∙◌}
use Rattle.std.specs.Prelude.{cond, bytes_eq, is_some, option_and_then, option_copied, option_map}
use Rattle.std.specs.List.{find, flat_map, list_any}
use Rattle.std.specs.Option.{option_or}
use Rattle.std.specs.Ordering.{is_eq, nat_cmp}
use Rattle.std.specs.declared.option.Option.{Option}
use Rattle.std.proofs.lemmas.Bool.{true≢false}
use Rattle.std.proofs.lemmas.List.Folds.{find-append, list_any-append}
use Rattle.std.proofs.lemmas.Map.Text.{is_eq-slice_cmp}
use denote.Ref.{Bor}
use Rattle.rule_table.specs.declared.key.EntityKey.{EntityKey}
use Rattle.rule_table.specs.declared.kind.Kind.{Kind}
use Rattle.rule_table.specs.declared.kind.Kind.TheVariants as kind
use Rattle.rule_table.specs.Kinds.{same_kind}
use Rattle.rule_table.specs.Pairs.{PairRow, any_row, first_key, first_vehicle, has_pair, has_trip, has_vehicle, is_id, is_of}
use Rattle.rule_table.proofs.SameKeys.{same-number, then-eq}
use Rattle.sorted_rows.specs.declared.row.Row.{Row}
use Rattle.sorted_rows.specs.ByKey.{first_value, has_key, has_start, is_under}
use Rattle.sorted_rows.specs.Rows.{Id, holder_cmp, holder_of, id_cmp, of_kind, pair_cmp, pair_of, row_value, trip_alone, vehicle_with}

-- ---- row by row
or_apart : (a b c d : Bool) → ((a || b) || (c || d)) ≡ ((a || c) || (b || d))
or_apart true b c d = refl
or_apart false true true d = refl
or_apart false true false d = refl
or_apart false false c d = refl

module _ {E : Type 0} (entries : Row → List E) (q : E → Bool) (p : PairRow → Bool) where
  any_parts : ((r : Row) → list_any q (entries r) ≡ p (row_value r)) → (rs : List Row) → list_any q (flat_map entries rs) ≡ list_any p (map row_value rs)
  any_parts same [] = refl
  any_parts same (r ∷ rs) = list_any-append q (entries r) (flat_map entries rs) ∙ ap (λ b. b || list_any q (flat_map entries rs)) (same r) ∙ ap (λ b. p (row_value r) || b) (any_parts same rs)

  any_two_parts : {F : Type 0} (others : Row → List F) (s : F → Bool) → ((r : Row) → (list_any q (entries r) || list_any s (others r)) ≡ p (row_value r)) → (rs : List Row)
      → (list_any q (flat_map entries rs) || list_any s (flat_map others rs)) ≡ list_any p (map row_value rs)
  any_two_parts others s same [] = refl
  any_two_parts others s same (r ∷ rs) =
      ap (λ b. b || list_any s (others r ++ flat_map others rs)) (list_any-append q (entries r) (flat_map entries rs))
      ∙ ap (λ b. (list_any q (entries r) || list_any q (flat_map entries rs)) || b) (list_any-append s (others r) (flat_map others rs))
      ∙ or_apart (list_any q (entries r)) (list_any q (flat_map entries rs)) (list_any s (others r)) (list_any s (flat_map others rs))
      ∙ ap (λ b. b || (list_any q (flat_map entries rs) || list_any s (flat_map others rs))) (same r) ∙ ap (λ b. p (row_value r) || b) (any_two_parts others s same rs)

  module _ {A : Type 0} (f : E → A) (h : PairRow → Option A) where
    or_map : (a b : Option E) → option_map f (option_or a b) ≡ option_or (option_map f a) (option_map f b)
    or_map None b = refl
    or_map (Some x) b = refl

    or_given : (a b : Option A) → is_some a ≡ true → option_or a b ≡ a
    or_given None b e = absurd (true≢false (sym e))
    or_given (Some x) b e = refl

    first_parts : ((r : Row) → option_map f (find q (entries r)) ≡ cond (p (row_value r)) (h (row_value r)) None) → ((r : PairRow) → p r ≡ true → is_some (h r) ≡ true) → (rs : List Row)
        → option_map f (find q (flat_map entries rs)) ≡ option_and_then h (find p (map row_value rs))
    first_parts same given [] = refl
    first_parts same given (r ∷ rs) =
        let v = row_value r in
        let rest = find p (map row_value rs) in
        ap (option_map f) (find-append q (entries r) (flat_map entries rs)) ∙ or_map (find q (entries r)) (find q (flat_map entries rs))
        ∙ ap (λ o. option_or o (option_map f (find q (flat_map entries rs)))) (same r) ∙ ap (λ o. option_or (cond (p v) (h v) None) o) (first_parts same given rs)
        ∙ each v rest (p v) refl
      where
        each : (v : PairRow) (rest : Option PairRow) (b : Bool) → p v ≡ b → option_or (cond b (h v) None) (option_and_then h rest) ≡ option_and_then h (cond b (Some v) rest)
        each v rest true e = or_given (h v) (option_and_then h rest) (given v e)
        each v rest false e = refl

-- ---- ids
none_and : {A : Type 0} (b : Bool) (o : Option A) → None ≡ cond (b && false) o None
none_and true o = refl
none_and false o = refl

never : (b : Bool) → false ≡ (b && false)
never true = refl
never false = refl

or_never : (b : Bool) → (b || false) ≡ b
or_never true = refl
or_never false = refl

turned : (a b : Bool) → (a && b) ≡ (b && a)
turned true true = refl
turned true false = refl
turned false true = refl
turned false false = refl

same_text : (a b : Id) → is_eq (id_cmp a b) ≡ bytes_eq a.now b.now
same_text a b = is_eq-slice_cmp a.now b.now

module _ (k : Kind) (rs : List Row) where
  pub any_is : list_any (λ r. same_kind r.kind k) rs ≡ any_row (map row_value rs) k
  any_is = each rs
    where
      each : (rs : List Row) → list_any (λ r. same_kind r.kind k) rs ≡ any_row (map row_value rs) k
      each [] = refl
      each (r ∷ rs) = ap (λ b. same_kind r.kind k || b) (each rs)

  copied_value : {K A : Type 0} (o : Option (K × Bor A)) → option_copied (option_map (λ e. e.1) o) ≡ option_map (λ e. e.1.now) o
  copied_value None = refl
  copied_value (Some e) = refl

  -- ---- the first vehicle of a trip
  module _ (trip : Id) where
    vehicle_same : (b : Bool) (t v : Option Id) → option_map (λ (e : Id × Id). e.1.now) (find (is_under id_cmp trip) (cond b (vehicle_with t v) []))
        ≡ cond (b && is_id trip.now (option_copied t) && is_some (option_copied v)) (option_copied v) None
    vehicle_same false t v = refl
    vehicle_same true None None = refl
    vehicle_same true None (Some v) = refl
    vehicle_same true (Some t) None = none_and (bytes_eq t.now trip.now) None
    vehicle_same true (Some t) (Some v) = each (is_eq (id_cmp t trip)) ∙ ap (λ b. cond (b && true) (Some v.now) None) (same_text t trip)
      where
        each : (b : Bool) → option_map (λ (e : Id × Id). e.1.now) (cond b (Some (t, v)) None) ≡ cond (b && true) (Some v.now) None
        each true = refl
        each false = refl

    given : (r : PairRow) → (is_of k r && is_id trip.now r.trip && is_some r.vehicle) ≡ true → is_some r.vehicle ≡ true
    given r h = last (is_of k r && is_id trip.now r.trip) (is_some r.vehicle) h
      where
        last : (a b : Bool) → (a && b) ≡ true → b ≡ true
        last true b e = e
        last false b e = absurd (true≢false (sym e))

    pub first_vehicle_is : option_copied (first_value id_cmp (of_kind k (λ r. vehicle_with r.trip r.vehicle) rs) trip) ≡ first_vehicle (map row_value rs) k trip.now
    first_vehicle_is =
        copied_value (find (is_under id_cmp trip) (of_kind k (λ r. vehicle_with r.trip r.vehicle) rs))
        ∙ first_parts (λ r. cond (same_kind r.kind k) (vehicle_with r.trip r.vehicle) []) (is_under id_cmp trip) (λ r. is_of k r && is_id trip.now r.trip && is_some r.vehicle) (λ e. e.1.now) (λ r. r.vehicle)
        (λ r. vehicle_same (same_kind r.kind k) r.trip r.vehicle) given rs

    -- ---- a trip
    trip_same : (b : Bool) (t v : Option Id) → (list_any (is_under id_cmp trip) (cond b (vehicle_with t v) []) || list_any (is_under id_cmp trip) (cond b (trip_alone t v) []))
        ≡ (b && is_id trip.now (option_copied t))
    trip_same false t v = refl
    trip_same true None None = refl
    trip_same true None (Some v) = refl
    trip_same true (Some t) None = or_never (is_eq (id_cmp t trip)) ∙ same_text t trip
    trip_same true (Some t) (Some v) = or_never (is_eq (id_cmp t trip) || false) ∙ or_never (is_eq (id_cmp t trip)) ∙ same_text t trip

    pub has_trip_is : (has_key id_cmp (of_kind k (λ r. vehicle_with r.trip r.vehicle) rs) trip || has_key id_cmp (of_kind k (λ r. trip_alone r.trip r.vehicle) rs) trip) ≡ has_trip (map row_value rs) k trip.now
    has_trip_is =
        any_two_parts (λ r. cond (same_kind r.kind k) (vehicle_with r.trip r.vehicle) []) (is_under id_cmp trip) (λ r. is_of k r && is_id trip.now r.trip)
        (λ r. cond (same_kind r.kind k) (trip_alone r.trip r.vehicle) []) (is_under id_cmp trip) (λ r. trip_same (same_kind r.kind k) r.trip r.vehicle) rs

    -- ---- a trip with a vehicle
    module _ (vehicle : Id) where
      pair_same : (b : Bool) (t v : Option Id) → list_any (is_under pair_cmp (trip, vehicle)) (cond b (pair_of t v) []) ≡ (b && is_id trip.now (option_copied t) && is_id vehicle.now (option_copied v))
      pair_same false t v = refl
      pair_same true None None = refl
      pair_same true None (Some v) = refl
      pair_same true (Some t) None = never (bytes_eq t.now trip.now)
      pair_same true (Some t) (Some v) =
          or_never (is_eq (pair_cmp (t, v) (trip, vehicle))) ∙ then-eq (id_cmp t trip) (id_cmp v vehicle)
          ∙ ap (λ b. b && is_eq (id_cmp v vehicle)) (same_text t trip) ∙ ap (λ b. bytes_eq t.now trip.now && b) (same_text v vehicle)

      pub has_pair_is : has_key pair_cmp (of_kind k (λ r. pair_of r.trip r.vehicle) rs) (trip, vehicle) ≡ has_pair (map row_value rs) k trip.now vehicle.now
      has_pair_is =
          any_parts (λ r. cond (same_kind r.kind k) (pair_of r.trip r.vehicle) []) (is_under pair_cmp (trip, vehicle)) (λ r. is_of k r && is_id trip.now r.trip && is_id vehicle.now r.vehicle)
          (λ r. pair_same (same_kind r.kind k) r.trip r.vehicle) rs

  -- ---- a vehicle
  module _ (vehicle : Id) where
    holder_same : (b : Bool) (v : Option Id) (key : Bor EntityKey) → list_any (λ e. is_eq (id_cmp e.0.0 vehicle)) (cond b (holder_of key v) []) ≡ (b && is_id vehicle.now (option_copied v))
    holder_same false v key = refl
    holder_same true None key = refl
    holder_same true (Some v) key = or_never (is_eq (id_cmp v vehicle)) ∙ same_text v vehicle

    pub has_vehicle_is : has_start id_cmp (of_kind k (λ r. holder_of r.key r.vehicle) rs) vehicle ≡ has_vehicle (map row_value rs) k vehicle.now
    has_vehicle_is =
        any_parts (λ r. cond (same_kind r.kind k) (holder_of r.key r.vehicle) []) (λ e. is_eq (id_cmp e.0.0 vehicle)) (λ r. is_of k r && is_id vehicle.now r.vehicle)
        (λ r. holder_same (same_kind r.kind k) r.vehicle r.key) rs

-- ---- the first entity of a feed with a vehicle
module _ (rs : List Row) (vehicle : Id) (feed : ℕ) where
  key_same : (b : Bool) (v : Option Id) (key : Bor EntityKey) → option_map (λ (e : (Id × ℕ) × Bor EntityKey). e.1.now) (find (is_under holder_cmp (vehicle, feed)) (cond b (holder_of key v) []))
      ≡ cond (b && (key.now.feed == feed) && is_id vehicle.now (option_copied v)) (Some key.now) None
  key_same false v key = refl
  key_same true None key = none_and (key.now.feed == feed) (Some key.now)
  key_same true (Some v) key =
      each (is_eq (holder_cmp (v, key.now.feed) (vehicle, feed)))
      ∙ ap (λ b. cond b (Some key.now) None)
      (then-eq (id_cmp v vehicle) (nat_cmp key.now.feed feed) ∙ ap (λ b. b && is_eq (nat_cmp key.now.feed feed)) (same_text v vehicle)
      ∙ ap (λ b. bytes_eq v.now vehicle.now && b) (same-number key.now.feed feed) ∙ turned (bytes_eq v.now vehicle.now) (key.now.feed == feed))
    where
      each : (b : Bool) → option_map (λ (e : (Id × ℕ) × Bor EntityKey). e.1.now) (cond b (Some ((v, key.now.feed), key)) None) ≡ cond b (Some key.now) None
      each true = refl
      each false = refl

  then_map : (o : Option PairRow) → option_and_then (λ r. Some r.key) o ≡ option_map (λ r. r.key) o
  then_map None = refl
  then_map (Some r) = refl

  pub first_key_is : option_copied (first_value holder_cmp (of_kind kind.Vehicle (λ r. holder_of r.key r.vehicle) rs) (vehicle, feed)) ≡ first_key (map row_value rs) feed vehicle.now
  first_key_is =
      copied_value kind.Vehicle rs (find (is_under holder_cmp (vehicle, feed)) (of_kind kind.Vehicle (λ r. holder_of r.key r.vehicle) rs))
      ∙ first_parts (λ r. cond (same_kind r.kind kind.Vehicle) (holder_of r.key r.vehicle) []) (is_under holder_cmp (vehicle, feed)) (λ r. is_of kind.Vehicle r && (r.key.feed == feed) && is_id vehicle.now r.vehicle)
      (λ e. e.1.now) (λ r. Some r.key) (λ r. key_same (same_kind r.kind kind.Vehicle) r.vehicle r.key) (λ r h. refl) rs
      ∙ then_map (find (λ r. is_of kind.Vehicle r && (r.key.feed == feed) && is_id vehicle.now r.vehicle) (map row_value rs))
