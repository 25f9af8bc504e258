-- Rows of trip updates and then those of vehicle positions are alike with the rows of all entities in the order of their keys, so they
-- answer alike.
use Rattle.std.specs.Prelude.{◌≡◌, Bool, List, [], ◌∷◌, ◌++◌, Option, Some, None, filter, refl}
use Rattle.std.specs.List.{flat_map}
use Rattle.std.specs.declared.cmp.Ordering.TheVariants as order
use Rattle.std.specs.Ordering.{ordering_then, ordering_reverse, match_ordering}
use Rattle.std.specs.BTreeSet.{insert_key}
use Rattle.std.proofs.Common.{sym, ap, ◌∙◌, subst, append_assoc, append-nil}
use Rattle.std.proofs.lemmas.List.Elements.{filter-append}
use Rattle.feed_values.specs.Schema.{Value}
use Rattle.feed_values.specs.Messages.{entity, trip_update, vehicle_position}
use Rattle.timetable.specs.Timetables.{Tables}
use Rattle.rule_table.specs.declared.key.EntityKey.{EntityKey}
use Rattle.rule_table.specs.declared.kind.Kind.{Kind}
use Rattle.rule_table.specs.declared.kind.Kind.TheVariants as kind
use Rattle.rule_table.specs.Kinds.{kind_cmp}
use Rattle.rule_table.specs.Order.{key_cmp}
use Rattle.rule_table.specs.Answers.{Heads, bound_answer, peak_answer}
use Rattle.rule_history.specs.Answered.{local_answer}
use Rattle.rule_table.specs.Judged.{found_all, update_of}
use Rattle.rule_table.specs.Groups.{Each}
use Rattle.rule_table.specs.GroupLaws.{each_append, each_weaken}
use Rattle.rule_table.specs.CitedLaws.{both_same}
use Rattle.rule_table.specs.Peaks.{no_peaks}
use Rattle.rule_table.specs.Pairs.{PairRow, update_rows, vehicle_rows, vehicle_of, is_of}
use Rattle.feed_values.specs.Snapshot.{timestamp_of}
use Rattle.message_rules.specs.Message.{message_rules}
use Rattle.schedule_rules.specs.Schedule.{schedule_rules}
use Rattle.pairing_rules.specs.Agreeing.{rules_agree}
use Rattle.pairing_rules.specs.ByKind.{AreAlike, alike-agree}
use Rattle.pairing_rules.specs.Rows.{row_cmp, id_cmp}
use Rattle.pairing_rules.proofs.Order.{rows_total}
use Rattle.history_rules.specs.Rules.{bound_rules, peak_rules}
use Rattle.judging.specs.Seats.{Seat, Rising}
use Rattle.judging.specs.Ruled.{in_rule_order}
use Rattle.judging.specs.Whole.{rows_alone, entity_found}
use Rattle.judging.specs.Judged.{seat_rows, update_rows_of, vehicle_rows_of, put_rows, found_at_seats}
use Rattle.judging.proofs.Joined.{joined}

-- ---- rows in order, put in one by one
abbrev RowsRise : List PairRow → Type 0
RowsRise [] = Unit {0}
RowsRise (r ∷ rs) = Each (λ s. row_cmp r s ≡ order.Less) rs × RowsRise rs

insert_last : (rows : List PairRow) (r : PairRow) → Each (λ s. row_cmp s r ≡ order.Less) rows → insert_key row_cmp rows r ≡ rows ++ r ∷ []
insert_last [] r h = refl
insert_last (s ∷ rows) r h =
    ap (λ o. match_ordering o (r ∷ s ∷ rows) (s ∷ rows) (s ∷ insert_key row_cmp rows r)) (rows_total.antisymm r s ∙ ap ordering_reverse h.0) ∙ ap (λ xs. s ∷ xs) (insert_last rows r h.1)

all_below : (done : List PairRow) (r : PairRow) (rs : List PairRow) → RowsRise (done ++ r ∷ rs) → Each (λ s. row_cmp s r ≡ order.Less) done
all_below [] r rs h = tt
all_below (s ∷ done) r rs h = (first done h.0, all_below done r rs h.1)
  where
    first : (xs : List PairRow) → Each (λ x. row_cmp s x ≡ order.Less) (xs ++ r ∷ rs) → row_cmp s r ≡ order.Less
    first [] k = k.0
    first (x ∷ xs) k = first xs k.1

put_rising : (done rs : List PairRow) → RowsRise (done ++ rs) → put_rows done rs ≡ done ++ rs
put_rising done [] h = sym (append-nil done)
put_rising done (r ∷ rs) h =
    ap (λ xs. put_rows xs rs) (insert_last done r (all_below done r rs h))
    ∙ put_rising (done ++ r ∷ []) rs (subst RowsRise (sym (append_assoc done (r ∷ []) rs)) h) ∙ append_assoc done (r ∷ []) rs

pub put_append : (rows xs ys : List PairRow) → put_rows rows (xs ++ ys) ≡ put_rows (put_rows rows xs) ys
put_append rows [] ys = refl
put_append rows (x ∷ xs) ys = put_append (insert_key row_cmp rows x) xs ys

rise_append : (xs ys : List PairRow) → RowsRise xs → RowsRise ys → Each (λ x. Each (λ y. row_cmp x y ≡ order.Less) ys) xs → RowsRise (xs ++ ys)
rise_append [] ys h k d = k
rise_append (x ∷ xs) ys h k d = (each_append (λ s. row_cmp x s ≡ order.Less) xs ys h.0 d.0, rise_append xs ys h.1 k d.1)

-- of one kind rows stand by their keys, and those of trip updates before those of vehicle positions
record IsFrom (K : Kind) (k : EntityKey) (r : PairRow) : Type 0 where
  pub kind_is : r.kind ≡ K
  pub key_is : r.key ≡ k

record IsPast (K : Kind) (k : EntityKey) (r : PairRow) : Type 0 where
  pub kind_is : r.kind ≡ K
  pub past : key_cmp k r.key ≡ order.Less

equal_kinds : (K : Kind) → kind_cmp K K ≡ order.Equal
equal_kinds kind.TripUpdate = refl
equal_kinds kind.Vehicle = refl

same_less : (K : Kind) (k : EntityKey) (a b : PairRow) → IsFrom K k a → IsPast K k b → row_cmp a b ≡ order.Less
same_less K k a b f p =
    ap (λ x. ordering_then (kind_cmp x b.kind) (ordering_then (key_cmp a.key b.key) (ordering_then (id_cmp a.trip b.trip) (id_cmp a.vehicle b.vehicle)))) f.kind_is
    ∙ ap (λ x. ordering_then (kind_cmp K x) (ordering_then (key_cmp a.key b.key) (ordering_then (id_cmp a.trip b.trip) (id_cmp a.vehicle b.vehicle)))) p.kind_is
    ∙ ap (λ o. ordering_then o (ordering_then (key_cmp a.key b.key) (ordering_then (id_cmp a.trip b.trip) (id_cmp a.vehicle b.vehicle)))) (equal_kinds K)
    ∙ ap (λ o. ordering_then o (ordering_then (id_cmp a.trip b.trip) (id_cmp a.vehicle b.vehicle))) (ap (λ x. key_cmp x b.key) f.key_is ∙ p.past)

other_less : (a b : PairRow) → a.kind ≡ kind.TripUpdate → b.kind ≡ kind.Vehicle → row_cmp a b ≡ order.Less
other_less a b f p =
    ap (λ x. ordering_then (kind_cmp x b.kind) (ordering_then (key_cmp a.key b.key) (ordering_then (id_cmp a.trip b.trip) (id_cmp a.vehicle b.vehicle)))) f
    ∙ ap (λ x. ordering_then (kind_cmp kind.TripUpdate x) (ordering_then (key_cmp a.key b.key) (ordering_then (id_cmp a.trip b.trip) (id_cmp a.vehicle b.vehicle)))) p

-- the rows of one kind, of which an entity has at most one
module _ (K : Kind) (part : Seat → List PairRow) (from : (e : Seat) → Each (IsFrom K e.0) (part e)) (alone : (e : Seat) → RowsRise (part e)) where
  past_rows : (k : EntityKey) (es : List Seat) → Each (λ d. key_cmp k d.0 ≡ order.Less) es → Each (IsPast K k) (flat_map part es)
  past_rows k [] h = tt
  past_rows k (e ∷ es) h =
      each_append (IsPast K k) (part e) (flat_map part es)
      (each_weaken (IsFrom K e.0) (IsPast K k) (λ r f. record { kind_is = f.kind_is; past = ap (key_cmp k) f.key_is ∙ h.0 }) (part e) (from e)) (past_rows k es h.1)

  parts_rise : (es : List Seat) → Rising es → RowsRise (flat_map part es)
  parts_rise [] h = tt
  parts_rise (e ∷ es) h =
      rise_append (part e) (flat_map part es) (alone e) (parts_rise es h.1)
      (each_weaken (IsFrom K e.0) (λ r. Each (λ s. row_cmp r s ≡ order.Less) (flat_map part es))
      (λ r f. each_weaken (IsPast K e.0) (λ s. row_cmp r s ≡ order.Less) (λ s p. same_less K e.0 r s f p) (flat_map part es) (past_rows e.0 es h.0)) (part e) (from e))

  parts_kind : (es : List Seat) → Each (λ r. r.kind ≡ K) (flat_map part es)
  parts_kind [] = tt
  parts_kind (e ∷ es) = each_append (λ r. r.kind ≡ K) (part e) (flat_map part es) (each_weaken (IsFrom K e.0) (λ r. r.kind ≡ K) (λ r f. f.kind_is) (part e) (from e)) (parts_kind es)

update_from : (k : EntityKey) (o : Option (Value trip_update)) → Each (IsFrom kind.TripUpdate k) (update_rows k o)
update_from k None = tt
update_from k (Some u) = (record { kind_is = refl; key_is = refl }, tt)

update_alone : (k : EntityKey) (o : Option (Value trip_update)) → RowsRise (update_rows k o)
update_alone k None = tt
update_alone k (Some u) = (tt, tt)

vehicle_from : (k : EntityKey) (o : Option (Value vehicle_position)) → Each (IsFrom kind.Vehicle k) (vehicle_rows k o)
vehicle_from k None = tt
vehicle_from k (Some v) = (record { kind_is = refl; key_is = refl }, tt)

vehicle_alone : (k : EntityKey) (o : Option (Value vehicle_position)) → RowsRise (vehicle_rows k o)
vehicle_alone k None = tt
vehicle_alone k (Some v) = (tt, tt)

abbrev updates : Seat → List PairRow
updates e = update_rows e.0 (update_of e.1)

abbrev vehicles : Seat → List PairRow
vehicles e = vehicle_rows e.0 (vehicle_of e.1)

all_rise : (es : List Seat) → Rising es → RowsRise (update_rows_of es ++ vehicle_rows_of es)
all_rise es h =
    rise_append (update_rows_of es) (vehicle_rows_of es)
    (parts_rise kind.TripUpdate updates (λ e. update_from e.0 (update_of e.1)) (λ e. update_alone e.0 (update_of e.1)) es h)
    (parts_rise kind.Vehicle vehicles (λ e. vehicle_from e.0 (vehicle_of e.1)) (λ e. vehicle_alone e.0 (vehicle_of e.1)) es h)
    (each_weaken (λ r. r.kind ≡ kind.TripUpdate) (λ r. Each (λ s. row_cmp r s ≡ order.Less) (vehicle_rows_of es))
    (λ r f. each_weaken (λ s. s.kind ≡ kind.Vehicle) (λ s. row_cmp r s ≡ order.Less) (λ s p. other_less r s f p) (vehicle_rows_of es)
    (parts_kind kind.Vehicle vehicles (λ e. vehicle_from e.0 (vehicle_of e.1)) (λ e. vehicle_alone e.0 (vehicle_of e.1)) es))
    (update_rows_of es) (parts_kind kind.TripUpdate updates (λ e. update_from e.0 (update_of e.1)) (λ e. update_alone e.0 (update_of e.1)) es))

-- ---- they are alike
none_in : (p : PairRow → Bool) (part : Seat → List PairRow) → ((e : Seat) → filter p (part e) ≡ []) → (es : List Seat) → filter p (flat_map part es) ≡ []
none_in p part none [] = refl
none_in p part none (e ∷ es) = filter-append p (part e) (flat_map part es) ∙ ap (λ xs. xs ++ filter p (flat_map part es)) (none e) ∙ none_in p part none es

-- where one of two kinds never passes, what passes is the other's
module _ (p : PairRow → Bool) where
  updates_pass : ((e : Seat) → filter p (vehicles e) ≡ []) → (es : List Seat) → filter p (seat_rows es) ≡ filter p (update_rows_of es)
  updates_pass none [] = refl
  updates_pass none (e ∷ es) =
      filter-append p (updates e ++ vehicles e) (seat_rows es)
      ∙ ap (λ xs. xs ++ filter p (seat_rows es)) (filter-append p (updates e) (vehicles e) ∙ ap (λ xs. filter p (updates e) ++ xs) (none e) ∙ append-nil (filter p (updates e)))
      ∙ ap (λ xs. filter p (updates e) ++ xs) (updates_pass none es) ∙ sym (filter-append p (updates e) (update_rows_of es))

  vehicles_pass : ((e : Seat) → filter p (updates e) ≡ []) → (es : List Seat) → filter p (seat_rows es) ≡ filter p (vehicle_rows_of es)
  vehicles_pass none [] = refl
  vehicles_pass none (e ∷ es) =
      filter-append p (updates e ++ vehicles e) (seat_rows es)
      ∙ ap (λ xs. xs ++ filter p (seat_rows es)) (filter-append p (updates e) (vehicles e) ∙ ap (λ xs. xs ++ filter p (vehicles e)) (none e))
      ∙ ap (λ xs. filter p (vehicles e) ++ xs) (vehicles_pass none es) ∙ sym (filter-append p (vehicles e) (vehicle_rows_of es))

no_update : (k : EntityKey) (o : Option (Value trip_update)) → filter (is_of kind.Vehicle) (update_rows k o) ≡ []
no_update k None = refl
no_update k (Some u) = refl

no_vehicle : (k : EntityKey) (o : Option (Value vehicle_position)) → filter (is_of kind.TripUpdate) (vehicle_rows k o) ≡ []
no_vehicle k None = refl
no_vehicle k (Some v) = refl

module _ (es : List Seat) where
  abbrev kinds : List PairRow
  kinds = update_rows_of es ++ vehicle_rows_of es

  kinds_alike : AreAlike kinds (seat_rows es)
  kinds_alike kind.TripUpdate =
      filter-append (is_of kind.TripUpdate) (update_rows_of es) (vehicle_rows_of es)
      ∙ ap (λ xs. filter (is_of kind.TripUpdate) (update_rows_of es) ++ xs) (none_in (is_of kind.TripUpdate) vehicles (λ e. no_vehicle e.0 (vehicle_of e.1)) es)
      ∙ append-nil (filter (is_of kind.TripUpdate) (update_rows_of es))
      ∙ sym (updates_pass (is_of kind.TripUpdate) (λ e. no_vehicle e.0 (vehicle_of e.1)) es)
  kinds_alike kind.Vehicle =
      filter-append (is_of kind.Vehicle) (update_rows_of es) (vehicle_rows_of es)
      ∙ ap (λ xs. xs ++ filter (is_of kind.Vehicle) (vehicle_rows_of es)) (none_in (is_of kind.Vehicle) updates (λ e. no_update e.0 (update_of e.1)) es)
      ∙ sym (vehicles_pass (is_of kind.Vehicle) (λ e. no_update e.0 (update_of e.1)) es)

  -- rows that are alike find the same
  alike_found : (rows : List PairRow) → AreAlike rows (seat_rows es) → (t : Option Tables) (heads : Heads) (k : EntityKey) (e : Value entity) → entity_found t (rows_alone rows) heads k e ≡ entity_found t (rows_alone (seat_rows es)) heads k e
  alike_found rows alike t heads k e =
      sym (joined t (rows_alone rows) heads k e)
      ∙ ap (λ ps. in_rule_order (((found_all message_rules (local_answer t k e) k e ++ found_all schedule_rules (local_answer t k e) k e) ++ ps) ++ (found_all bound_rules (bound_answer (timestamp_of heads.header) heads.moment k e) k e ++ found_all peak_rules (peak_answer no_peaks k e) k e)))
      (rules_agree rows (seat_rows es) k e (alike-agree rows (seat_rows es) alike k e))
      ∙ joined t (rows_alone (seat_rows es)) heads k e

  pub all_found : (rows : List PairRow) → AreAlike rows (seat_rows es) → (t : Option Tables) (heads : Heads) (ds : List Seat) → found_at_seats t rows heads ds ≡ found_at_seats t (seat_rows es) heads ds
  all_found rows alike t heads [] = refl
  all_found rows alike t heads (d ∷ ds) = both_same (alike_found rows alike t heads d.0 d.1) (all_found rows alike t heads ds)

  pub index_alike : (rows : List PairRow) → rows ≡ put_rows (put_rows [] (update_rows_of es)) (vehicle_rows_of es) → Rising es → AreAlike rows (seat_rows es)
  index_alike rows is h k =
      ap (filter (is_of k)) (is ∙ sym (put_append [] (update_rows_of es) (vehicle_rows_of es)) ∙ put_rising [] kinds (all_rise es h))
      ∙ kinds_alike k
