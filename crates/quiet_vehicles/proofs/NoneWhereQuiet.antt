-- No rule breaks at a quiet vehicle position, where no timetable is asked.
use Rattle.std.proofs.Common.{ap, sym, ◌∙◌, subst}
use Rattle.std.specs.Prelude.{◌≡◌, ℕ, zero, suc, ℤ, pos, int_le, Bool, true, false, not, ◌&&◌, List, [], ◌∷◌, Option, Some, None, option_map, slice_get, bytes_eq, refl}
use Rattle.std.specs.Ordering.{int_eq}
use Rattle.std.proofs.lemmas.Bool.Decides.{Decides-int_eq}
use Rattle.std.proofs.lemmas.Slice.Eq.{bytes_eq-Decides}
use Rattle.feed_values.specs.Schema.{Value}
use Rattle.feed_values.specs.Messages.{entity, feed_header}
use Rattle.feed_values.specs.Cells.{entity_cell, header_cell, text_cell}
use Rattle.feed_values.specs.SlotNames.{alert_selectors, entity_id, entity_is_deleted, header_timestamp}
use Rattle.feed_values.specs.Views.{vehicle_position_value}
use Rattle.feed_values.specs.declared.slot.Slot.{Slot}
use Rattle.feed_values.specs.declared.slot.Slot.TheVariants.{S21, S22, S23, S24, S27, S28, S29, S31, S32, S33, S34, S35, S37, S38, S40, S43, S44, S50, S51, S52, S53, S54, S55, S58, S59, S71, S72, S74, S76, S80, S81}
use Rattle.feed_values.specs.declared.trip_descriptor.TripDescriptor.{TripDescriptor}
use Rattle.feed_values.specs.declared.vehicle_descriptor.VehicleDescriptor.{VehicleDescriptor}
use Rattle.feed_values.specs.declared.vehicle_position.VehiclePosition.{VehiclePosition}
use Rattle.feed_values.specs.declared.cell_value.CellValue.{CellValue}
use Rattle.feed_values.specs.declared.cell_value.CellValue.TheVariants as value
use Rattle.rule_table.specs.declared.ask.Ask.{Ask}
use Rattle.rule_table.specs.declared.ask.Ask.TheVariants as ask
use Rattle.rule_table.specs.declared.key.EntityKey.{EntityKey}
use Rattle.rule_table.specs.declared.kind.Kind.TheVariants as kind
use Rattle.rule_table.specs.declared.place.Place.TheVariants as place
use Rattle.rule_table.specs.declared.rule.RuleId.{RuleId}
use Rattle.rule_table.specs.declared.rule.RuleId.TheVariants.{E001, E002, E012, E020, E021, E022, E025, E031, E032, E033, E036, E037, E039, E040, E041, E042, E043, E044, E047, E050, E052, W001, W002, W003, W006, W009, X001, X002}
use Rattle.rule_table.specs.Answers.{count_cell, natural_cell, yes}
use Rattle.rule_table.specs.Asked.{number_in, text_in, with_both}
use Rattle.rule_table.specs.Judged.{alert_of, found_all, found_at, found_in, periods_in, places_at, selectors_in, update_of, updates_in}
use Rattle.rule_table.specs.Pairs.{PairRow, any_row, first_key, first_vehicle, has_pair, has_trip, has_vehicle, vehicle_of}
use Rattle.rule_table.specs.Passed.{is_given, is_number, number_is, numbers_are}
use Rattle.rule_table.specs.Cited.{and_then, answered, value_then}
use Rattle.rule_table.specs.CitedLaws.{both_same}
use Rattle.rule_table.specs.ClearSlots.{IsClear}
use Rattle.rule_table.specs.Groups.{Each}
use Rattle.rule_table.specs.Table.{slots_of}
use Rattle.rule_table.proofs.NoneThere.{after, after_one, none_found}
use Rattle.rule_clear.specs.Clear.{without_update}
use Rattle.rule_clear.proofs.NoneWithout.{update_clear}
use Rattle.judging.specs.Ruled.{entity_rules}
use Rattle.judging.proofs.Beside.{beside_timetable, found_beside}
use Rattle.rule_clear.specs.Sound.{below, no_time}
use Rattle.judging.specs.Judged.{first_answer, first_heads}
use Rattle.judging.specs.Whole.{entity_found, rows_alone}
use Rattle.quiet_vehicles.specs.Quiet.{IsDescribed, IsKnown, IsQuiet, IsTimely, cells_in, cells_of, is_ahead, is_paired, is_wrong_clock, is_wrong_date}
use Rattle.quiet_vehicles.proofs.RowsBeside.{trip_there, unpaired, vehicle_there}

-- ---- conditions that are false
alone : (b : Bool) → b ≡ false → (b && true) ≡ false
alone b h = ap (λ x. x && true) h

both : (a b : Bool) → (a && b) ≡ false → (a && (b && true)) ≡ false
both true b h = alone b h
both false b h = refl

lacking_none : (g b : Bool) → b ≡ true → (g && (not b && true)) ≡ false
lacking_none true b h = rw h refl
lacking_none false b h = refl

below_none : (p : ℤ → ℤ → Bool) (o : Option ℤ) → numbers_are p o None ≡ false
below_none p None = refl
below_none p (Some n) = refl

some_same : {A : Type 0} (x y : A) → Some x ≡ Some y → x ≡ y
some_same x y h = cc

-- what holds of each holds of the one of a number
picked : {A : Type 0} (P : A → Type 0) (xs : List A) (n : ℕ) (x : A) → slice_get xs n ≡ Some x → Each P xs → P x
picked P [] n x h k = absurd (cc h)
picked P (y ∷ xs) zero x h k = subst P (some_same y x h) k.0
picked P (y ∷ xs) (suc n) x h k = picked P xs n x h k.1

-- after an ask about two texts, where there are both
after_texts : (answer : Ask → Option CellValue) (f : CellValue → Bool) (make : List ℕ → List ℕ → Ask) (first second : Option (List ℕ))
    → ((x y : List ℕ) → first ≡ Some x → second ≡ Some y → value_then (option_map (λ v. v.value) (answered (make x y) (answer (make x y)))) f ≡ false)
    → value_then (option_map (λ v. v.value) (and_then (with_both make first second) (λ q. answered q (answer q)))) f ≡ false
after_texts answer f make None second h = refl
after_texts answer f make (Some x) None h = refl
after_texts answer f make (Some x) (Some y) h = h x y refl refl

-- an entity of the same id stands before
abbrev repeats : CellValue → Bool
repeats v = number_is (λ n. int_le (pos 1) n) (number_in v) && true

-- ---- the cells of the one position
same_cells : (e : Value entity) (v : VehiclePosition) → vehicle_of e ≡ Some (vehicle_position_value v) → cells_of e ≡ cells_in v
same_cells e v h = by_parts v.trip v.vehicle refl refl
  where
    by_parts : (trip : Option TripDescriptor) (vehicle : Option VehicleDescriptor) → v.trip ≡ trip → v.vehicle ≡ vehicle → cells_of e ≡ cells_in v
    by_parts None None t w = rw (h, t, w) refl
    by_parts None (Some vehicle) t w = rw (h, t, w) refl
    by_parts (Some trip) None t w = rw (h, t, w) refl
    by_parts (Some trip) (Some vehicle) t w = rw (h, t, w) refl

-- ---- at its place
module _ (rows : List PairRow) (header : Value feed_header) (moment : ℕ) (key : EntityKey) (e : Value entity) (q : IsQuiet rows header moment key e) where
  abbrev here : Ask → Option CellValue
  here = first_answer None rows header moment key e

  abbrev own : Slot → Ask
  own s = ask.Cell (record { slot = s; index = 0 })

  abbrev None_at : RuleId → Slot → Type 0
  None_at rule s = found_at rule here (place.Entity key (record { slot = s; index = 0 })) ≡ []

  cells : cells_of e ≡ cells_in q.vehicle
  cells = same_cells e q.vehicle q.alone.held

  timely : IsTimely (header_cell header header_timestamp) moment (cells_of e)
  timely = subst (IsTimely (header_cell header header_timestamp) moment) (sym cells) q.timely

  described : IsDescribed (cells_of e)
  described = subst IsDescribed (sym cells) q.described

  known : IsKnown rows key (cells_of e)
  known = subst (IsKnown rows key) (sym cells) q.known

  -- the id of its vehicle, by which its entity is the first
  is_id : (id : List ℕ) → text_in (entity_cell e S58 0) ≡ Some id → id ≡ known.id
  is_id id h = some_same id known.id (sym h ∙ ap text_in known.named)

  first : (id : List ℕ) → text_in (entity_cell e S58 0) ≡ Some id → first_key rows key.feed id ≡ Some key
  first id h = subst (λ x. first_key rows key.feed x ≡ Some key) (sym (is_id id h)) known.first

  itself : bytes_eq key.id key.id ≡ true
  itself = (bytes_eq-Decides key.id key.id).1 refl

  same_number : int_eq (pos key.occurrence) (pos key.occurrence) ≡ true
  same_number = (Decides-int_eq (pos key.occurrence) (pos key.occurrence)).1 refl

  paired : (trip id : List ℕ) → text_in (entity_cell e S52 0) ≡ Some trip → text_in (entity_cell e S58 0) ≡ Some id → is_paired rows (Some trip) id ≡ true
  paired trip id t h = subst (λ x. is_paired rows (Some trip) x ≡ true) (sym (is_id id h)) (subst (λ o. is_paired rows o known.id ≡ true) t known.paired)

  no_E001 : None_at E001 S59
  no_E001 = none_found here E001 key S59 0 (after here _ (own S59) (entity_cell e S59 0) refl (alone (no_time (entity_cell e S59 0)) timely.valid))

  no_E012 : None_at E012 S59
  no_E012 =
      none_found here E012 key S59 0
      (after here _ (own S59) (entity_cell e S59 0) refl
      (after here _ (ask.HeadNow header_timestamp) (header_cell header header_timestamp) refl (alone (below (header_cell header header_timestamp) (entity_cell e S59 0)) timely.behind)))

  no_E050 : None_at E050 S59
  no_E050 =
      none_found here E050 key S59 0
      (after here _ (own S59) (entity_cell e S59 0) refl
      (after here _ ask.Moment (count_cell moment) refl (alone (is_ahead (entity_cell e S59 0) moment) timely.come)))

  no_W001 : None_at W001 S59
  no_W001 =
      none_found here W001 key S59 0
      (after here _ (own S50) (entity_cell e S50 0) refl
      (after here _ (own S59) (entity_cell e S59 0) refl (lacking_none (is_given (entity_cell e S50 0)) (is_given (entity_cell e S59 0)) timely.given)))

  no_X001 : None_at X001 S59
  no_X001 =
      none_found here X001 key S59 0
      (after here _ (own S58) (entity_cell e S58 0) refl
      (after here _ (own S59) (entity_cell e S59 0) refl
      (after_one here _ (ask.Peak key.feed) (text_in (entity_cell e S58 0)) (λ id p.
      after here (λ x. below (entity_cell e S59 0) x && true) (ask.Peak key.feed id) value.Missing refl (alone (below (entity_cell e S59 0) value.Missing) (below_none (λ x y. not (int_le y x)) (number_in (entity_cell e S59 0))))))))

  no_E020 : None_at E020 S53
  no_E020 = none_found here E020 key S53 0 (after here _ (own S53) (entity_cell e S53 0) refl (alone (is_wrong_clock (entity_cell e S53 0)) described.clock))

  no_E021 : None_at E021 S54
  no_E021 = none_found here E021 key S54 0 (after here _ (own S54) (entity_cell e S54 0) refl (alone (is_wrong_date (entity_cell e S54 0)) described.date))

  no_W009 : None_at W009 S55
  no_W009 =
      none_found here W009 key S55 0
      (after here _ (own S51) (entity_cell e S51 0) refl
      (after here _ (own S55) (entity_cell e S55 0) refl (both (is_given (entity_cell e S51 0)) (not (is_given (entity_cell e S55 0))) described.related)))

  no_W002 : None_at W002 S58
  no_W002 =
      none_found here W002 key S58 0
      (after here _ (own S50) (entity_cell e S50 0) refl
      (after here _ (own S58) (entity_cell e S58 0) refl (lacking_none (is_given (entity_cell e S50 0)) (is_given (entity_cell e S58 0)) (ap is_given known.named))))

  no_E047 : None_at E047 S58
  no_E047 =
      none_found here E047 key S58 0
      (after here _ (own S52) (entity_cell e S52 0) refl
      (after here _ (own S58) (entity_cell e S58 0) refl
      (after_one here _ (ask.FirstVehicle kind.TripUpdate) (text_in (entity_cell e S52 0)) (λ trip p.
      after here _ (ask.FirstVehicle kind.TripUpdate trip) (text_cell (first_vehicle rows kind.TripUpdate trip)) refl
      (after_texts here _ (ask.HasPair kind.TripUpdate) (text_in (entity_cell e S52 0)) (text_in (entity_cell e S58 0)) (λ other id r h.
      after here _ (ask.HasPair kind.TripUpdate other id) (yes (has_pair rows kind.TripUpdate other id)) refl
      (subst (λ x. (is_given (text_cell (first_vehicle rows kind.TripUpdate x)) && (is_number 0 (yes (has_pair rows kind.TripUpdate other id)) && true)) ≡ false) (some_same other trip (sym r ∙ p))
      (unpaired rows other id (paired other id r h)))))))))

  no_E052 : None_at E052 S58
  no_E052 =
      none_found here E052 key S58 0
      (after here _ (own S58) (entity_cell e S58 0) refl
      (after_one here _ (ask.FirstId key.feed) (text_in (entity_cell e S58 0)) (λ id p.
      after here _ (ask.FirstId key.feed id) (text_cell (option_map (λ k. k.id) (first_key rows key.feed id))) refl
      (after_one here _ (ask.FirstOccurrence key.feed) (text_in (entity_cell e S58 0)) (λ same r.
      after here _ (ask.FirstOccurrence key.feed same) (natural_cell (option_map (λ k. k.occurrence) (first_key rows key.feed same))) refl
      (rw (first id p, first same r, itself, same_number) refl))))))

  no_W003_trip : None_at W003 S52
  no_W003_trip =
      none_found here W003 key S52 0
      (after here _ (own S52) (entity_cell e S52 0) refl
      (after here _ (ask.AnyRow kind.TripUpdate) (yes (any_row rows kind.TripUpdate)) refl
      (after_one here _ (ask.HasTrip kind.TripUpdate) (text_in (entity_cell e S52 0)) (λ trip p.
      after here _ (ask.HasTrip kind.TripUpdate trip) (yes (has_trip rows kind.TripUpdate trip)) refl (trip_there rows trip known.id (subst (λ t. is_paired rows t known.id ≡ true) p known.paired))))))

  no_W003 : None_at W003 S58
  no_W003 =
      none_found here W003 key S58 0
      (after here _ (own S58) (entity_cell e S58 0) refl
      (after here _ (ask.AnyRow kind.TripUpdate) (yes (any_row rows kind.TripUpdate)) refl
      (after_one here _ (ask.HasVehicle kind.TripUpdate) (text_in (entity_cell e S58 0)) (λ id p.
      after here _ (ask.HasVehicle kind.TripUpdate id) (yes (has_vehicle rows kind.TripUpdate id)) refl
      (vehicle_there rows (text_in (entity_cell e S52 0)) id (subst (λ x. is_paired rows (text_in (entity_cell e S52 0)) x ≡ true) (sym (is_id id p)) known.paired))))))

  no_E039 : None_at E039 entity_is_deleted
  no_E039 = none_found here E039 key entity_is_deleted 0 (after here _ (own entity_is_deleted) value.Missing (ap Some q.alone.kept) refl)

  no_X002 : None_at X002 entity_id
  no_X002 =
      none_found here X002 key entity_id 0
      (after here (λ v. value_then (option_map (λ f. f.value) (answered ask.Occurrence (here ask.Occurrence))) repeats) (own entity_id) (entity_cell e entity_id 0) refl
      (after here repeats ask.Occurrence (count_cell 0) (ap (λ n. Some (count_cell n)) q.alone.once) refl))

  no_E032 : None_at E032 alert_selectors
  no_E032 = none_found here E032 key alert_selectors 0 (after here _ (own alert_selectors) value.Missing (rw q.alone.no_alert refl) refl)

  -- ---- at all places
  nothing_in : (rule : RuleId) (slots : List Slot) → Each (λ s. IsClear here key e (rule, s)) slots → found_in rule here key e slots ≡ []
  nothing_in rule [] h = refl
  nothing_in rule (s ∷ slots) h = both_same h.0 (nothing_in rule slots h.1)

  nothing_all : (rules : List RuleId) → Each (λ rule. Each (λ s. IsClear here key e (rule, s)) (slots_of rule)) rules → found_all rules here key e ≡ []
  nothing_all [] h = refl
  nothing_all (rule ∷ rules) h = both_same (nothing_in rule (slots_of rule) h.0) (nothing_all rules h.1)

  abbrev Nowhere : RuleId → Slot → Type 0
  Nowhere rule s = IsClear here key e (rule, s)

  -- there is no trip update
  without : (rule : RuleId) (s : Slot) (n : ℕ) → slice_get without_update n ≡ Some (rule, s) → Nowhere rule s
  without rule s n h = picked (IsClear here key e) without_update n (rule, s) h (update_clear here key e (λ p. refl) q.alone.no_update)

  update : (rule : RuleId) (s : Slot) → places_at e s ≡ updates_in (update_of e) → Nowhere rule s
  update rule s n = rw (n, q.alone.no_update) refl

  -- and no alert
  period : (rule : RuleId) (s : Slot) → places_at e s ≡ periods_in (alert_of e) → Nowhere rule s
  period rule s n = rw (n, q.alone.no_alert) refl

  selector : (rule : RuleId) (s : Slot) → places_at e s ≡ selectors_in (alert_of e) → Nowhere rule s
  selector rule s n = rw (n, q.alone.no_alert) refl

  pub nothing_beside : found_all beside_timetable here key e ≡ []
  unfolding entity_rules
  nothing_beside =
      nothing_all beside_timetable
      ((without E001 S29 0 refl, (update E001 S37 refl, (update E001 S40 refl, (no_E001, (period E001 S71 refl, (period E001 S72 refl, tt)))))), ((update E002 S32 refl, tt), ((without E012 S29 4 refl, (no_E012, tt)), ((without E020 S22 8 refl, (without E020 S44 9 refl, (no_E020, (selector E020 S80 refl, tt)))), ((without E021 S23 10 refl, (without E021 S43 11 refl, (no_E021, (selector E021 S81 refl, tt)))), ((update E022 S31 refl, tt), ((update E025 S40 refl, tt), ((selector E031 S76 refl, tt), ((no_E032, tt), ((selector E033 S74 refl, tt), ((update E036 S32 refl, tt), ((update E037 S33 refl, tt), ((no_E039, tt), ((update E040 S31 refl, tt), ((without E041 S27 15 refl, tt), ((update E042 S35 refl, (update E042 S38 refl, tt)), ((update E043 S31 refl, tt), ((update E044 S35 refl, (update E044 S38 refl, tt)), ((without E047 S28 16 refl, (no_E047, tt)), ((without E050 S29 17 refl, (no_E050, tt)), ((no_E052, tt), ((without W001 S29 18 refl, (no_W001, tt)), ((without W002 S28 19 refl, (no_W002, tt)), ((without W003 S21 20 refl, (without W003 S28 21 refl, (no_W003_trip, (no_W003, tt)))), ((without W006 S21 23 refl, tt), ((without W009 S24 24 refl, (update W009 S34 refl, (no_W009, tt))), ((no_X001, tt), ((no_X002, tt), tt))))))))))))))))))))))))))))

  pub nothing : entity_found None (rows_alone rows) (first_heads header moment) key e ≡ []
  nothing = sym (found_beside (rows_alone rows) (first_heads header moment) key e) ∙ nothing_beside
