use Rattle.std.proofs.Common.{◌≡◌, true, Some, sym, ◌∙◌, ap}
use Rattle.std.specs.Prelude.{map, option_and_then}
use Rattle.std.specs.BTreeMap.{get_by_text}
use Rattle.std.specs.BTreeSet.{insert_key}
use Rattle.pairing_rules.specs.Numbers.{is_named, number_of, numbered, where_given, where_missing}
use Rattle.pairing_rules.specs.Rows.{pair_row, held_row, row_cmp}
use Rattle.pairing_rules.specs.Seats.{seat_in, row_at, rows_of, AreSeated}
use Rattle.pairing_rules.specs.Slots.{seen_at}
use Rattle.pairing_rules.specs.Index.{paired_number, unpaired_number, vehicle_number}
use Rattle.pairing_rules.proofs.Lists.{all-then, all-insert}
use Rattle.pairing_rules.proofs.InOrder.{sorted-in-order}
use Rattle.pairing_rules.proofs.Seated.{rows-insert, seated-insert, row-held, seated-new}
use Rattle.pairing_rules.proofs.Numbering.{number-kept, named-kept, numbered-named, seat-kept}
use Rattle.pairing_rules.proofs.Indexed.{under-put, put-as, given-beside, missing-beside}
use Rattle.pairing_rules.proofs.pair_index.PairIndex.put.Goals as goal

pub invariant_of-index : goal.invariant_of-index
invariant_of-index c =
    let old = c.index.inside in
    let i = c.index.invariant.1 in
    let es = old.seats.entries in
    let rows = rows_of es in
    let row = pair_row c.args.row in
    let seat = c.new-seat.result in
    let held = c.in_ok-held.held in
    let ids = get_by_text old.ids.numbers in
    let ids' = get_by_text c.give.new.self.numbers in
    let trips = get_by_text old.trips.numbers in
    let trips' = get_by_text c.give_given.new.self.numbers in
    let vehicles = get_by_text old.vehicles.numbers in
    let vehicles' = get_by_text c.give_given-2.new.self.numbers in
    let trip : c.in_ok-trip.trip ≡ number_of trips' row.trip = sym c.in_ok-trip.ensures.number ∙ ap (option_and_then trips') c.given_text.ensures in
    let vehicle : c.in_ok-vehicle.vehicle ≡ number_of vehicles' row.vehicle = sym c.in_ok-vehicle.ensures.number ∙ ap (option_and_then vehicles') c.given_text-2.ensures in
    let trip_named : is_named trips' row.trip ≡ true = ap (is_named trips') (sym c.given_text.ensures) ∙ c.in_ok-trip.ensures.named in
    let vehicle_named : is_named vehicles' row.vehicle ≡ true = ap (is_named vehicles') (sym c.given_text-2.ensures) ∙ c.in_ok-vehicle.ensures.named in
    let vehicle_numbered : numbered vehicles' row.vehicle ≡ Some c.in_ok-vehicle.vehicle = numbered-named vehicles' row.vehicle c.in_ok-vehicle.vehicle vehicle_named (sym vehicle) in
    let content : held_row row.kind held.value ≡ row = ap (held_row row.kind) c.in_ok-held.ensures.ok ∙ c.new.ensures in
    let same : row_at (seat, held) ≡ row = row-held ids' trips' vehicles' row seat held c.in_ok-id.id c.in_ok-trip.trip c.in_ok-vehicle.vehicle c.new-seat.ensures content in
    let new : seat_in ids' trips' vehicles' (row_at (seat, held)) ≡ Some seat =
    seated-new ids' trips' vehicles' row seat held c.in_ok-id.id c.in_ok-trip.trip c.in_ok-vehicle.vehicle c.new-seat.ensures content
    (ap ids' (sym c.as_str.ensures) ∙ c.in_ok-id.ensures.own) (numbered-named trips' row.trip c.in_ok-trip.trip trip_named (sym trip)) vehicle_numbered in
    let kept : AreSeated ids' trips' vehicles' es =
    all-then (λ e. seat_in ids trips vehicles (row_at e) ≡ Some e.0) (λ e. seat_in ids' trips' vehicles' (row_at e) ≡ Some e.0)
    (λ e g. seat-kept ids ids' trips trips' vehicles vehicles' c.in_ok-id.ensures.kept c.in_ok-trip.ensures.kept c.in_ok-vehicle.ensures.kept (row_at e) e.0 g) es c.index.invariant.0 in
    let added : rows_of c.insert.new.self.entries ≡ insert_key row_cmp rows row =
    ap rows_of c.in_ok-insert.ensures.entries
    ∙ rows-insert ids' trips' vehicles' c.give.new.self.last c.give_given.new.self.last c.give_given-2.new.self.last c.give.new.self.apart c.give_given.new.self.apart c.give_given-2.new.self.apart seat held new es kept
    ∙ ap (insert_key row_cmp rows) same in
    let sorted = sorted-in-order (map row_at es) in
    let paired = c.paired.ensures ∙ ap (λ z. where_given z.vehicle z.trip) c.new-seat.ensures ∙ given-beside vehicles' row.vehicle c.in_ok-vehicle.vehicle c.in_ok-trip.trip vehicle_numbered ∙ ap (where_given row.vehicle) trip in
    let unpaired = c.unpaired.ensures ∙ ap (λ z. where_missing z.vehicle z.trip) c.new-seat.ensures ∙ missing-beside vehicles' row.vehicle c.in_ok-vehicle.vehicle c.in_ok-trip.trip vehicle_numbered ∙ ap (where_missing row.vehicle) trip in
    let trip_kept = number-kept trips trips' c.in_ok-trip.ensures.kept in
    let vehicle_kept = number-kept vehicles vehicles' c.in_ok-vehicle.ensures.kept in (
      rw c.in_ok-insert.ensures.entries (seated-insert ids' trips' vehicles' c.give.new.self.last c.give_given.new.self.last c.give_given-2.new.self.last c.give.new.self.apart c.give_given.new.self.apart c.give_given-2.new.self.apart seat held new es kept),
      rw added (record {
        paired_under = under-put (paired_number trips) (paired_number trips') old.paired c.put_given.new.entries rows row sorted
            (all-then (λ x. is_named trips x.trip ≡ true) (λ x. paired_number trips' x ≡ paired_number trips x) (λ x g. ap (where_given x.vehicle) (trip_kept x.trip g)) rows i.trips_named)
            (λ n k. c.in_ok-put_given.ensures n k ∙ put-as n k _ _ (row_at (seat, held)) row (seen_at old.paired n k) paired same) i.paired_under;
        unpaired_under = under-put (unpaired_number trips) (unpaired_number trips') old.unpaired c.put_given-2.new.entries rows row sorted
            (all-then (λ x. is_named trips x.trip ≡ true) (λ x. unpaired_number trips' x ≡ unpaired_number trips x) (λ x g. ap (where_missing x.vehicle) (trip_kept x.trip g)) rows i.trips_named)
            (λ n k. c.in_ok-put_given-2.ensures n k ∙ put-as n k _ _ (row_at (seat, held)) row (seen_at old.unpaired n k) unpaired same) i.unpaired_under;
        vehicles_under = under-put (vehicle_number vehicles) (vehicle_number vehicles') old.by_vehicle c.put_given-3.new.entries rows row sorted
            (all-then (λ x. is_named vehicles x.vehicle ≡ true) (λ x. vehicle_number vehicles' x ≡ vehicle_number vehicles x) (λ x g. vehicle_kept x.vehicle g) rows i.vehicles_named)
            (λ n k. c.in_ok-put_given-3.ensures n k ∙ put-as n k _ _ (row_at (seat, held)) row (seen_at old.by_vehicle n k) (ap (λ z. z.vehicle) c.new-seat.ensures ∙ vehicle) same) i.vehicles_under;
        trips_named = all-insert (λ x. is_named trips' x.trip ≡ true) row_cmp row trip_named rows
            (all-then (λ x. is_named trips x.trip ≡ true) (λ x. is_named trips' x.trip ≡ true) (λ x g. named-kept trips trips' c.in_ok-trip.ensures.kept x.trip g) rows i.trips_named);
        vehicles_named = all-insert (λ x. is_named vehicles' x.vehicle ≡ true) row_cmp row vehicle_named rows
            (all-then (λ x. is_named vehicles x.vehicle ≡ true) (λ x. is_named vehicles' x.vehicle ≡ true) (λ x g. named-kept vehicles vehicles' c.in_ok-vehicle.ensures.kept x.vehicle g) rows i.vehicles_named);
      }),
    )

pub returns-clause-rows : goal.returns-clause-rows
returns-clause-rows c =
    let old = c.index.inside in
    let es = old.seats.entries in
    let row = pair_row c.args.row in
    let seat = c.new-seat.result in
    let held = c.in_ok-held.held in
    let ids = get_by_text old.ids.numbers in
    let ids' = get_by_text c.give.new.self.numbers in
    let trips = get_by_text old.trips.numbers in
    let trips' = get_by_text c.give_given.new.self.numbers in
    let vehicles = get_by_text old.vehicles.numbers in
    let vehicles' = get_by_text c.give_given-2.new.self.numbers in
    let trip : c.in_ok-trip.trip ≡ number_of trips' row.trip = sym c.in_ok-trip.ensures.number ∙ ap (option_and_then trips') c.given_text.ensures in
    let vehicle : c.in_ok-vehicle.vehicle ≡ number_of vehicles' row.vehicle = sym c.in_ok-vehicle.ensures.number ∙ ap (option_and_then vehicles') c.given_text-2.ensures in
    let trip_named : is_named trips' row.trip ≡ true = ap (is_named trips') (sym c.given_text.ensures) ∙ c.in_ok-trip.ensures.named in
    let vehicle_named : is_named vehicles' row.vehicle ≡ true = ap (is_named vehicles') (sym c.given_text-2.ensures) ∙ c.in_ok-vehicle.ensures.named in
    let content : held_row row.kind held.value ≡ row = ap (held_row row.kind) c.in_ok-held.ensures.ok ∙ c.new.ensures in
    let new : seat_in ids' trips' vehicles' (row_at (seat, held)) ≡ Some seat =
    seated-new ids' trips' vehicles' row seat held c.in_ok-id.id c.in_ok-trip.trip c.in_ok-vehicle.vehicle c.new-seat.ensures content
    (ap ids' (sym c.as_str.ensures) ∙ c.in_ok-id.ensures.own) (numbered-named trips' row.trip c.in_ok-trip.trip trip_named (sym trip)) (numbered-named vehicles' row.vehicle c.in_ok-vehicle.vehicle vehicle_named (sym vehicle)) in
    ap rows_of c.in_ok-insert.ensures.entries
    ∙ rows-insert ids' trips' vehicles' c.give.new.self.last c.give_given.new.self.last c.give_given-2.new.self.last c.give.new.self.apart c.give_given.new.self.apart c.give_given-2.new.self.apart seat held new es
    (all-then (λ e. seat_in ids trips vehicles (row_at e) ≡ Some e.0) (λ e. seat_in ids' trips' vehicles' (row_at e) ≡ Some e.0)
    (λ e g. seat-kept ids ids' trips trips' vehicles vehicles' c.in_ok-id.ensures.kept c.in_ok-trip.ensures.kept c.in_ok-vehicle.ensures.kept (row_at e) e.0 g) es c.index.invariant.0)
    ∙ ap (insert_key row_cmp (rows_of es)) (row-held ids' trips' vehicles' row seat held c.in_ok-id.id c.in_ok-trip.trip c.in_ok-vehicle.vehicle c.new-seat.ensures content) ∙ ap (λ rows. insert_key row_cmp rows row) c.index.view_is

pub returns-clause-ordered : goal.returns-clause-ordered
returns-clause-ordered c = sorted-in-order (map row_at c.insert.new.self.entries)
