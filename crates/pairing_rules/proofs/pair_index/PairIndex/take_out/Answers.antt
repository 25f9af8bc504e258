use Rattle.std.proofs.Common.{◌≡◌, true, Some, sym, ◌∙◌, ap}
use Rattle.std.specs.BTreeMap.{get_by_text}
use Rattle.std.specs.BTreeMap.{is_at}
use Rattle.std.specs.Set.{remove_key}
use Rattle.pairing_rules.specs.Numbers.{is_named, number_of, where_given, where_missing}
use Rattle.pairing_rules.specs.Rows.{pair_row, row_cmp}
use Rattle.pairing_rules.specs.Seats.{seat_in, seat_cmp, row_at, rows_of}
use Rattle.pairing_rules.specs.Slots.{seen_at}
use Rattle.pairing_rules.specs.Index.{paired_number, unpaired_number, vehicle_number}
use Rattle.pairing_rules.proofs.Lists.{all-remove}
use Rattle.pairing_rules.proofs.Seated.{rows-remove, rows-without, seated-remove, seated-found}
use Rattle.pairing_rules.proofs.Numbering.{seat-parts, numbered-is}
use Rattle.pairing_rules.proofs.Indexed.{under-taken, taken-as, given-beside, missing-beside}
use Rattle.pairing_rules.proofs.pair_index.PairIndex.take_out.Goals as goal

pub invariant_of-self : goal.invariant_of-self
invariant_of-self c =
    let old = c.self.inside in
    let i = c.self.invariant.1 in
    let es = old.seats.entries in
    let rows = rows_of es in
    let row = pair_row c.args.row.now in
    let seat = c.in-Some.seat in
    let held = c.in-Some-remove.held in
    let ids = get_by_text old.ids.numbers in
    let trips = get_by_text old.trips.numbers in
    let vehicles = get_by_text old.vehicles.numbers in
    let at : seat_in ids trips vehicles row ≡ Some seat = sym c.in-Some.ensures in
    let same : row_at (seat, held) ≡ row =
    seated-found ids trips vehicles old.ids.last old.trips.last old.vehicles.last old.ids.apart old.trips.apart old.vehicles.apart seat held row at es c.self.invariant.0 (sym c.in-Some-remove.ensures.value) in
    let parts = seat-parts ids trips vehicles row seat at in
    let trip : seat.trip ≡ number_of trips row.trip = sym (numbered-is trips row.trip seat.trip parts.1) in
    let vehicle : seat.vehicle ≡ number_of vehicles row.vehicle = sym (numbered-is vehicles row.vehicle seat.vehicle parts.2) in
    let paired : where_given seat.vehicle seat.trip ≡ paired_number trips row = given-beside vehicles row.vehicle seat.vehicle seat.trip parts.2 ∙ ap (where_given row.vehicle) trip in
    let unpaired : where_missing seat.vehicle seat.trip ≡ unpaired_number trips row = missing-beside vehicles row.vehicle seat.vehicle seat.trip parts.2 ∙ ap (where_missing row.vehicle) trip in (
      rw c.remove.ensures.entries (seated-remove ids trips vehicles old.ids.last old.trips.last old.vehicles.last old.ids.apart old.trips.apart old.vehicles.apart (is_at (seat_cmp seat)) es c.self.invariant.0),
      rw (ap rows_of c.remove.ensures.entries
          ∙ rows-remove ids trips vehicles old.ids.last old.trips.last old.vehicles.last old.ids.apart old.trips.apart old.vehicles.apart seat row at es c.self.invariant.0 c.len-count.ensures.ordered) (record {
            paired_under = under-taken (paired_number trips) old.paired c.take_entries.new.paired rows row
                (λ n k. c.take_entries.ensures.paired n k ∙ taken-as n k _ _ (row_at (seat, held)) row (seen_at old.paired n k) paired same) i.paired_under;
            unpaired_under = under-taken (unpaired_number trips) old.unpaired c.take_entries.new.unpaired rows row
                (λ n k. c.take_entries.ensures.unpaired n k ∙ taken-as n k _ _ (row_at (seat, held)) row (seen_at old.unpaired n k) unpaired same) i.unpaired_under;
            vehicles_under = under-taken (vehicle_number vehicles) old.by_vehicle c.take_entries.new.by_vehicle rows row
                (λ n k. c.take_entries.ensures.vehicles n k ∙ taken-as n k _ _ (row_at (seat, held)) row (seen_at old.by_vehicle n k) vehicle same) i.vehicles_under;
            trips_named = all-remove (λ x. is_named trips x.trip ≡ true) (is_at (row_cmp row)) rows i.trips_named;
            vehicles_named = all-remove (λ x. is_named vehicles x.vehicle ≡ true) (is_at (row_cmp row)) rows i.vehicles_named;
          }),
    )

pub returns-in-Some-remove : goal.returns-in-Some-remove
returns-in-Some-remove c =
    let old = c.self.inside in
    ap rows_of c.remove.ensures.entries
    ∙ rows-remove (get_by_text old.ids.numbers) (get_by_text old.trips.numbers) (get_by_text old.vehicles.numbers) old.ids.last old.trips.last old.vehicles.last old.ids.apart old.trips.apart old.vehicles.apart
    c.in-Some.seat (pair_row c.args.row.now) (sym c.in-Some.ensures) old.seats.entries c.self.invariant.0 c.len-count.ensures.ordered
    ∙ ap (remove_key (is_at (row_cmp (pair_row c.args.row.now)))) c.self.view_is

pub returns-in-None-remove : goal.returns-in-None-remove
returns-in-None-remove c =
    let old = c.self.inside in
    ap rows_of c.remove.ensures.entries
    ∙ rows-remove (get_by_text old.ids.numbers) (get_by_text old.trips.numbers) (get_by_text old.vehicles.numbers) old.ids.last old.trips.last old.vehicles.last old.ids.apart old.trips.apart old.vehicles.apart
    c.in-Some.seat (pair_row c.args.row.now) (sym c.in-Some.ensures) old.seats.entries c.self.invariant.0 c.len-count.ensures.ordered
    ∙ ap (remove_key (is_at (row_cmp (pair_row c.args.row.now)))) c.self.view_is

pub returns-in-None : goal.returns-in-None
returns-in-None c =
    let old = c.self.inside in
    let row = pair_row c.args.row.now in
    let ids = get_by_text old.ids.numbers in
    let trips = get_by_text old.trips.numbers in
    let vehicles = get_by_text old.vehicles.numbers in
    sym c.self.view_is
    ∙ rows-without ids trips vehicles old.ids.last old.trips.last old.vehicles.last old.ids.apart old.trips.apart old.vehicles.apart row (sym c.in-None.ensures) old.seats.entries c.self.invariant.0
    ∙ ap (remove_key (is_at (row_cmp row))) c.self.view_is
