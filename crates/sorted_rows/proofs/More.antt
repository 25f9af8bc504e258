-- A row more, and rows put in order.
use Rattle.std.proofs.Common.{◌≡◌, ◌++◌, ◌||◌, Bool, true, false, List, [], ◌∷◌, map, refl, ap, sym, subst, ◌∙◌, append-nil}
use Rattle.std.specs.Prelude.{cond}
use Rattle.std.specs.List.{list_any}
use Rattle.std.proofs.lemmas.Grind.{flat_map-append}
use Rattle.std.proofs.lemmas.List.{map-append}
use Rattle.std.proofs.lemmas.List.Folds.{list_any-append}
use Rattle.rule_table.specs.declared.kind.Kind.{Kind}
use Rattle.rule_table.specs.declared.kind.Kind.TheVariants as kind
use Rattle.rule_table.specs.Kinds.{same_kind}
use Rattle.rule_table.specs.Pairs.{PairRow}
use Rattle.sorted_rows.specs.declared.kind_rows.KindRows.{KindRows}
use Rattle.sorted_rows.specs.declared.row.Row.{Row}
use Rattle.sorted_rows.specs.declared.sorted_rows.SortedRows.{SortedRows}
use Rattle.sorted_rows.specs.ByKey.{Sorts}
use Rattle.sorted_rows.specs.Rows.{AnswersBy, Holds, HoldsKind, SortsKind, holder_cmp, holder_of, id_cmp, kind_part, of_kind, pair_cmp, pair_of, row_value, trip_alone, vehicle_with}

-- empty lists
pub record NoneIn (l : KindRows) : Type 0 where
  pub vehicles : l.vehicles.items ≡ []
  pub lone_trips : l.lone_trips.items ≡ []
  pub pairs : l.pairs.items ≡ []
  pub keys : l.keys.items ≡ []

-- lists to which a row was added
pub record Added (l next : KindRows) (r : Row) : Type 0 where
  pub any : next.any ≡ true
  pub vehicles : next.vehicles.items ≡ l.vehicles.items ++ vehicle_with r.trip r.vehicle
  pub lone_trips : next.lone_trips.items ≡ l.lone_trips.items ++ trip_alone r.trip r.vehicle
  pub pairs : next.pairs.items ≡ l.pairs.items ++ pair_of r.trip r.vehicle
  pub keys : next.keys.items ≡ l.keys.items ++ holder_of r.key r.vehicle

module _ {E : Type 0} (k : Kind) (entries : Row → List E) (rs : List Row) (r : Row) where
  last_row : of_kind k entries (rs ++ r ∷ []) ≡ of_kind k entries rs ++ cond (same_kind r.kind k) (entries r) []
  last_row =
      flat_map-append (λ x. cond (same_kind x.kind k) (entries x) []) rs (r ∷ [])
      ∙ ap (λ xs. of_kind k entries rs ++ xs) (append-nil (cond (same_kind r.kind k) (entries r) []))

  row_more : (old new : List E) → old ≡ of_kind k entries rs → same_kind r.kind k ≡ true → new ≡ old ++ entries r → new ≡ of_kind k entries (rs ++ r ∷ [])
  row_more old new h same put = put ∙ ap (λ xs. xs ++ entries r) h ∙ sym (last_row ∙ ap (λ b. of_kind k entries rs ++ cond b (entries r) []) same)

  row_none : (old : List E) → old ≡ of_kind k entries rs → same_kind r.kind k ≡ false → old ≡ of_kind k entries (rs ++ r ∷ [])
  row_none old h other = h ∙ sym (last_row ∙ ap (λ b. of_kind k entries rs ++ cond b (entries r) []) other ∙ append-nil (of_kind k entries rs))

module _ (k : Kind) (rs : List Row) (r : Row) where
  any_more : list_any (λ x. same_kind x.kind k) (rs ++ r ∷ []) ≡ (list_any (λ x. same_kind x.kind k) rs || (same_kind r.kind k || false))
  any_more = list_any-append (λ x. same_kind x.kind k) rs (r ∷ [])

  pub held_more : (l next : KindRows) → HoldsKind k l rs → same_kind r.kind k ≡ true → Added l next r → HoldsKind k next (rs ++ r ∷ [])
  held_more l next h same a = record {
    any = a.any ∙ sym (any_more ∙ ap (λ b. list_any (λ x. same_kind x.kind k) rs || (b || false)) same ∙ last (list_any (λ x. same_kind x.kind k) rs));
    vehicles = row_more k (λ x. vehicle_with x.trip x.vehicle) rs r l.vehicles.items next.vehicles.items h.vehicles same a.vehicles;
    lone_trips = row_more k (λ x. trip_alone x.trip x.vehicle) rs r l.lone_trips.items next.lone_trips.items h.lone_trips same a.lone_trips;
    pairs = row_more k (λ x. pair_of x.trip x.vehicle) rs r l.pairs.items next.pairs.items h.pairs same a.pairs;
    keys = row_more k (λ x. holder_of x.key x.vehicle) rs r l.keys.items next.keys.items h.keys same a.keys;
  }
    where
      last : (b : Bool) → (b || true) ≡ true
      last true = refl
      last false = refl

  pub held_other : (l : KindRows) → HoldsKind k l rs → same_kind r.kind k ≡ false → HoldsKind k l (rs ++ r ∷ [])
  held_other l h other = record {
    any = h.any ∙ sym (any_more ∙ ap (λ b. list_any (λ x. same_kind x.kind k) rs || (b || false)) other ∙ same (list_any (λ x. same_kind x.kind k) rs));
    vehicles = row_none k (λ x. vehicle_with x.trip x.vehicle) rs r l.vehicles.items h.vehicles other;
    lone_trips = row_none k (λ x. trip_alone x.trip x.vehicle) rs r l.lone_trips.items h.lone_trips other;
    pairs = row_none k (λ x. pair_of x.trip x.vehicle) rs r l.pairs.items h.pairs other;
    keys = row_none k (λ x. holder_of x.key x.vehicle) rs r l.keys.items h.keys other;
  }
    where
      same : (b : Bool) → (b || false) ≡ b
      same true = refl
      same false = refl

pub values_more : (rs : List Row) (r : Row) (rows : List PairRow) → map row_value rs ≡ rows → map row_value (rs ++ r ∷ []) ≡ rows ++ row_value r ∷ []
values_more rs r rows h = map-append row_value rs (r ∷ []) ∙ ap (λ xs. xs ++ row_value r ∷ []) h

-- ---- put in order
pub record Ordered (l next : KindRows) : Type 0 where
  pub any : next.any ≡ l.any
  pub vehicles : Sorts id_cmp l.vehicles.items next.vehicles.items
  pub lone_trips : Sorts id_cmp l.lone_trips.items next.lone_trips.items
  pub pairs : Sorts pair_cmp l.pairs.items next.pairs.items
  pub keys : Sorts holder_cmp l.keys.items next.keys.items

pub kind_sorted : (k : Kind) (l next : KindRows) (rs : List Row) → HoldsKind k l rs → Ordered l next → SortsKind k next rs
kind_sorted k l next rs h o = record {
  any = o.any ∙ h.any;
  vehicles = subst (λ xs. Sorts id_cmp xs next.vehicles.items) h.vehicles o.vehicles;
  lone_trips = subst (λ xs. Sorts id_cmp xs next.lone_trips.items) h.lone_trips o.lone_trips;
  pairs = subst (λ xs. Sorts pair_cmp xs next.pairs.items) h.pairs o.pairs;
  keys = subst (λ xs. Sorts holder_cmp xs next.keys.items) h.keys o.keys;
}

-- ---- both kinds
pub none_held : (s : SortedRows) → s.updates.any ≡ false → s.vehicles.any ≡ false → NoneIn s.updates → NoneIn s.vehicles → Holds s []
none_held s u v us vs = record { from = []; are = refl; each = of }
  where
    of : (k : Kind) → HoldsKind k (kind_part k s) []
    of kind.TripUpdate = record { any = u; vehicles = us.vehicles; lone_trips = us.lone_trips; pairs = us.pairs; keys = us.keys }
    of kind.Vehicle = record { any = v; vehicles = vs.vehicles; lone_trips = vs.lone_trips; pairs = vs.pairs; keys = vs.keys }

module _ (s next : SortedRows) (rows : List PairRow) where
  pub update_more : (r : Row) → r.kind ≡ kind.TripUpdate → Added s.updates next.updates r → next.vehicles ≡ s.vehicles → Holds s rows → Holds next (rows ++ row_value r ∷ [])
  update_more r is a same h = record { from = h.from ++ r ∷ []; are = values_more h.from r rows h.are; each = of }
    where
      of : (k : Kind) → HoldsKind k (kind_part k next) (h.from ++ r ∷ [])
      of kind.TripUpdate = held_more kind.TripUpdate h.from r s.updates next.updates (h.each kind.TripUpdate) (ap (λ k. same_kind k kind.TripUpdate) is) a
      of kind.Vehicle = subst (λ l. HoldsKind kind.Vehicle l (h.from ++ r ∷ [])) (sym same) (held_other kind.Vehicle h.from r s.vehicles (h.each kind.Vehicle) (ap (λ k. same_kind k kind.Vehicle) is))

  pub vehicle_more : (r : Row) → r.kind ≡ kind.Vehicle → Added s.vehicles next.vehicles r → next.updates ≡ s.updates → Holds s rows → Holds next (rows ++ row_value r ∷ [])
  vehicle_more r is a same h = record { from = h.from ++ r ∷ []; are = values_more h.from r rows h.are; each = of }
    where
      of : (k : Kind) → HoldsKind k (kind_part k next) (h.from ++ r ∷ [])
      of kind.TripUpdate = subst (λ l. HoldsKind kind.TripUpdate l (h.from ++ r ∷ [])) (sym same) (held_other kind.TripUpdate h.from r s.updates (h.each kind.TripUpdate) (ap (λ k. same_kind k kind.TripUpdate) is))
      of kind.Vehicle = held_more kind.Vehicle h.from r s.vehicles next.vehicles (h.each kind.Vehicle) (ap (λ k. same_kind k kind.Vehicle) is) a

  pub both_sorted : Ordered s.updates next.updates → Ordered s.vehicles next.vehicles → Holds s rows → AnswersBy next rows
  both_sorted u v h = record { from = h.from; are = h.are; each = of }
    where
      of : (k : Kind) → SortsKind k (kind_part k next) h.from
      of kind.TripUpdate = kind_sorted kind.TripUpdate s.updates next.updates h.from (h.each kind.TripUpdate) u
      of kind.Vehicle = kind_sorted kind.Vehicle s.vehicles next.vehicles h.from (h.each kind.Vehicle) v
