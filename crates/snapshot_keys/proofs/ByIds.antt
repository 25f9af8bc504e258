-- Rows by the ids that bytes give are those of the entity, and keys that compare alike have one id.
use Rattle.std.proofs.Common.{◌≡◌, ◌++◌, List, Some, None, refl, ap, sym, ◌∙◌, subst}
use Rattle.std.specs.Prelude.{option_map}
use Rattle.std.specs.Ordering.{is_eq}
use Rattle.std.specs.declared.cmp.Ordering.TheVariants as order
use Rattle.std.specs.declared.option.Option.{Option}
use Rattle.std.proofs.lemmas.List.{append_assoc}
use Rattle.feed_values.specs.Schema.{Value}
use Rattle.feed_values.specs.Messages.{entity, trip_update, vehicle_position}
use Rattle.rule_table.specs.declared.key.EntityKey.{EntityKey}
use Rattle.rule_table.specs.declared.kind.Kind.TheVariants as kind
use Rattle.rule_table.specs.Judged.{update_of}
use Rattle.rule_table.specs.Order.{key_cmp}
use Rattle.rule_table.specs.Pairs.{GivenIds, PairRow, of_update, of_vehicle, rows_of, update_rows, vehicle_of, vehicle_rows}
use Rattle.rule_table.proofs.SameKeys.{key_is, same-key}
use Rattle.sorted_rows.specs.declared.sorted_rows.SortedRows.{SortedRows}
use Rattle.sorted_rows.specs.Rows.{Holds}
use Rattle.snapshot_keys.specs.Rowed.{given_rows}

pub same_id : (k l : EntityKey) → key_cmp k l ≡ order.Equal → l.id ≡ k.id
same_id k l h = ap (λ x. x.id) (sym (key_is k l (sym (same-key k l) ∙ ap is_eq h)))

rows_of_update : (key : EntityKey) (u : Option (Value trip_update)) → given_rows kind.TripUpdate key (option_map of_update u) ≡ update_rows key u
rows_of_update key None = refl
rows_of_update key (Some u) = refl

rows_of_vehicle : (key : EntityKey) (v : Option (Value vehicle_position)) → given_rows kind.Vehicle key (option_map of_vehicle v) ≡ vehicle_rows key v
rows_of_vehicle key None = refl
rows_of_vehicle key (Some v) = refl

-- the rows of an entity more
pub entity_more : (key : EntityKey) (e : Value entity) (before : List PairRow) (update vehicle : Option GivenIds) (next : SortedRows) → update ≡ option_map of_update (update_of e) → vehicle ≡ option_map of_vehicle (vehicle_of e)
    → Holds next ((before ++ given_rows kind.TripUpdate key update) ++ given_rows kind.Vehicle key vehicle) → Holds next (before ++ rows_of key e)
entity_more key e before update vehicle next u v h =
    subst (Holds next)
    (append_assoc before (given_rows kind.TripUpdate key update) (given_rows kind.Vehicle key vehicle)
    ∙ ap (λ xs. before ++ (xs ++ given_rows kind.Vehicle key vehicle)) (ap (given_rows kind.TripUpdate key) u ∙ rows_of_update key (update_of e))
    ∙ ap (λ xs. before ++ (update_rows key (update_of e) ++ xs)) (ap (given_rows kind.Vehicle key) v ∙ rows_of_vehicle key (vehicle_of e)))
    h

-- ---- entity by entity
-- the rows that were put in, and those that are left, are all
pub record SoFar (s : SortedRows) (left all : List PairRow) : Type 0 where
  pub done : List PairRow
  pub held : Holds s done
  pub are : done ++ left ≡ all

pub so_far_next : (s next : SortedRows) (rows left rest all : List PairRow) (f : SoFar s left all) → left ≡ rows ++ rest → ((before : List PairRow) → Holds s before → Holds next (before ++ rows)) → SoFar next rest all
so_far_next s next rows left rest all f first put = record {
  done = f.done ++ rows;
  held = put f.done f.held;
  are = append_assoc f.done rows rest ∙ ap (λ xs. f.done ++ xs) (sym first) ∙ f.are;
}
