-- The row of a message in the place of another one.
use Rattle.std.specs.Prelude.{◌≡◌, Bool, true, false, not, ◌&&◌, ◌||◌, Option, Some, None, option_and_then, refl}
use Rattle.std.proofs.Common.{sym, ap, ◌∙◌}
use Rattle.std.proofs.Math.Bool.{and-false, or-false}
use Rattle.feed_values.specs.Schema.{Value}
use Rattle.feed_values.specs.Messages.{entity}
use Rattle.rule_table.specs.declared.key.EntityKey.{EntityKey}
use Rattle.rule_table.specs.declared.kind.Kind.{Kind}
use Rattle.rule_table.specs.declared.kind.Kind.TheVariants.{TripUpdate, Vehicle}
use Rattle.rule_table.specs.Kinds.{same_kind}
use Rattle.rule_table.specs.Order.{same_key}
use Rattle.rule_table.specs.Ids.{update_ids, vehicle_ids}
use Rattle.rule_table.specs.Pairs.{PairRow, GivenIds, same_id, same_row, has_row, row_with}
use Rattle.rule_table.proofs.SameTests.{row_is, id_is}
use Rattle.row_changes.specs.Given.{rows_under, id_rows}
use Rattle.row_changes.specs.Ids.{are_same}
use Rattle.row_changes.specs.Updated.{exchanged}
use Rattle.row_changes.proofs.EntityRows.{has-split, ids-there, is_mine, not-mine}

ids_are : (a b : GivenIds) → (same_id a.trip b.trip && same_id a.vehicle b.vehicle) ≡ true → a ≡ b
ids_are a b h = make (id_is a.trip b.trip (first (same_id a.trip b.trip) (same_id a.vehicle b.vehicle) h)) (id_is a.vehicle b.vehicle (second (same_id a.trip b.trip) (same_id a.vehicle b.vehicle) h))
  where
    first : (x y : Bool) → (x && y) ≡ true → x ≡ true
    first true y h = refl
    first false y h = cc

    second : (x y : Bool) → (x && y) ≡ true → y ≡ true
    second true y h = h
    second false y h = cc

    make : a.trip ≡ b.trip → a.vehicle ≡ b.vehicle → a ≡ b
    make t v = ap (λ x. let z : GivenIds = record { trip = x; vehicle = a.vehicle } in z) t ∙ ap (λ x. let z : GivenIds = record { trip = b.trip; vehicle = x } in z) v

same_are : (o n : Option GivenIds) → are_same o n ≡ true → o ≡ n
same_are None None h = refl
same_are None (Some n) h = cc
same_are (Some o) None h = cc
same_are (Some o) (Some n) h = ap Some (ids_are o n h)

pub exchanged-same : (a h : Bool) → exchanged a a h ≡ h
exchanged-same true true = refl
exchanged-same true false = refl
exchanged-same false true = refl
exchanged-same false false = refl

-- where what was is what was held
pub exchanged-all : (was now : Bool) → exchanged was now was ≡ now
exchanged-all true true = refl
exchanged-all true false = refl
exchanged-all false true = refl
exchanged-all false false = refl

-- one after the other, where one of them changes nothing
two-left : (a b c d h : Bool) → c ≡ false → d ≡ false → exchanged c d (exchanged a b h) ≡ exchanged (a || c) (b || d) h
two-left a b true d h p q = cc
two-left a b false true h p q = cc
two-left true true false false true p q = refl
two-left true true false false false p q = refl
two-left true false false false true p q = refl
two-left true false false false false p q = refl
two-left false true false false true p q = refl
two-left false true false false false p q = refl
two-left false false false false true p q = refl
two-left false false false false false p q = refl

two-right : (a b c d h : Bool) → a ≡ false → b ≡ false → exchanged c d (exchanged a b h) ≡ exchanged (a || c) (b || d) h
two-right true b c d h p q = cc
two-right false true c d h p q = cc
two-right false false true true true p q = refl
two-right false false true true false p q = refl
two-right false false true false true p q = refl
two-right false false true false false p q = refl
two-right false false false true true p q = refl
two-right false false false true false p q = refl
two-right false false false false true p q = refl
two-right false false false false false p q = refl

module _ (kind : Kind) (key : EntityKey) (r : PairRow) where
  -- no row is of messages with other ids
  not-both : (p q : Option GivenIds) → are_same p q ≡ false → has_row (id_rows kind key p) r ≡ true → has_row (id_rows kind key q) r ≡ false
  not-both None q f h = cc
  not-both (Some p) q f h = ap (has_row (id_rows kind key q)) (row_is r (row_with kind key p) (sym (or-false (same_row r (row_with kind key p))) ∙ h)) ∙ ids-there kind key p q ∙ f

  module _ (o n : Option GivenIds) where
    abbrev was : Bool
    was = has_row (id_rows kind key o) r

    abbrev now : Bool
    now = has_row (id_rows kind key n) r

    -- where both give the same ids
    pub row-stays : (had : Bool) → are_same o n ≡ true → had ≡ exchanged was now had
    row-stays had same = sym (ap (λ x. exchanged (has_row (id_rows kind key x) r) now had) (same_are o n same) ∙ exchanged-same now had)

    -- where one is taken out and the other put in
    pub row-moves : (had mid has : Bool) → are_same o n ≡ false → mid ≡ (not was && had) → has ≡ (now || mid) → has ≡ exchanged was now had
    row-moves had mid has other out «in» = «in» ∙ ap (λ b. now || b) out ∙ each was now refl refl
      where
        kept : (b h : Bool) → (b || h) ≡ (b && true || h && true)
        kept true h = refl
        kept false true = refl
        kept false false = refl

        each : (a b : Bool) → was ≡ a → now ≡ b → (b || not a && had) ≡ exchanged a b had
        each true true e f = let z : now ≡ false = not-both o n other e in cc
        each true false e f = sym (and-false had)
        each false b e f = kept b had

-- ---- both rows of an entity
module _ (key : EntityKey) (o : Option (Value entity)) (r : PairRow) where
  other-kind : (kind : Kind) → same_kind r.kind kind ≡ false → is_mine kind key r ≡ false
  other-kind kind h = ap (λ b. same_key key r.key && b) h ∙ and-false (same_key key r.key)

  -- a row of a kind is there where it is among those of the kind
  pub update-alone : r.kind ≡ TripUpdate → has_row (rows_under key o) r ≡ has_row (id_rows TripUpdate key (option_and_then update_ids o)) r
  update-alone k =
      has-split key o r ∙ ap (λ b. has_row (id_rows TripUpdate key (option_and_then update_ids o)) r || b) (not-mine Vehicle key (option_and_then vehicle_ids o) r (other-kind Vehicle (ap (λ x. same_kind x Vehicle) k)))
      ∙ or-false (has_row (id_rows TripUpdate key (option_and_then update_ids o)) r)

  pub vehicle-alone : r.kind ≡ Vehicle → has_row (rows_under key o) r ≡ has_row (id_rows Vehicle key (option_and_then vehicle_ids o)) r
  vehicle-alone k =
      has-split key o r ∙ ap (λ b. b || has_row (id_rows Vehicle key (option_and_then vehicle_ids o)) r) (not-mine TripUpdate key (option_and_then update_ids o) r (other-kind TripUpdate (ap (λ x. same_kind x TripUpdate) k)))

  -- and none of the other kind
  pub no-vehicle : r.kind ≡ TripUpdate → has_row (id_rows Vehicle key (option_and_then vehicle_ids o)) r ≡ false
  no-vehicle k = not-mine Vehicle key (option_and_then vehicle_ids o) r (other-kind Vehicle (ap (λ x. same_kind x Vehicle) k))

  pub no-update : r.kind ≡ Vehicle → has_row (id_rows TripUpdate key (option_and_then update_ids o)) r ≡ false
  no-update k = not-mine TripUpdate key (option_and_then update_ids o) r (other-kind TripUpdate (ap (λ x. same_kind x TripUpdate) k))

module _ (key : EntityKey) (o n : Option (Value entity)) (r : PairRow) where
  abbrev pub of : Kind → Option (Value entity) → Bool
  of TripUpdate e = has_row (id_rows TripUpdate key (option_and_then update_ids e)) r
  of Vehicle e = has_row (id_rows Vehicle key (option_and_then vehicle_ids e)) r

  pub both-moved : (had mid has : Bool) → mid ≡ exchanged (of TripUpdate o) (of TripUpdate n) had → has ≡ exchanged (of Vehicle o) (of Vehicle n) mid → has ≡ exchanged (has_row (rows_under key o) r) (has_row (rows_under key n) r) had
  both-moved had mid has m h =
      h ∙ ap (exchanged (of Vehicle o) (of Vehicle n)) m ∙ each r.kind refl ∙ ap (λ b. exchanged b (of TripUpdate n || of Vehicle n) had) (sym (has-split key o r)) ∙ ap (λ b. exchanged (has_row (rows_under key o) r) b had) (sym (has-split key n r))
    where
      each : (k : Kind) → r.kind ≡ k → exchanged (of Vehicle o) (of Vehicle n) (exchanged (of TripUpdate o) (of TripUpdate n) had) ≡ exchanged (of TripUpdate o || of Vehicle o) (of TripUpdate n || of Vehicle n) had
      each TripUpdate k = two-left (of TripUpdate o) (of TripUpdate n) (of Vehicle o) (of Vehicle n) had (no-vehicle key o r k) (no-vehicle key n r k)
      each Vehicle k = two-right (of TripUpdate o) (of TripUpdate n) (of Vehicle o) (of Vehicle n) had (no-update key o r k) (no-update key n r k)
