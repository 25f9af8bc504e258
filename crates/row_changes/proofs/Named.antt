-- The keys of rows that give a changed id, and of whole kinds.
use Rattle.std.specs.Prelude.{◌≡◌, Bool, true, false, ◌&&◌, ◌||◌, List, refl}
use Rattle.std.specs.List.{list_any}
use Rattle.std.proofs.Common.{sym, ap, ◌∙◌}
use Rattle.rule_table.specs.declared.key.EntityKey.{EntityKey}
use Rattle.rule_table.specs.declared.kind.Kind.{Kind}
use Rattle.rule_table.specs.declared.kind.Kind.TheVariants.{TripUpdate, Vehicle}
use Rattle.rule_table.specs.Kinds.{same_kind}
use Rattle.rule_table.specs.Order.{same_key}
use Rattle.rule_table.specs.Pairs.{PairRow, is_of}
use Rattle.rule_table.proofs.SameTests.{any-same}
use Rattle.rule_history.specs.Changed.{other}
use Rattle.pairing_rules.proofs.Lists.{any-or}
use Rattle.row_changes.proofs.Lists.{any_false}

-- where a flag is set beside a test
flagged : (p : PairRow → Bool) (b : Bool) (rows : List PairRow) → (b && list_any p rows) ≡ list_any (λ r. b && p r) rows
flagged p true rows = refl
flagged p false rows = sym (any_false rows)

module _ (trip vehicle : PairRow → Bool) (turned : Kind → Bool) (key : EntityKey) (rows : List PairRow) where
  abbrev mine : PairRow → Bool
  mine r = same_key key r.key

  abbrev of-kind : Kind → PairRow → Bool
  of-kind k r = turned (other k) && (is_of k r && mine r)

  four : (a b m : Bool) (k : Kind) → (((a && m || b && m) || turned Vehicle && (same_kind k TripUpdate && m)) || turned TripUpdate && (same_kind k Vehicle && m)) ≡ (((a || b) || turned (other k)) && m)
  four a b m TripUpdate = each a b m (turned Vehicle) (turned TripUpdate)
    where
      each : (a b m t u : Bool) → (((a && m || b && m) || t && m) || u && false) ≡ (((a || b) || t) && m)
      each true b true t u = refl
      each true true false true true = refl
      each true true false true false = refl
      each true true false false true = refl
      each true true false false false = refl
      each true false false true true = refl
      each true false false true false = refl
      each true false false false true = refl
      each true false false false false = refl
      each false true true t u = refl
      each false true false true true = refl
      each false true false true false = refl
      each false true false false true = refl
      each false true false false false = refl
      each false false true true u = refl
      each false false true false true = refl
      each false false true false false = refl
      each false false false true true = refl
      each false false false true false = refl
      each false false false false true = refl
      each false false false false false = refl
  four a b m Vehicle = each a b m (turned Vehicle) (turned TripUpdate)
    where
      each : (a b m t u : Bool) → (((a && m || b && m) || t && false) || u && m) ≡ (((a || b) || u) && m)
      each true b true t u = refl
      each true true false true true = refl
      each true true false true false = refl
      each true true false false true = refl
      each true true false false false = refl
      each true false false true true = refl
      each true false false true false = refl
      each true false false false true = refl
      each true false false false false = refl
      each false true true t u = refl
      each false true false true true = refl
      each false true false true false = refl
      each false true false false true = refl
      each false true false false false = refl
      each false false true true u = refl
      each false false true false u = refl
      each false false false true true = refl
      each false false false true false = refl
      each false false false false true = refl
      each false false false false false = refl

  pub all-named : (((list_any (λ r. trip r && mine r) rows || list_any (λ r. vehicle r && mine r) rows) || turned Vehicle && list_any (λ r. is_of TripUpdate r && mine r) rows) || turned TripUpdate && list_any (λ r. is_of Vehicle r && mine r) rows)
      ≡ list_any (λ r. ((trip r || vehicle r) || turned (other r.kind)) && mine r) rows
  all-named =
      ap (λ b. (b || turned Vehicle && list_any (λ r. is_of TripUpdate r && mine r) rows) || turned TripUpdate && list_any (λ r. is_of Vehicle r && mine r) rows) (any-or (λ r. trip r && mine r) (λ r. vehicle r && mine r) rows)
      ∙ ap (λ b. (list_any (λ r. trip r && mine r || vehicle r && mine r) rows || b) || turned TripUpdate && list_any (λ r. is_of Vehicle r && mine r) rows) (flagged (λ r. is_of TripUpdate r && mine r) (turned Vehicle) rows)
      ∙ ap (λ b. b || turned TripUpdate && list_any (λ r. is_of Vehicle r && mine r) rows) (any-or (λ r. trip r && mine r || vehicle r && mine r) (λ r. turned Vehicle && (is_of TripUpdate r && mine r)) rows)
      ∙ ap (λ b. list_any (λ r. (trip r && mine r || vehicle r && mine r) || turned Vehicle && (is_of TripUpdate r && mine r)) rows || b) (flagged (λ r. is_of Vehicle r && mine r) (turned TripUpdate) rows)
      ∙ any-or (λ r. (trip r && mine r || vehicle r && mine r) || turned Vehicle && (is_of TripUpdate r && mine r)) (λ r. turned TripUpdate && (is_of Vehicle r && mine r)) rows
      ∙ any-same _ (λ r. ((trip r || vehicle r) || turned (other r.kind)) && mine r) (λ r. four (trip r) (vehicle r) (mine r) r.kind) rows
