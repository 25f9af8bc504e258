-- The peaks of a feed raised to timestamps, one after the other.
use Rattle.std.specs.Prelude.{◌≡◌, ℕ, ◌==◌, ◌&&◌, Bool, true, false, cond, List, [], ◌∷◌, map, Some, None, bytes_eq, String, refl}
use Rattle.std.specs.BTreeMap.{BTreeMap, get_by_text}
use Rattle.std.specs.List.{AllByRecursion}
use Rattle.std.specs.List.Sorted.{IsStrictlySortedBy}
use Rattle.std.specs.Map.{keys_of}
use Rattle.std.specs.Ordering.{is_eq}
use Rattle.std.specs.String.{string_bytes, string_cmp}
use Rattle.std.specs.declared.alloc.Global.{Global}
use Rattle.std.specs.declared.cmp.Ordering.TheVariants.{Less}
use Rattle.std.proofs.Common.{◌∙◌, ap, sym, arith}
use Rattle.std.proofs.lemmas.Map.Text.{is_eq-slice_cmp}
use Rattle.std.proofs.lemmas.Slice.Eq.{bytes_eq-Decides}
use Rattle.rule_table.specs.Peaks.{PeakMap, greater}
use Rattle.rule_table.proofs.SameTests.{text-symm}
use Rattle.history_rules.specs.HeldPeaks.{ids_seen, raised}
use Rattle.history_rules.proofs.HeldPeaks.{peak_at}
use Rattle.vehicle_peaks.specs.Rises.{RisesById, rise_of, with_rises}

abbrev pub Entries : Type 0
Entries = List (String Global × ℕ)

abbrev pub by_id : Entries → RisesById
by_id es = map (λ e. (string_bytes e.0, e.1)) es

-- in a map that holds them
pub rise-at : (m : BTreeMap (String Global) ℕ) (v : List ℕ) → rise_of (ids_seen m) v ≡ get_by_text m v
rise-at m v = peak_at (m ∷ []) 0 m (omega arith) refl v

-- a vehicle before all others is none of them
none_later : (k : String Global) (es : Entries) → AllByRecursion (λ y. string_cmp k y ≡ Less) (keys_of es) → rise_of (by_id es) (string_bytes k) ≡ None
none_later k [] h = refl
none_later k (e ∷ es) h =
    ap (λ b. cond b (Some e.1) (rise_of (by_id es) (string_bytes k))) (sym (is_eq-slice_cmp (string_bytes k) (string_bytes e.0)) ∙ ap is_eq h.0) ∙ none_later k es h.1

-- entries that are left, in order
abbrev pub AreInOrder : Entries → Type 0
AreInOrder es = IsStrictlySortedBy string_cmp (keys_of es)

order_more : (k : String Global) (stamp : ℕ) (rest : Entries) → AreInOrder ((k, stamp) ∷ rest) → AllByRecursion (λ y. string_cmp k y ≡ Less) (keys_of rest) × AreInOrder rest
unfolding IsStrictlySortedBy
order_more k stamp rest h = h

-- one timestamp less to go
pub order_rest : (k : String Global) (stamp : ℕ) (rest : Entries) → AreInOrder ((k, stamp) ∷ rest) → AreInOrder rest
order_rest k stamp rest h = (order_more k stamp rest h).1

pub raised_more : (feed stamp : ℕ) (k : String Global) (id : List ℕ) (rest : Entries) (old new : PeakMap) → AreInOrder ((k, stamp) ∷ rest) → id ≡ string_bytes k → ((f : ℕ) (v : List ℕ) → new f v ≡ raised old feed id stamp f v) →
    (f : ℕ) (v : List ℕ) → with_rises (by_id rest) feed new f v ≡ with_rises (by_id ((k, stamp) ∷ rest)) feed old f v
raised_more feed stamp k id rest old new sorted name is f v = each (feed == f) (is f v ∙ ap (λ bs. raised old feed bs stamp f v) name)
  where
    less : AllByRecursion (λ y. string_cmp k y ≡ Less) (keys_of rest)
    less = (order_more k stamp rest sorted).0

    here : (b : Bool) → bytes_eq v (string_bytes k) ≡ b → greater (rise_of (by_id rest) v) (cond b (greater (Some stamp) (old f v)) (old f v)) ≡ greater (cond b (Some stamp) (rise_of (by_id rest) v)) (old f v)
    here true h = ap (λ o. greater o (greater (Some stamp) (old f v))) (ap (rise_of (by_id rest)) ((bytes_eq-Decides v (string_bytes k)).0 h) ∙ none_later k rest less)
    here false h = refl

    each : (b : Bool) → new f v ≡ cond (b && bytes_eq (string_bytes k) v) (greater (Some stamp) (old f v)) (old f v)
        → cond b (greater (rise_of (by_id rest) v) (new f v)) (new f v) ≡ cond b (greater (cond (bytes_eq v (string_bytes k)) (Some stamp) (rise_of (by_id rest) v)) (old f v)) (old f v)
    each true h =
        ap (greater (rise_of (by_id rest) v)) (h ∙ ap (λ b. cond b (greater (Some stamp) (old f v)) (old f v)) (text-symm (string_bytes k) v)) ∙ here (bytes_eq v (string_bytes k)) refl
    each false h = h
