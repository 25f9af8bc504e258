-- Peaks as they are held, against the maps that hold them.
use Rattle.std.specs.Prelude.{◌≡◌, ◌<◌, ◌≤◌, ℕ, zero, suc, Bool, true, false, ◌==◌, ◌&&◌, nat_le, List, [], ◌∷◌, length, map, Option, Some, cond, bytes_eq, String, refl}
use Rattle.std.specs.Ordering.{is_eq, nat_cmp}
use Rattle.std.specs.Cmp.Lexicographic.{slice_cmp}
use Rattle.std.specs.Map.{lookup}
use Rattle.std.specs.String.{string_bytes, string_cmp}
use Rattle.std.specs.BTreeMap.{BTreeMap, get_by_text, UpdatesBy}
use Rattle.std.specs.declared.alloc.Global.{Global}
use Rattle.std.proofs.Common.{ap, ◌∙◌, sym, arith, set, get_or, get_or-set_same, get_or-set_other}
use Rattle.std.proofs.lemmas.Bool.Decides.{nat_tests}
use Rattle.std.proofs.lemmas.List.{length-map, get_or-map}
use Rattle.std.proofs.lemmas.Slice.Eq.{bytes_eq-Decides}
use Rattle.std.proofs.lemmas.Map.Text.{btree_map_updates_text, is_eq-slice_cmp}
use Rattle.rule_table.specs.Peaks.{PeakMap, greater}
use Rattle.history_rules.specs.HeldPeaks.{peak_of, raised, ids_seen, seen}

-- ---- the vehicles of one feed
found_text : (v : List ℕ) (es : List (String Global × ℕ)) → lookup (bytes_eq v) (map (λ e. (string_bytes e.0, e.1)) es) ≡ lookup (λ k. is_eq (slice_cmp nat_cmp v (string_bytes k))) es
found_text v [] = refl
found_text v (e ∷ es) =
    ap (λ b. cond b (Some e.1) (lookup (bytes_eq v) (map (λ e. (string_bytes e.0, e.1)) es))) (sym (is_eq-slice_cmp v (string_bytes e.0)))
    ∙ ap (λ o. cond (is_eq (slice_cmp nat_cmp v (string_bytes e.0))) (Some e.1) o) (found_text v es)

-- with one timestamp more
pub vehicle_raised : (vehicle : List ℕ) (m n : BTreeMap (String Global) ℕ) (stamp peak : ℕ) → UpdatesBy string_cmp (λ k. slice_cmp nat_cmp vehicle (string_bytes k)) m n (Some peak) → Some peak ≡ greater (Some stamp) (get_by_text m vehicle)
    → (v : List ℕ) → get_by_text n v ≡ cond (bytes_eq vehicle v) (greater (Some stamp) (get_by_text m v)) (get_by_text m v)
vehicle_raised vehicle m n stamp peak u e v = btree_map_updates_text vehicle m n (Some peak) u v ∙ each (bytes_eq vehicle v) refl
  where
    each : (b : Bool) → bytes_eq vehicle v ≡ b → cond b (Some peak) (get_by_text m v) ≡ cond b (greater (Some stamp) (get_by_text m v)) (get_by_text m v)
    each true h = e ∙ ap (λ x. greater (Some stamp) (get_by_text m x)) ((bytes_eq-Decides vehicle v).0 h)
    each false h = refl

pub greater_stamp : (stamp peak : ℕ) → peak < stamp → Some stamp ≡ greater (Some stamp) (Some peak)
greater_stamp stamp peak l =
    let above : nat_le stamp peak ≡ false = grind (arith, nat_tests) in
    ap (λ b. let o : Option ℕ = Some (cond b peak stamp) in o) (sym above)

pub greater_peak : (stamp peak : ℕ) → stamp ≤ peak → Some peak ≡ greater (Some stamp) (Some peak)
greater_peak stamp peak l =
    let within : nat_le stamp peak ≡ true = grind (arith, nat_tests) in
    ap (λ b. let o : Option ℕ = Some (cond b peak stamp) in o) (sym within)

-- ---- the feeds
same_feed : (f g : ℕ) → (f == g) ≡ true → f ≡ g
same_feed f g h = grind (arith, nat_tests)

-- at the place of a feed
pub peak_at : (maps : List (BTreeMap (String Global) ℕ)) (feed : ℕ) (m : BTreeMap (String Global) ℕ) → feed < length maps → m ≡ get_or maps feed m
    → (v : List ℕ) → peak_of (seen maps) feed v ≡ get_by_text m v
peak_at maps feed m l e v = ap (λ xs. lookup (bytes_eq v) xs) (get_or-map ids_seen maps feed m [] l ∙ ap ids_seen (sym e)) ∙ found_text v m.entries

seen-set : (maps : List (BTreeMap (String Global) ℕ)) (i : ℕ) (m : BTreeMap (String Global) ℕ) → seen (set maps i m) ≡ set (seen maps) i (ids_seen m)
seen-set [] i m = refl
seen-set (x ∷ xs) zero m = refl
seen-set (x ∷ xs) (suc i) m = ap (λ ys. ids_seen x ∷ ys) (seen-set xs i m)

-- with another map in the place of a feed
pub peak_set : (maps : List (BTreeMap (String Global) ℕ)) (feed : ℕ) (m : BTreeMap (String Global) ℕ) → feed < length maps
    → (f : ℕ) (v : List ℕ) → peak_of (seen (set maps feed m)) f v ≡ cond (feed == f) (get_by_text m v) (peak_of (seen maps) f v)
peak_set maps feed m l f v = ap (λ h. peak_of h f v) (seen-set maps feed m) ∙ each (feed == f) refl
  where
    within : feed < length (seen maps)
    within = rw (length-map maps ids_seen) l

    each : (b : Bool) → (feed == f) ≡ b → peak_of (set (seen maps) feed (ids_seen m)) f v ≡ cond b (get_by_text m v) (peak_of (seen maps) f v)
    each true h = ap (λ x. peak_of (set (seen maps) feed (ids_seen m)) x v) (sym (same_feed feed f h)) ∙ ap (λ xs. lookup (bytes_eq v) xs) (get_or-set_same (seen maps) feed (ids_seen m) [] within) ∙ found_text v m.entries
    each false h = ap (λ xs. lookup (bytes_eq v) xs) (get_or-set_other (seen maps) feed f (ids_seen m) [] (λ e. grind (arith, nat_tests)))

module _ (old : PeakMap) (maps : List (BTreeMap (String Global) ℕ)) (same : (f : ℕ) (v : List ℕ) → peak_of (seen maps) f v ≡ old f v) (feed : ℕ) (m n : BTreeMap (String Global) ℕ) (l : feed < length maps) (e : m ≡ get_or maps feed m) where
  at_feed : (f : ℕ) (v : List ℕ) → (feed == f) ≡ true → get_by_text m v ≡ old f v
  at_feed f v h = sym (peak_at maps feed m l e v) ∙ same feed v ∙ ap (λ x. old x v) (same_feed feed f h)

  -- with one timestamp more
  pub feed_raised : (vehicle : List ℕ) (stamp : ℕ) → ((v : List ℕ) → get_by_text n v ≡ cond (bytes_eq vehicle v) (greater (Some stamp) (get_by_text m v)) (get_by_text m v))
      → (f : ℕ) (v : List ℕ) → peak_of (seen (set maps feed n)) f v ≡ raised old feed vehicle stamp f v
  feed_raised vehicle stamp u f v = peak_set maps feed n l f v ∙ each (feed == f) refl
    where
      each : (b : Bool) → (feed == f) ≡ b → cond b (get_by_text n v) (peak_of (seen maps) f v) ≡ cond (b && bytes_eq vehicle v) (greater (Some stamp) (old f v)) (old f v)
      each true h = u v ∙ ap (λ o. cond (bytes_eq vehicle v) (greater (Some stamp) o) o) (at_feed f v h)
      each false h = same f v

  -- with equal peaks
  pub feed_kept : ((v : List ℕ) → get_by_text n v ≡ get_by_text m v) → (f : ℕ) (v : List ℕ) → peak_of (seen (set maps feed n)) f v ≡ old f v
  feed_kept u f v = peak_set maps feed n l f v ∙ each (feed == f) refl
    where
      each : (b : Bool) → (feed == f) ≡ b → cond b (get_by_text n v) (peak_of (seen maps) f v) ≡ old f v
      each true h = u v ∙ at_feed f v h
      each false h = same f v
