-- Peaks over one more snapshot.
use Rattle.std.specs.Prelude.{◌≡◌, ℕ, ◌==◌, ◌&&◌, not, Bool, true, false, cond, List, [], ◌∷◌, Option, Some, None, refl}
use Rattle.std.specs.List.{flat_map}
use Rattle.std.proofs.Common.{sym, ◌∙◌, ap, subst, eq-eqb}
use Rattle.std.proofs.lemmas.Bool.{not-false}
use Rattle.std.proofs.lemmas.Option.{same_Some}
use borrow.Author.Tests.{eqb-true}
use Rattle.feed_values.specs.Snapshot.{entity_of}
use Rattle.rule_table.specs.Peaks.{SamePeak, greatest, vehicle_id_of}
use Rattle.rule_history.specs.History.{Snapshot, recent, first_of, now}
use Rattle.rule_history.specs.Peaks.{FeedPeaks, all_but_first, stamps_in, peak, raised_by}
use Rattle.rule_history.specs.Changed.{with, same_natural, has_moved}
use Rattle.rule_history.proofs.Greater.{greatest_append}
use Rattle.engine_laws.specs.Laws.{PeaksRaise, PeakingStays}
use Rattle.engine_laws.proofs.Longer.{recent-more}

-- the peak of a feed whose last snapshots are these
abbrev peak_of : List Snapshot → FeedPeaks
peak_of snapshots vehicle = greatest (flat_map (stamps_in vehicle) (all_but_first snapshots))

-- with all of them before another one
all_before : (vehicle : List ℕ) (snapshots : List Snapshot) → greatest (flat_map (stamps_in vehicle) snapshots) ≡ raised_by (first_of snapshots) (peak_of snapshots) vehicle
all_before vehicle [] = refl
all_before vehicle (x ∷ xs) = greatest_append (stamps_in vehicle x) (flat_map (stamps_in vehicle) xs)

pub peaks_raise : PeaksRaise
peaks_raise g s f vehicle =
    ap (λ xs. greatest (flat_map (stamps_in vehicle) (all_but_first xs))) (recent-more g s f) ∙
    elim (s.feed == f) as (λ b. greatest (flat_map (stamps_in vehicle) (all_but_first (cond b (s ∷ recent g f) (recent g f)))) ≡ cond b (raised_by (now g f) (peak g f) vehicle) (peak g f vehicle)) [
      | true ↦ all_before vehicle (recent g f)
      | false ↦ refl
    ]

pub raised_same : (last : Option Snapshot) (u v : FeedPeaks) (vehicle : List ℕ) → u vehicle ≡ v vehicle → raised_by last u vehicle ≡ raised_by last v vehicle
raised_same None u v vehicle h = h
raised_same (Some s) u v vehicle h = cc

-- ---- an entity whose vehicle's peak is the same
same_is : (a b : Option ℕ) → not (same_natural a b) ≡ false → a ≡ b
same_is None None h = refl
same_is None (Some b) h = cc
same_is (Some a) None h = cc
same_is (Some a) (Some b) h = ap (λ (n : ℕ). Some n) (eqb-true a b (not-false (a == b) h))

pub not_moved : (u v : FeedPeaks) (given : Option (List ℕ)) → has_moved u v given ≡ false → (vehicle : List ℕ) → given ≡ Some vehicle → u vehicle ≡ v vehicle
not_moved u v None h vehicle is = cc
not_moved u v (Some w) h vehicle is = subst (λ x. u x ≡ v x) (same_Some w vehicle is) (same_is (u w) (v w) h)

pub peaking_stays : PeakingStays
peaking_stays find same g s e out = same (peak g) (peak (with g s)) e.0 (entity_of e.1) (λ vehicle is. go vehicle is)
  where
    go : SamePeak (peak g) (peak (with g s)) e.0 (entity_of e.1)
    go vehicle is =
        elim (s.feed == e.0.feed) as (λ b. (s.feed == e.0.feed) ≡ b → peak g e.0.feed vehicle ≡ peak (with g s) e.0.feed vehicle) [
          | true ↦ λ q.
              let at : s.feed ≡ e.0.feed = eqb-true s.feed e.0.feed q in
              subst (λ f. peak g f vehicle ≡ peak (with g s) f vehicle) at
              (not_moved (peak g s.feed) (peak (with g s) s.feed) (vehicle_id_of (entity_of e.1)) (second (e.0.feed == s.feed) _ (ap (λ f. e.0.feed == f) at ∙ self e.0.feed) out) vehicle is)
          | false ↦ λ q. sym (peaks_raise g s e.0.feed vehicle ∙ ap (λ b. cond b (raised_by (now g e.0.feed) (peak g e.0.feed) vehicle) (peak g e.0.feed vehicle)) q)
        ] refl
      where
        second : (a b : Bool) → a ≡ true → (a && b) ≡ false → b ≡ false
        second a b h k = cc

        self : (n : ℕ) → (n == n) ≡ true
        self n = eq-eqb n n refl
