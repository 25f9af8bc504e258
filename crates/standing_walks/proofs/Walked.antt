-- One finding more of a walk.
use Rattle.std.specs.Prelude.{◌≡◌, ℕ, ◌+◌, ◌<◌, Bool, true, false, cond, List, [], ◌∷◌, ◌++◌, drop, length, get_or, Option, Some, None, option_map, unwrap_or, is_some, option_copied, refl}
use denote.Ref.{Bor}
use Rattle.std.specs.Ordering.{match_ordering}
use Rattle.std.specs.declared.cmp.Ordering.TheVariants.{Less, Equal, Greater}
use Rattle.std.proofs.Common.{◌∙◌, ap, sym, subst, append_assoc}
use Rattle.std.proofs.lemmas.List.{drop_more}
use Rattle.rule_table.specs.Found.{Found}
use Rattle.rule_history.specs.Standing.{Standing, Spot, opened, closed}
use Rattle.engine_laws.specs.Order.{found_cmp, Rises}
use Rattle.engine_laws.specs.Standings.{findings_of, renewed}
use Rattle.engine_laws.proofs.Since.{findings-renewed}
use Rattle.engine_laws.proofs.Walk.{walk_renews, walk_opens, walk_closes}
use Rattle.standing_walks.specs.Changes.{spot_of}
use Rattle.standing_walks.specs.Walked.{met, after, was_same}

-- what is left of a list in order is in order
pub after_rises : (f : Found) (xs : List Standing) → Rises found_cmp (findings_of xs) → Rises found_cmp (findings_of (after f xs))
after_rises f [] h = tt
after_rises f (x ∷ xs) h =
    elim (found_cmp x.finding f) as (λ o. Rises found_cmp (findings_of (match_ordering o (after f xs) xs (x ∷ xs)))) [
      | Less ↦ after_rises f xs h.1
      | Equal ↦ h.1
      | Greater ↦ h
    ]

abbrev pub since_met : ℕ → Option Standing → ℕ
since_met n o = unwrap_or (option_map (λ x. x.since) o) n

pub renew_one : (n : ℕ) (f : Found) (fs : List Found) (xs : List Standing) → Rises found_cmp (f ∷ fs) → Rises found_cmp (findings_of xs) →
    renewed xs n (f ∷ fs) ≡ record { finding = f; since = since_met n (met f xs) } ∷ renewed (after f xs) n fs
renew_one n f fs [] up old = refl
renew_one n f fs (x ∷ xs) up old =
    elim (found_cmp x.finding f) as (λ o. found_cmp x.finding f ≡ o → renewed (x ∷ xs) n (f ∷ fs)
    ≡ (let s : Standing = record { finding = f; since = since_met n (match_ordering o (met f xs) (Some x) None) } in s) ∷ renewed (match_ordering o (after f xs) xs (x ∷ xs)) n fs) [
      | Less ↦ λ l. walk_renews.passed x xs n f fs up l ∙ renew_one n f fs xs up old.1
      | Equal ↦ λ e. walk_renews.met x xs n f fs up e
      | Greater ↦ λ g. walk_renews.new x xs n f fs old g
    ] refl

pub open_one : (x : Standing) (now : List Standing) (xs : List Standing) → Rises found_cmp (findings_of (x ∷ now)) → Rises found_cmp (findings_of xs) →
    opened (findings_of xs) (x ∷ now) ≡ cond (was_same x.finding (met x.finding xs)) (opened (findings_of (after x.finding xs)) now) (x ∷ opened (findings_of (after x.finding xs)) now)
open_one x now [] up old = refl
open_one x now (y ∷ xs) up old =
    elim (found_cmp y.finding x.finding) as (λ o. found_cmp y.finding x.finding ≡ o → opened (findings_of (y ∷ xs)) (x ∷ now)
    ≡ cond (was_same x.finding (match_ordering o (met x.finding xs) (Some y) None)) (opened (findings_of (match_ordering o (after x.finding xs) xs (y ∷ xs))) now) (x ∷ opened (findings_of (match_ordering o (after x.finding xs) xs (y ∷ xs))) now)) [
      | Less ↦ λ l. walk_opens.passed y.finding (findings_of xs) x now up l ∙ open_one x now xs up old.1
      | Equal ↦ λ e. walk_opens.met y.finding (findings_of xs) x now old up e
      | Greater ↦ λ g. walk_opens.new y.finding (findings_of xs) x now old g
    ] refl

pub close_one : (f : Found) (before : List Found) (xs : List Standing) → Rises found_cmp (f ∷ before) → Rises found_cmp (findings_of xs) →
    closed (f ∷ before) (findings_of xs) ≡ cond (is_some (met f xs)) (closed before (findings_of (after f xs))) (spot_of f ∷ closed before (findings_of (after f xs)))
close_one f before [] up old = refl
close_one f before (y ∷ xs) up old =
    elim (found_cmp y.finding f) as (λ o. found_cmp y.finding f ≡ o → closed (f ∷ before) (findings_of (y ∷ xs))
    ≡ cond (is_some (match_ordering o (met f xs) (Some y) None)) (closed before (findings_of (match_ordering o (after f xs) xs (y ∷ xs)))) (spot_of f ∷ closed before (findings_of (match_ordering o (after f xs) xs (y ∷ xs))))) [
      | Less ↦ λ l. walk_closes.passed f before y.finding (findings_of xs) up l ∙ close_one f before xs up old.1
      | Equal ↦ λ e. walk_closes.met f before y.finding (findings_of xs) up e
      | Greater ↦ λ g. walk_closes.gone f before y.finding (findings_of xs) old g
    ] refl

-- a list renewed is in order where what was found is
pub renewed_rises : (old : List Standing) (n : ℕ) (fs : List Found) → Rises found_cmp fs → Rises found_cmp (findings_of (renewed old n fs))
renewed_rises old n fs h = subst (λ (xs : List Found). Rises found_cmp xs) (sym (findings-renewed old n fs)) h

-- ---- steps of the loops
module _ (n : ℕ) (old : List Standing) (at next : ℕ) (f : Found) (fs rest : List Found) (list list' all : List Standing) (m : Option Standing) (since : ℕ) where
  pub renew_step : Rises found_cmp rest → Rises found_cmp (findings_of (drop at old)) → rest ≡ f ∷ fs → m ≡ met f (drop at old) → drop next old ≡ after f (drop at old) → since ≡ since_met n m →
      list' ≡ list ++ record { finding = f; since = since } ∷ [] → list ++ renewed (drop at old) n rest ≡ all → list' ++ renewed (drop next old) n fs ≡ all
  renew_step up low e h k z put before =
      ap (λ xs. xs ++ renewed (drop next old) n fs) put
      ∙ append_assoc list (record { finding = f; since = since } ∷ []) (renewed (drop next old) n fs)
      ∙ ap (λ v. list ++ record { finding = f; since = v } ∷ renewed (drop next old) n fs) (z ∙ ap (since_met n) h)
      ∙ ap (λ xs. list ++ record { finding = f; since = since_met n (met f (drop at old)) } ∷ renewed xs n fs) k
      ∙ ap (λ xs. list ++ xs) (sym (renew_one n f fs (drop at old) (subst (λ (xs : List Found). Rises found_cmp xs) e up) low) ∙ ap (renewed (drop at old) n) (sym e))
      ∙ before

pub left_rises : (old : List Standing) (at next : ℕ) (f : Found) → Rises found_cmp (findings_of (drop at old)) → drop next old ≡ after f (drop at old) → Rises found_cmp (findings_of (drop next old))
left_rises old at next f h k = subst (λ xs. Rises found_cmp (findings_of xs)) (sym k) (after_rises f (drop at old) h)

module _ (xs : List Standing) (i : ℕ) (x : Standing) (l : i < length xs) (is : x ≡ get_or xs i x) where
  pub left_more : drop i xs ≡ x ∷ drop (i + 1) xs
  left_more = drop_more xs i x l ∙ ap (λ y. y ∷ drop (i + 1) xs) (sym is)

  pub rest_rises : Rises found_cmp (findings_of (drop i xs)) → Rises found_cmp (findings_of (drop (i + 1) xs))
  rest_rises h = (subst (λ ys. Rises found_cmp (findings_of ys)) left_more h).1

pub open_step : (before : List Standing) (at next : ℕ) (now : List Standing) (i : ℕ) (x : Standing) → i < length now → x ≡ get_or now i x → (out out' all : List Standing) (b : Bool) →
    Rises found_cmp (findings_of (drop i now)) → Rises found_cmp (findings_of (drop at before)) → drop next before ≡ after x.finding (drop at before) → b ≡ was_same x.finding (met x.finding (drop at before)) →
    out' ≡ cond b out (out ++ x ∷ []) → out ++ opened (findings_of (drop at before)) (drop i now) ≡ all → out' ++ opened (findings_of (drop next before)) (drop (i + 1) now) ≡ all
open_step before at next now i x l is out out' all b up low k h put e =
    ap (λ xs. xs ++ (opened (findings_of (drop next before)) (drop (i + 1) now))) put ∙ either b out x (opened (findings_of (drop next before)) (drop (i + 1) now))
    ∙ ap (λ c. out ++ cond c (opened (findings_of (drop next before)) (drop (i + 1) now)) (x ∷ (opened (findings_of (drop next before)) (drop (i + 1) now)))) h
    ∙ ap (λ ys. out ++ cond (was_same x.finding (met x.finding (drop at before))) (opened (findings_of ys) (drop (i + 1) now)) (x ∷ opened (findings_of ys) (drop (i + 1) now))) k
    ∙ ap (λ xs. out ++ xs) (sym (open_one x (drop (i + 1) now) (drop at before) (subst (λ ys. Rises found_cmp (findings_of ys)) (left_more now i x l is) up) low))
    ∙ ap (λ xs. out ++ opened (findings_of (drop at before)) xs) (sym (left_more now i x l is))
    ∙ e
  where
    either : {A : Type 0} (b : Bool) (out : List A) (x : A) (rest : List A) → cond b out (out ++ x ∷ []) ++ rest ≡ out ++ cond b rest (x ∷ rest)
    either true out x rest = refl
    either false out x rest = append_assoc out (x ∷ []) rest

pub close_step : (now : List Standing) (at next : ℕ) (before : List Standing) (i : ℕ) (x : Standing) → i < length before → x ≡ get_or before i x → (out out' all : List Spot) (b : Bool) →
    Rises found_cmp (findings_of (drop i before)) → Rises found_cmp (findings_of (drop at now)) → drop next now ≡ after x.finding (drop at now) → b ≡ is_some (met x.finding (drop at now)) →
    out' ≡ cond b out (out ++ spot_of x.finding ∷ []) → out ++ closed (findings_of (drop i before)) (findings_of (drop at now)) ≡ all → out' ++ closed (findings_of (drop (i + 1) before)) (findings_of (drop next now)) ≡ all
close_step now at next before i x l is out out' all b up low k h put e =
    ap (λ xs. xs ++ closed (findings_of (drop (i + 1) before)) (findings_of (drop next now))) put ∙ either b out (spot_of x.finding) (closed (findings_of (drop (i + 1) before)) (findings_of (drop next now)))
    ∙ ap (λ c. out ++ cond c (closed (findings_of (drop (i + 1) before)) (findings_of (drop next now))) (spot_of x.finding ∷ closed (findings_of (drop (i + 1) before)) (findings_of (drop next now)))) h
    ∙ ap (λ ys. out ++ cond (is_some (met x.finding (drop at now))) (closed (findings_of (drop (i + 1) before)) (findings_of ys)) (spot_of x.finding ∷ closed (findings_of (drop (i + 1) before)) (findings_of ys))) k
    ∙ ap (λ xs. out ++ xs) (sym (close_one x.finding (findings_of (drop (i + 1) before)) (drop at now) (subst (λ ys. Rises found_cmp (findings_of ys)) (left_more before i x l is) up) low))
    ∙ ap (λ xs. out ++ closed (findings_of xs) (findings_of (drop at now))) (sym (left_more before i x l is))
    ∙ e
  where
    either : {A : Type 0} (b : Bool) (out : List A) (x : A) (rest : List A) → cond b out (out ++ x ∷ []) ++ rest ≡ out ++ cond b rest (x ∷ rest)
    either true out x rest = refl
    either false out x rest = append_assoc out (x ∷ []) rest

pub copied_some : {A : Type 0} (o : Option (Bor A)) → is_some o ≡ is_some (option_copied o)
copied_some None = refl
copied_some (Some x) = refl
