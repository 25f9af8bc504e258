-- The nearer of two candidates, and the nearest of three.
use Rattle.std.proofs.Common.{◌≡◌, ◌<◌, ◌≤◌, Bool, true, false, cond, nat_lt, ◌⊎◌, inl, inr, Some, None, refl, subst, arith}
use Rattle.std.specs.declared.option.Option.{Option}
use Rattle.std.proofs.lemmas.Bool.Decides.{nat_tests}
use Rattle.trip_calendar.specs.declared.candidate.Candidate.{Candidate}
use Rattle.trip_calendar.specs.ServiceDays.{nearer, IsNearer, IsNoFarther, IsNearestOf, is_before, is_same, is_after}

some_same : (x y : Candidate) → Some x ≡ Some y → x ≡ y
some_same x y e = cc e

-- the first, which is no farther, or the second, which is nearer
abbrev pub IsOneOf : Option Candidate → Option Candidate → Candidate → Type 0
IsOneOf first second c = ((first ≡ Some c) × IsNoFarther c second) ⊎ ((second ≡ Some c) × IsNearer c first)

one_of : (first second : Option Candidate) (c : Candidate) → nearer first second ≡ Some c → IsOneOf first second c
one_of None second c e = inr (e, tt)
one_of (Some x) None c e = inl (e, tt)
one_of (Some x) (Some y) c e = by (nat_lt y.distance x.distance) refl e
  where
    by : (b : Bool) → nat_lt y.distance x.distance ≡ b → cond b (Some y) (Some x) ≡ Some c → IsOneOf (Some x) (Some y) c
    by true less e =
        let near : y.distance < x.distance = grind (arith, nat_tests, less) in
        inr (e, subst (λ k. k.distance < x.distance) (some_same y c e) near)
    by false less e =
        let far : x.distance ≤ y.distance = grind (arith, nat_tests, less) in
        inl (e, subst (λ k. k.distance ≤ y.distance) (some_same x c e) far)

-- nearer than the nearer of two is nearer than both
both : (first second : Option Candidate) (c : Candidate) → IsNearer c (nearer first second) → IsNearer c first × IsNearer c second
both None second c h = (tt, h)
both (Some x) None c h = (h, tt)
both (Some x) (Some y) c h = by (nat_lt y.distance x.distance) refl h
  where
    by : (b : Bool) → nat_lt y.distance x.distance ≡ b → IsNearer c (cond b (Some y) (Some x)) → (c.distance < x.distance) × (c.distance < y.distance)
    by true less h =
        let near : y.distance < x.distance = grind (arith, nat_tests, less) in
        (omega (arith, near, h), h)
    by false less h =
        let far : x.distance ≤ y.distance = grind (arith, nat_tests, less) in
        (h, omega (arith, far, h))

of_two : (before same after : Option Candidate) (c : Candidate) → IsNoFarther c after → IsOneOf before same c → IsNearestOf before same after c
of_two before same after c later (inl h) = is_before h.0 h.1 later
of_two before same after c later (inr h) = is_same h.0 h.1 later

of_three : (before same after : Option Candidate) (c : Candidate) → IsOneOf (nearer before same) after c → IsNearestOf before same after c
of_three before same after c (inl h) = of_two before same after c h.1 (one_of before same c h.0)
of_three before same after c (inr h) = let two = both before same c h.1 in is_after h.0 two.0 two.1

pub finds_nearest : (before same after : Option Candidate) (c : Candidate) → nearer (nearer before same) after ≡ Some c → IsNearestOf before same after c
finds_nearest before same after c e = of_three before same after c (one_of (nearer before same) after c e)

none_of : (first second : Option Candidate) → nearer first second ≡ None → (first ≡ None) × (second ≡ None)
none_of None second e = (refl, e)
none_of (Some x) None e = absurd (cc e)
none_of (Some x) (Some y) e = by (nat_lt y.distance x.distance) e
  where
    by : (b : Bool) → cond b (Some y) (Some x) ≡ None → (Some x ≡ None) × (Some y ≡ None)
    by true e = absurd (cc e)
    by false e = absurd (cc e)

pub finds_any : (before same after : Option Candidate) → nearer (nearer before same) after ≡ None → (before ≡ None) × (same ≡ None) × (after ≡ None)
finds_any before same after e =
    let outer = none_of (nearer before same) after e in
    let inner = none_of before same outer.0 in
    (inner.0, inner.1, outer.1)
