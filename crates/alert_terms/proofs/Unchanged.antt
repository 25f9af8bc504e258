-- Nothing changes before the next change.
use Rattle.std.proofs.Common.{◌≡◌, ℕ, ◌≤◌, ◌<◌, nat_lt, nat_le, Bool, true, false, ◌&&◌, ◌||◌, cond, List, [], ◌∷◌, ◌++◌, map, Some, None, refl, ap, ◌∙◌, arith}
use Rattle.std.specs.declared.option.Option.{Option}
use Rattle.std.specs.List.{AllByRecursion, cons_option, filter, flat_map, list_any}
use Rattle.std.proofs.lemmas.Bool.Decides.{nat_tests}
use Rattle.alert_terms.specs.declared.period.Period.{Period}
use Rattle.alert_terms.specs.declared.query.Query.{Query}
use Rattle.alert_terms.specs.InForce.{Terms, all_bounds, bounds_in, bounds_of, concerns, has_begun, is_active, is_in_force, is_open, lasts}
use Rattle.alert_terms.specs.Laws.{NothingChangesBeforeNext}
use Rattle.alert_terms.proofs.Least.{under_each, where_after}

module _ (moment later : ℕ) (on : moment ≤ later) where
  -- a bound doesn't lie in between: where it comes after the moment, it comes after the later one
  abbrev Apart : ℕ → Type 0
  Apart b = moment < b → later < b

  begun_same : (start : ℕ) → Apart start → nat_le start later ≡ nat_le start moment
  begun_same start apart = by (nat_lt moment start) refl
    where
      by : (t : Bool) → nat_lt moment start ≡ t → nat_le start later ≡ nat_le start moment
      by true is = let after : moment < start = grind (arith, nat_tests) in let far = apart after in grind (arith, nat_tests)
      by false is = let before : start ≤ moment = grind (arith, nat_tests) in grind (arith, nat_tests)

  lasting_same : (end : ℕ) → Apart end → nat_lt later end ≡ nat_lt moment end
  lasting_same end apart = by (nat_lt moment end) refl
    where
      by : (t : Bool) → nat_lt moment end ≡ t → nat_lt later end ≡ nat_lt moment end
      by true is = let after : moment < end = grind (arith, nat_tests) in let far = apart after in grind (arith, nat_tests)
      by false is = let before : end ≤ moment = grind (arith, nat_tests) in grind (arith, nat_tests)

  has_begun_same : (start : Option ℕ) (rest : List ℕ) → AllByRecursion Apart (cons_option start rest) → has_begun start later ≡ has_begun start moment
  has_begun_same None rest h = refl
  has_begun_same (Some start) rest h = begun_same start h.0

  lasts_same : (end : Option ℕ) → AllByRecursion Apart (cons_option end []) → lasts end later ≡ lasts end moment
  lasts_same None h = refl
  lasts_same (Some end) h = lasting_same end h.0

  behind : (start : Option ℕ) (rest : List ℕ) → AllByRecursion Apart (cons_option start rest) → AllByRecursion Apart rest
  behind None rest h = h
  behind (Some start) rest h = h.1

  open_same : (p : Period) → AllByRecursion Apart (bounds_of p) → is_open later p ≡ is_open moment p
  open_same p h =
      ap (λ b. b && lasts p.end later) (has_begun_same p.start (cons_option p.end []) h)
      ∙ ap (λ b. has_begun p.start moment && b) (lasts_same p.end (behind p.start (cons_option p.end []) h))

  -- ---- of lists one after the other
  first_of : (xs ys : List ℕ) → AllByRecursion Apart (xs ++ ys) → AllByRecursion Apart xs
  first_of [] ys h = tt
  first_of (x ∷ xs) ys h = (h.0, first_of xs ys h.1)

  second_of : (xs ys : List ℕ) → AllByRecursion Apart (xs ++ ys) → AllByRecursion Apart ys
  second_of [] ys h = h
  second_of (x ∷ xs) ys h = second_of xs ys h.1

  any_same : (ps : List Period) → AllByRecursion Apart (flat_map bounds_of ps) → list_any (is_open later) ps ≡ list_any (is_open moment) ps
  any_same [] h = refl
  any_same (p ∷ ps) h =
      ap (λ b. b || list_any (is_open later) ps) (open_same p (first_of (bounds_of p) (flat_map bounds_of ps) h))
      ∙ ap (λ b. is_open moment p || b) (any_same ps (second_of (bounds_of p) (flat_map bounds_of ps) h))

  active_same : (ps : List Period) → AllByRecursion Apart (flat_map bounds_of ps) → is_active later ps ≡ is_active moment ps
  active_same [] h = refl
  active_same (p ∷ ps) h = any_same (p ∷ ps) h

  filter_same : (query : Query) (alerts : List Terms) → AllByRecursion Apart (all_bounds alerts) → filter (is_in_force later query) alerts ≡ filter (is_in_force moment query) alerts
  filter_same query [] h = refl
  filter_same query (a ∷ alerts) h =
      ap (λ b. cond (b && concerns query a.selectors) (a ∷ filter (is_in_force later query) alerts) (filter (is_in_force later query) alerts))
      (active_same a.periods (first_of (bounds_in a) (all_bounds alerts) h))
      ∙ ap (λ xs. cond (is_in_force moment query a) (a ∷ xs) xs) (filter_same query alerts (second_of (bounds_in a) (all_bounds alerts) h))

pub nothing_changes_before_next : NothingChangesBeforeNext
nothing_changes_before_next alerts query moment later on next =
    ap (map (λ a. a.key)) (filter_same moment later on query alerts
    (where_after (λ b. later < b) moment (all_bounds alerts) (under_each None (filter (nat_lt moment) (all_bounds alerts)) later next).1))
