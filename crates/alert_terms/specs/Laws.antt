-- What the next change is, and what it means. Each law is the contract of a public function with an empty body.
use Rattle.std.specs.Prelude.{◌≡◌, ℕ, ◌≤◌, ◌<◌, List, Some, None, IfSome, Contains}
use Rattle.std.specs.List.{AllByRecursion}
use Rattle.alert_terms.specs.declared.query.Query.{Query}
use Rattle.alert_terms.specs.InForce.{Terms, all_bounds, in_force, next_change}

-- Where there is none, no start and no end comes after the moment. Else it is one of them, it comes after the moment, and none of
-- those after the moment comes before it.
pub record NextIsLeast : Type 0 where
  pub none : (moment : ℕ) (alerts : List Terms) → next_change moment alerts ≡ None → AllByRecursion (λ b. b ≤ moment) (all_bounds alerts)
  pub given : (moment : ℕ) (alerts : List Terms) (n : ℕ) → next_change moment alerts ≡ Some n → Contains (all_bounds alerts) n
  pub after : (moment : ℕ) (alerts : List Terms) (n : ℕ) → next_change moment alerts ≡ Some n → moment < n
  pub least : (moment : ℕ) (alerts : List Terms) (n : ℕ) → next_change moment alerts ≡ Some n → AllByRecursion (λ b. moment < b → n ≤ b) (all_bounds alerts)

-- At each moment from one on and before the next change after it, and at all of them where there is none, the answer is the same.
abbrev pub NothingChangesBeforeNext : Type 0
NothingChangesBeforeNext = (alerts : List Terms) (query : Query) (moment later : ℕ) → moment ≤ later → IfSome (next_change moment alerts) (λ n. later < n) →
    in_force later query alerts ≡ in_force moment query alerts
