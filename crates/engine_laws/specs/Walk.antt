-- Lists in order, compared by one walk.
use Rattle.std.specs.Prelude.{◌≡◌, ℕ, List, ◌∷◌, if◌then◌else◌}
use Rattle.std.specs.declared.cmp.Ordering.TheVariants.{Less, Equal, Greater}
use Rattle.rule_table.specs.Found.{Found}
use Rattle.rule_history.specs.Standing.{Standing, opened, closed}
use Rattle.rule_table.specs.SameFacts.{same_facts}
use Rattle.engine_laws.specs.Order.{found_cmp, Rises}
use Rattle.engine_laws.specs.Standings.{findings_of, renewed}

-- a list renewed: an old standing that comes before all findings is passed; one of the same rule and place gives its number,
-- and one that comes after a finding leaves it the new number
pub record WalkRenews : Type 0 where
  pub passed : (x : Standing) (old : List Standing) (n : ℕ) (f : Found) (fs : List Found) → Rises found_cmp (f ∷ fs) → found_cmp x.finding f ≡ Less →
      renewed (x ∷ old) n (f ∷ fs) ≡ renewed old n (f ∷ fs)
  pub met : (x : Standing) (old : List Standing) (n : ℕ) (f : Found) (fs : List Found) → Rises found_cmp (f ∷ fs) → found_cmp x.finding f ≡ Equal →
      renewed (x ∷ old) n (f ∷ fs) ≡ record { finding = f; since = x.since } ∷ renewed old n fs
  pub new : (x : Standing) (old : List Standing) (n : ℕ) (f : Found) (fs : List Found) → Rises found_cmp (findings_of (x ∷ old)) → found_cmp x.finding f ≡ Greater →
      renewed (x ∷ old) n (f ∷ fs) ≡ record { finding = f; since = n } ∷ renewed (x ∷ old) n fs

-- what opened: a finding before that comes before all of now is passed; one of the same rule and place opens it where the facts
-- are others, and one that comes after it opens it
pub record WalkOpens : Type 0 where
  pub passed : (g : Found) (before : List Found) (x : Standing) (now : List Standing) → Rises found_cmp (findings_of (x ∷ now)) → found_cmp g x.finding ≡ Less →
      opened (g ∷ before) (x ∷ now) ≡ opened before (x ∷ now)
  pub met : (g : Found) (before : List Found) (x : Standing) (now : List Standing) → Rises found_cmp (g ∷ before) → Rises found_cmp (findings_of (x ∷ now)) → found_cmp g x.finding ≡ Equal →
      opened (g ∷ before) (x ∷ now) ≡ (if same_facts x.finding.facts g.facts then opened before now else x ∷ opened before now)
  pub new : (g : Found) (before : List Found) (x : Standing) (now : List Standing) → Rises found_cmp (g ∷ before) → found_cmp g x.finding ≡ Greater →
      opened (g ∷ before) (x ∷ now) ≡ x ∷ opened (g ∷ before) now

-- what closed: a finding of now that comes before all that were there is passed; one of the same rule and place keeps it, and one
-- that comes after it closes it
pub record WalkCloses : Type 0 where
  pub passed : (f : Found) (before : List Found) (g : Found) (now : List Found) → Rises found_cmp (f ∷ before) → found_cmp g f ≡ Less →
      closed (f ∷ before) (g ∷ now) ≡ closed (f ∷ before) now
  pub met : (f : Found) (before : List Found) (g : Found) (now : List Found) → Rises found_cmp (f ∷ before) → found_cmp g f ≡ Equal →
      closed (f ∷ before) (g ∷ now) ≡ closed before now
  pub gone : (f : Found) (before : List Found) (g : Found) (now : List Found) → Rises found_cmp (g ∷ now) → found_cmp g f ≡ Greater →
      closed (f ∷ before) (g ∷ now) ≡ record { rule = f.rule; place = f.place } ∷ closed before (g ∷ now)
