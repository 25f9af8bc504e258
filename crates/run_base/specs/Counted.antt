-- How much a run does: how often an entity is decoded, and how often a rule is tested. (This profile.)
use Rattle.std.specs.Prelude.{◌≡◌, ℕ, ◌+◌, ◌≤◌, Option, IfSome}
use Rattle.rt_outside.specs.Store.{Contents}
use Rattle.run_base.specs.declared.status.Status.{Status}
use Rattle.run_base.specs.Faults.{IsCarriedOut}

pub record Work : Type 0 where
  pub decodes : ℕ
  pub tests : ℕ

-- what two counters stand at
abbrev pub counters : ℕ → ℕ → Work
counters decodes tests = record { decodes = decodes; tests = tests }

abbrev pub no_work : Work
no_work = counters 0 0

-- one and then another
abbrev pub plus : Work → Work → Work
plus a b = counters (a.decodes + b.decodes) (a.tests + b.tests)

-- both counters rose by exactly this
pub record RoseBy (work old new : Work) : Type 0 where
  pub decodes : new.decodes ≡ old.decodes + work.decodes
  pub tests : new.tests ≡ old.tests + work.tests

-- neither rose by more than this
pub record RoseAtMost (work old new : Work) : Type 0 where
  pub decodes : new.decodes ≤ old.decodes + work.decodes
  pub tests : new.tests ≤ old.tests + work.tests

-- Where the files tell what they hold, the counters rose by exactly the work that these contents give if the request was carried out, and by at most
-- that with any other answer.
pub record IsCounted (work : Contents → Work) (told : Option Contents) (old new : Work) (result : Status) : Type 0 where
  pub exact : IsCarriedOut result → IfSome told (λ held. RoseBy (work held) old new)
  pub most : IfSome told (λ held. RoseAtMost (work held) old new)
