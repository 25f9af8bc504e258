use Rattle.std.proofs.Common.{◌≡◌, ◌∙◌, ap, rules}
use Rattle.feed_values.specs.declared.path.Path.{Path}
use Rattle.feed_values.proofs.path.Path.is_path.Goals as goal

-- two paths with one slot and one index are one
same_path : (p q : Path) → p.slot ≡ q.slot → p.index ≡ q.index → p ≡ q
same_path p q s i = ap (λ x. let r : Path = record { slot = x; index = p.index } in r) s ∙ ap (λ x. let r : Path = record { slot = q.slot; index = x } in r) i

pub returns-then-is_slot : goal.returns-then-is_slot
returns-then-is_slot c =
    let slots : c.args.self.slot ≡ c.args.other.slot = search rules in (
      (λ h. same_path c.args.self c.args.other slots (search rules)),
      (λ h. let e : c.args.self.index ≡ c.args.other.index = ap (λ p. let q : Path = p in q.index) h in search rules),
    )
