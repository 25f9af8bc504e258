-- Lists in order.
use Rattle.std.specs.Prelude.{◌≡◌, List, [], ◌∷◌}
use Rattle.std.specs.declared.cmp.Ordering.{Ordering}
use Rattle.std.specs.declared.cmp.Ordering.TheVariants.{Less}
use Rattle.rule_table.specs.declared.key.EntityKey.{EntityKey}
use Rattle.rule_table.specs.Groups.{Each}
use Rattle.rule_table.specs.Order.{key_cmp}

-- each of a list comes before all that stand after it
abbrev pub Rises : {A : Type 0} → (A → A → Ordering) → List A → Type 0
Rises cmp [] = Unit {0}
Rises cmp (x ∷ xs) = Each (λ y. cmp x y ≡ Less) xs × Rises cmp xs

-- each key is below those after it
abbrev pub Rising : {A : Type 0} → List (EntityKey × A) → Type 0
Rising es = Rises (λ d e. key_cmp d.0 e.0) es
