-- Keys in order.
use Rattle.std.specs.Prelude.{◌≡◌, List, [], ◌∷◌, map}
use Rattle.std.specs.List.{AllByRecursion}
use Rattle.std.specs.List.Sorted.{IsStrictlySortedBy}
use Rattle.std.specs.Map.{keys_of}
use Rattle.std.specs.declared.cmp.Ordering.TheVariants.{Less}
use Rattle.rule_table.specs.declared.key.EntityKey.{EntityKey}
use Rattle.rule_table.specs.Groups.{Each}
use Rattle.rule_table.specs.Order.{key_cmp}
use Rattle.rule_table.specs.Rises.{Rises}

pub rises_sorted : (ks : List EntityKey) → IsStrictlySortedBy key_cmp ks → Rises key_cmp ks
unfolding IsStrictlySortedBy
rises_sorted [] h = tt
rises_sorted (k ∷ ks) h = (each ks h.0, rises_sorted ks h.1)
  where
    each : (qs : List EntityKey) → AllByRecursion (λ q. key_cmp k q ≡ Less) qs → Each (λ q. key_cmp k q ≡ Less) qs
    each [] p = tt
    each (q ∷ qs) p = (p.0, each qs p.1)

-- those of a map are
pub keys_rise : {A : Type 0} (es : List (EntityKey × A)) → IsStrictlySortedBy key_cmp (keys_of es) → Rises key_cmp (map (λ e. e.0) es)
unfolding IsStrictlySortedBy
keys_rise [] h = tt
keys_rise {A} (e ∷ es) h = (each es h.0, keys_rise es h.1)
  where
    each : (ds : List (EntityKey × A)) → AllByRecursion (λ q. key_cmp e.0 q ≡ Less) (keys_of ds) → Each (λ q. key_cmp e.0 q ≡ Less) (map (λ d. d.0) ds)
    each [] p = tt
    each (d ∷ ds) p = (p.0, each ds p.1)
