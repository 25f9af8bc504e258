-- Values under keys, as lists of both.
use Rattle.std.specs.Prelude.{Bool, List, Option, option_map}
use Rattle.std.specs.List.{find, list_any}
use Rattle.std.specs.List.Sorted.{IsPermutation, IsSortedByKey, IsStableByKey}
use Rattle.std.specs.Ordering.{is_eq}
use Rattle.std.specs.declared.cmp.Ordering.{Ordering}

-- what was put in, in the order of its keys; what has one key stands as it was put in
pub record Sorts {K V : Type 0} (cmp : K → K → Ordering) (put sorted : List (K × V)) : Type 0 where
  pub in_order : IsSortedByKey (λ e. e.0) cmp sorted
  pub stable : IsStableByKey (λ e. e.0) cmp put sorted
  pub moved : IsPermutation put sorted

-- whether an entry has a key
abbrev pub is_under : {K V : Type 0} → (K → K → Ordering) → K → K × V → Bool
is_under cmp key e = is_eq (cmp e.0 key)

abbrev pub first_value : {K V : Type 0} → (K → K → Ordering) → List (K × V) → K → Option V
first_value cmp put key = option_map (λ e. e.1) (find (is_under cmp key) put)

abbrev pub has_key : {K V : Type 0} → (K → K → Ordering) → List (K × V) → K → Bool
has_key cmp put key = list_any (is_under cmp key) put

-- whether an entry has a key of two parts, of which this is the first
abbrev pub has_start : {A B V : Type 0} → (A → A → Ordering) → List ((A × B) × V) → A → Bool
has_start cmp put start = list_any (λ e. is_eq (cmp e.0.0 start)) put
