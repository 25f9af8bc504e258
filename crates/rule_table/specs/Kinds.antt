-- The two kinds of pairing rows, and their order.
use Rattle.std.specs.Prelude.{◌≡◌, ℕ, Bool, nat_eq, Some}
use Rattle.std.specs.declared.cmp.Ordering.{Ordering}
use Rattle.std.specs.Ordering.{nat_cmp, eq_by_cmp}
use Rattle.std.specs.Cmp.{IsEquivalence, IsTotalOrder, IsPartialOrder, on_equiv, on_total, po, nat_cmp_total, nat_eq_equiv, unsigned_ties}
use Rattle.rule_table.specs.declared.kind.Kind.{Kind}
use Rattle.rule_table.specs.declared.kind.Kind.TheVariants as kind

abbrev pub kind_number : Kind → ℕ
kind_number kind.TripUpdate = 0
kind_number kind.Vehicle = 1

abbrev pub kind_cmp : Kind → Kind → Ordering
kind_cmp a b = nat_cmp (kind_number a) (kind_number b)

abbrev pub same_kind : Kind → Kind → Bool
same_kind a b = nat_eq (kind_number a) (kind_number b)

pub kinds_equiv : IsEquivalence same_kind
kinds_equiv = on_equiv kind_number nat_eq_equiv

pub kinds_total : IsTotalOrder kind_cmp
kinds_total = on_total kind_number nat_cmp_total

pub kinds_tie : (a b : Kind) → same_kind a b ≡ eq_by_cmp kind_cmp a b
kinds_tie a b = unsigned_ties (kind_number a) (kind_number b)

pub kinds_po : IsPartialOrder same_kind (λ a b. Some (kind_cmp a b))
kinds_po = po kinds_total kinds_tie
