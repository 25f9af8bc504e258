-- The order of pairing rows.
use Rattle.std.specs.declared.cmp.Ordering.{Ordering}
use Rattle.std.specs.Ordering.{ordering_then}
use Rattle.rule_table.specs.Kinds.{kind_cmp}
use Rattle.rule_table.specs.Order.{key_cmp}
use Rattle.rule_table.specs.Pairs.{PairRow}

-- rows by the keys of their entities, and of one entity that of its trip update first
abbrev pub row_cmp : PairRow → PairRow → Ordering
row_cmp a b = ordering_then (key_cmp a.key b.key) (kind_cmp a.kind b.kind)
