-- The order of findings, and lists in order.
use Rattle.std.specs.declared.cmp.Ordering.{Ordering}
use Rattle.std.specs.declared.cmp.Ordering.TheVariants.{Less, Equal, Greater}
use Rattle.std.specs.Ordering.{nat_cmp, ordering_then}
use Rattle.std.specs.Cmp.Lexicographic.{slice_cmp}
use Rattle.rule_table.specs.declared.place.Place.{Place}
use Rattle.rule_table.specs.declared.place.Place.TheVariants as place
use Rattle.rule_table.specs.Rules.{rule_number}
use Rattle.rule_table.specs.Order.{slot_number}
use Rattle.rule_table.specs.Asked.{feed_of, slot_of, index_of}
use Rattle.rule_table.specs.Found.{Found}
pub use Rattle.rule_table.specs.Rises.{Rises}

-- within a feed its header comes before its entities, and these go by id, byte by byte, then by occurrence
abbrev pub holder_cmp : Place → Place → Ordering
holder_cmp (place.Head f s) (place.Head g t) = Equal
holder_cmp (place.Head f s) (place.Entity l q) = Less
holder_cmp (place.Entity k p) (place.Head g t) = Greater
holder_cmp (place.Entity k p) (place.Entity l q) = ordering_then (slice_cmp nat_cmp k.id l.id) (nat_cmp k.occurrence l.occurrence)

-- by feed, header or entity, rule, slot and index
abbrev pub found_cmp : Found → Found → Ordering
found_cmp f g =
    ordering_then (nat_cmp (feed_of f.place) (feed_of g.place))
    (ordering_then (holder_cmp f.place g.place)
    (ordering_then (nat_cmp (rule_number f.rule) (rule_number g.rule))
    (ordering_then (nat_cmp (slot_number (slot_of f.place)) (slot_number (slot_of g.place))) (nat_cmp (index_of f.place) (index_of g.place)))))
