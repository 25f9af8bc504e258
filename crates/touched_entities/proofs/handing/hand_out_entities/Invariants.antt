use Rattle.std.proofs.Common.{◌≡◌, ◌++◌}
use Rattle.std.specs.List.{flat_map}
use Rattle.entity_parts.specs.standing_walks.Changes.{all_opened, all_closed}
use Rattle.entity_parts.specs.part_laws.FourParts.{spots_in_order, standings_in_order}
use Rattle.touched_entities.proofs.handing.hand_out_entities.Given as goal

abbrev pub invariant-loop-told : goal.invariant-loop-told
invariant-loop-told l =
    record {
      opens_are : all_opened l.opens ++ flat_map (λ e. standings_in_order e.1.opened) l.told-iterator ≡ all_opened l.fn.opens ++ flat_map (λ e. standings_in_order e.1.opened) l.fn.entities.entries;
      closes_are : all_closed l.closes ++ flat_map (λ e. spots_in_order e.1.closed) l.told-iterator ≡ all_closed l.fn.closes ++ flat_map (λ e. spots_in_order e.1.closed) l.fn.entities.entries;
    }
