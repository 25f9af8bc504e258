-- Paths by their printed texts: what stands before an index in brackets, the index, and what stands behind it. (This profile.)
use Rattle.std.specs.Prelude.{ℕ, ◌==◌, ◌&&◌, not, List, bytes_eq, Option, Some, None, find, option_map, option_and_then}
use Rattle.std.specs.List.{before_first, after_first}
use Rattle.feed_values.specs.declared.slot.Slot.{Slot}
use Rattle.feed_values.specs.SlotNames.{all_slots}
use Rattle.feed_values.specs.declared.path.Path.{Path}
use Rattle.feed_values.specs.Cells.{has_item, way, path_text}
use Rattle.feed_values.specs.PathTexts.{text_before_index, text_after_index}
use Rattle.finding_names.specs.Numbers.{u32_named}

-- the slot of a text without an index
abbrev pub plain_slot : List ℕ → Option Slot
plain_slot text = find (λ slot. not (has_item (way slot)) && bytes_eq (path_text slot 0) text) all_slots

-- the slot of the texts before and behind an index
abbrev pub item_slot : List ℕ → List ℕ → Option Slot
item_slot before after = find (λ slot. (has_item (way slot) && bytes_eq (text_before_index slot) before) && bytes_eq (text_after_index slot) after) all_slots

abbrev pub item_path : List ℕ → List ℕ → List ℕ → Option Path
item_path before index after = option_and_then (λ i. option_map (λ slot. record { slot = slot; index = i }) (item_slot before after)) (u32_named index)

abbrev pub plain_path : List ℕ → Option Path
plain_path text = option_map (λ slot. record { slot = slot; index = 0 }) (plain_slot text)

abbrev pub first_given : {A : Type 0} → Option A → Option A → Option A
first_given None other = other
first_given (Some x) other = Some x

abbrev pub after_opening : List ℕ → List ℕ
after_opening text = after_first (λ byte. byte == 91) text

-- the path of a text: one with an index, or else one without
abbrev pub path_named : List ℕ → Option Path
path_named text =
    first_given (item_path (before_first (λ byte. byte == 91) text) (before_first (λ byte. byte == 93) (after_opening text)) (after_first (λ byte. byte == 93) (after_opening text)))
    (plain_path text)
