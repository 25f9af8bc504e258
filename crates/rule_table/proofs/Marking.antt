-- What marks mean, mark by mark.
use Rattle.std.proofs.Common.{sym, ap, ◌∙◌}
use Rattle.std.specs.Prelude.{◌≡◌, ◌++◌, ℕ, Bool, true, false, cond, List, [], ◌∷◌, Option, Some, slice_get, refl}
use Rattle.std.specs.List.{Contains}
use Rattle.std.proofs.lemmas.Grind.{flat_map-append}
use Rattle.std.proofs.lemmas.List.{append-nil}
use Rattle.std.proofs.lemmas.Option.{get_or_from_slice_get, slice_get_within}
use Rattle.feed_values.specs.Cells.{has_item, way}
use Rattle.feed_values.specs.declared.cell_value.CellValue.{CellValue}
use Rattle.feed_values.specs.declared.slot.Slot.{Slot}
use Rattle.rule_table.specs.declared.ask.Ask.{Ask}
use Rattle.rule_table.specs.declared.key.EntityKey.{EntityKey}
use Rattle.rule_table.specs.declared.mark.Mark.{Mark}
use Rattle.rule_table.specs.declared.place.Place.TheVariants as place
use Rattle.rule_table.specs.declared.rule.RuleId.{RuleId}
use Rattle.rule_table.specs.Asked.{path_at}
use Rattle.rule_table.specs.Judged.{found_at}
use Rattle.rule_table.specs.Marked.{marked, marked_at}
use Rattle.rule_table.specs.Table.{slots_of}

own_index : (i : ℕ) (b : Bool) → (b ≡ false → i ≡ 0) → cond b i 0 ≡ i
own_index i true h = refl
own_index i false h = sym (h refl)

module _ (answer : Ask → Option CellValue) (key : EntityKey) where
  -- a mark at an index of a slot
  at_mark : (rule : RuleId) (number : ℕ) (s : Slot) (i : ℕ) → slice_get (slots_of rule) number ≡ Some s → (has_item (way s) ≡ false → i ≡ 0)
      → marked_at answer key (record { rule = rule; number = number; index = i }) ≡ found_at rule answer (place.Entity key (record { slot = s; index = i }))
  at_mark rule number s i there plain =
      rw there (ap (λ j. found_at rule answer (place.Entity key (record { slot = s; index = j }))) (own_index i (has_item (way s)) plain))

  -- and one more of them
  pub one_more : (ms : List Mark) (rule : RuleId) (number : ℕ) (s : Slot) (i : ℕ) → slice_get (slots_of rule) number ≡ Some s → (has_item (way s) ≡ false → i ≡ 0)
      → marked answer key (ms ++ record { rule = rule; number = number; index = i } ∷ []) ≡ marked answer key ms ++ found_at rule answer (place.Entity key (record { slot = s; index = i }))
  one_more ms rule number s i there plain =
      let m : Mark = record { rule = rule; number = number; index = i } in
      flat_map-append (marked_at answer key) ms (m ∷ [])
      ∙ ap (λ fs. marked answer key ms ++ fs) (append-nil (marked_at answer key m) ∙ at_mark rule number s i there plain)

-- an element found by its number is contained
pub contained : {A : Type 0} (xs : List A) (k : ℕ) (x : A) → slice_get xs k ≡ Some x → Contains xs x
contained xs k x h = (k, slice_get_within xs k x h, get_or_from_slice_get xs k x x h)

-- a path at an index has index 0 where no item is on the way
pub plain_path : (s : Slot) (i : ℕ) → has_item (way s) ≡ false → (path_at s i).index ≡ 0
plain_path s i h = rw h refl
