-- A condition that is false of the values so far stays false, so that the rest needn't be cited.
use Rattle.std.proofs.Common.{◌≡◌, ◌<◌, ℕ, ◌==◌, nat_le, Bool, true, false, not, ◌||◌, ◌&&◌, cond, length, List, [], ◌∷◌, ◌++◌, Option, Some, None, refl, sym, ◌∙◌, arith}
use Rattle.std.proofs.lemmas.Bool.{eqb-true}
use Rattle.std.proofs.lemmas.Bool.Decides.{nat_tests}
use Rattle.std.proofs.lemmas.List.{get_or_append_left, length-append}
use Rattle.std.proofs.lemmas.Option.{unwrap_or-slice_get}
use Rattle.feed_values.specs.declared.cell_value.CellValue.{CellValue}
use Rattle.feed_values.specs.declared.cell_value.CellValue.TheVariants as value
use Rattle.rule_table.specs.declared.ask.Ask.{Ask}
use Rattle.rule_table.specs.declared.place.Place.{Place}
use Rattle.rule_table.specs.declared.row.Cite.{Cite}
use Rattle.rule_table.specs.declared.row.Atom.{Atom}
use Rattle.rule_table.specs.declared.row.Atom.TheVariants.{Given, Missing, Is, IsNot, AtLeast, AnyMissing, Outside, NotBelow, Below, Above, Equal, Differ, IsTime, NotClock, NotDate, TimeDiffers, NotLater, NotVersion, IsVersion2, NotVersion2, NotItself}
use Rattle.rule_table.specs.Asked.{value_at}
use Rattle.rule_table.specs.Passed.{holds, passes, passes_by, later, last_of}
use Rattle.rule_table.specs.Cited.{value_from, value_then, broken_from}

pub value_stays : (vs rest : List CellValue) (k : ℕ) → k < length vs → value_at (vs ++ rest) k ≡ value_at vs k
value_stays vs rest k h =
    unwrap_or-slice_get (vs ++ rest) k value.Missing ∙ get_or_append_left vs rest value.Missing k h ∙ sym (unwrap_or-slice_get vs k value.Missing)

later_by : (b : Bool) (j k n : ℕ) → nat_le j k ≡ b → cond b k j < n → (j < n) × (k < n)
later_by true j k n e h = (grind (arith, nat_tests), h)
later_by false j k n e h = (h, grind (arith, nat_tests))

both_below : (j k n : ℕ) → later j k < n → (j < n) × (k < n)
both_below j k n h = later_by (nat_le j k) j k n refl h

holds_stays : (at : Place) (vs rest : List CellValue) (a : Atom) → last_of a < length vs → holds at (vs ++ rest) a ≡ holds at vs a
holds_stays at vs rest (Given k) h = rw (value_stays vs rest k h) refl
holds_stays at vs rest (Missing k) h = rw (value_stays vs rest k h) refl
holds_stays at vs rest (Is k n) h = rw (value_stays vs rest k h) refl
holds_stays at vs rest (IsNot k n) h = rw (value_stays vs rest k h) refl
holds_stays at vs rest (AtLeast k n) h = rw (value_stays vs rest k h) refl
holds_stays at vs rest (Outside k low high) h = rw (value_stays vs rest k h) refl
holds_stays at vs rest (IsTime k) h = rw (value_stays vs rest k h) refl
holds_stays at vs rest (NotClock k) h = rw (value_stays vs rest k h) refl
holds_stays at vs rest (NotDate k) h = rw (value_stays vs rest k h) refl
holds_stays at vs rest (NotVersion k) h = rw (value_stays vs rest k h) refl
holds_stays at vs rest (IsVersion2 k) h = rw (value_stays vs rest k h) refl
holds_stays at vs rest (NotVersion2 k) h = rw (value_stays vs rest k h) refl
holds_stays at vs rest (AnyMissing j k) h =
    let b = both_below j k (length vs) h in
    rw (value_stays vs rest j b.0, value_stays vs rest k b.1) refl
holds_stays at vs rest (NotBelow j k) h =
    let b = both_below j k (length vs) h in
    rw (value_stays vs rest j b.0, value_stays vs rest k b.1) refl
holds_stays at vs rest (Below j k) h =
    let b = both_below j k (length vs) h in
    rw (value_stays vs rest j b.0, value_stays vs rest k b.1) refl
holds_stays at vs rest (Above j k n) h =
    let b = both_below j k (length vs) h in
    rw (value_stays vs rest j b.0, value_stays vs rest k b.1) refl
holds_stays at vs rest (Equal j k) h =
    let b = both_below j k (length vs) h in
    rw (value_stays vs rest j b.0, value_stays vs rest k b.1) refl
holds_stays at vs rest (Differ j k) h =
    let b = both_below j k (length vs) h in
    rw (value_stays vs rest j b.0, value_stays vs rest k b.1) refl
holds_stays at vs rest (TimeDiffers j k) h =
    let b = both_below j k (length vs) h in
    rw (value_stays vs rest j b.0, value_stays vs rest k b.1) refl
holds_stays at vs rest (NotItself j k) h =
    let b = both_below j k (length vs) h in
    rw (value_stays vs rest j b.0, value_stays vs rest k b.1) refl
holds_stays at vs rest (NotLater i j k l) h =
    let b = both_below (later i j) (later k l) (length vs) h in
    let c = both_below i j (length vs) b.0 in
    let d = both_below k l (length vs) b.1 in
    rw (value_stays vs rest i c.0, value_stays vs rest j c.1, value_stays vs rest k d.0, value_stays vs rest l d.1) refl

-- a condition alone
one_stays : (b : Bool) (at : Place) (n : ℕ) (vs rest : List CellValue) (a : Atom) → (last_of a == n) ≡ b → n < length vs
    → (not b || holds at (vs ++ rest) a) ≡ (not b || holds at vs a)
one_stays true at n vs rest a e h = holds_stays at vs rest a (rw (eqb-true (last_of a) n e) h)
one_stays false at n vs rest a e h = refl

passes_by-more : (at : Place) (n : ℕ) (atoms : List Atom) (vs rest : List CellValue) → n < length vs → passes_by at n atoms (vs ++ rest) ≡ passes_by at n atoms vs
passes_by-more at n [] vs rest h = refl
passes_by-more at n (a ∷ atoms) vs rest h =
    rw (one_stays (last_of a == n) at n vs rest a refl h, passes_by-more at n atoms vs rest h) refl

one_fails : (b c d e : Bool) → (c ≡ false → d ≡ false) → ((not b || e) && c) ≡ false → (e && d) ≡ false
one_fails true c d true f h = f h
one_fails true c d false f h = refl
one_fails false c d true f h = f h
one_fails false c d false f h = refl

passes_false : (at : Place) (n : ℕ) (atoms : List Atom) (vs : List CellValue) → passes_by at n atoms vs ≡ false → passes at atoms vs ≡ false
passes_false at n [] vs h = cc
passes_false at n (a ∷ atoms) vs h =
    one_fails (last_of a == n) (passes_by at n atoms vs) (passes at atoms vs) (holds at vs a) (passes_false at n atoms vs) h

pub none_after : (o : Option CellValue) (f : CellValue → Bool) → ((v : CellValue) → f v ≡ false) → value_then o f ≡ false
none_after None f h = refl
none_after (Some v) f h = h v

pub broken_from-fails : (answer : Ask → Option CellValue) (at : Place) (atoms : List Atom) (n : ℕ) (vs : List CellValue) (cs : List Cite)
    → passes_by at n atoms vs ≡ false → n < length vs → broken_from answer at atoms vs cs ≡ false
broken_from-fails answer at atoms n vs [] h below = passes_false at n atoms vs h
broken_from-fails answer at atoms n vs (c ∷ cs) h below =
    none_after (value_from answer at vs c) (λ v. broken_from answer at atoms (vs ++ v ∷ []) cs)
    (λ v. broken_from-fails answer at atoms n (vs ++ v ∷ []) cs (passes_by-more at n atoms vs (v ∷ []) below ∙ h) (rw (length-append vs (v ∷ [])) (omega arith)))
