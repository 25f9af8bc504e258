-- What the field of a row's place settles: an entry makes no ask, or a condition is false, and so the rule isn't broken.
use Rattle.std.proofs.Common.{arith, ap, sym, ◌∙◌}
use Rattle.std.specs.Prelude.{◌≡◌, ◌<◌, ℕ, suc, ◌==◌, ℤ, Bool, true, false, not, ◌&&◌, ◌||◌, cond, length, List, [], ◌∷◌, ◌++◌, Option, Some, None, refl}
use Rattle.std.specs.List.{list_any}
use Rattle.std.proofs.lemmas.Bool.{eqb-true, and_parts, not-true}
use Rattle.std.proofs.lemmas.List.{length-append}
use Rattle.std.proofs.Math.Bool.{and-false}
use Rattle.rt_day.specs.Time.{time_of}
use Rattle.feed_values.specs.declared.path.Path.{Path}
use Rattle.feed_values.specs.declared.cell_value.CellValue.{CellValue}
use Rattle.feed_values.specs.declared.cell_value.CellValue.TheVariants as value
use Rattle.rule_table.specs.declared.ask.Ask.{Ask}
use Rattle.rule_table.specs.declared.ask.Ask.TheVariants as ask
use Rattle.rule_table.specs.declared.key.EntityKey.{EntityKey}
use Rattle.rule_table.specs.declared.place.Place.{Place}
use Rattle.rule_table.specs.declared.place.Place.TheVariants as place
use Rattle.rule_table.specs.declared.rule.RuleId.{RuleId}
use Rattle.rule_table.specs.declared.row.Cite.{Cite}
use Rattle.rule_table.specs.declared.row.Cite.TheVariants as cite
use Rattle.rule_table.specs.declared.row.Atom.{Atom}
use Rattle.rule_table.specs.declared.row.Atom.TheVariants as atom
use Rattle.rule_table.specs.Asked.{ask_at, event_ask, other_kind, place_ask, slot_of, text_at, number_at, value_at, with_both}
use Rattle.rule_table.specs.Passed.{holds, passes, is_given, is_other_time, number_is, same_cell, text_is}
use Rattle.rule_table.specs.Cited.{broken_from, value_from}
use Rattle.rule_table.specs.Table.{cites_of, test_of}
use Rattle.rule_table.specs.Judged.{found_at}
use Rattle.rule_table.specs.Settled.{names, fails, is_place, settled_from, settled_by}
use Rattle.rule_table.proofs.Formed.{unbroken, broken-cited}
use Rattle.rule_table.proofs.Stopping.{value_stays, none_after}
use Rattle.rule_table.proofs.NoneThere.{after}
use Rattle.rule_table.proofs.SameAsks.{never}

either : (a b : Bool) (P : Type 0) → (a || b) ≡ true → (a ≡ true → P) → (b ≡ true → P) → P
either true b P h f g = f refl
either false b P h f g = g h

either_is : (j k n : ℕ) (P : Type 0) → (j == n || k == n) ≡ true → (j ≡ n → P) → (k ≡ n → P) → P
either_is j k n P h f g = either (j == n) (k == n) P h (λ e. f (eqb-true j n e)) (λ e. g (eqb-true k n e))

and_none : (a b : Bool) → (a && false && b) ≡ false
and_none true b = refl
and_none false b = refl

-- ---- an entry that names what is missing makes no ask
no_last : {A B : Type 0} (make : A → B → Ask) (a : Option A) → with_both make a None ≡ None
no_last make None = refl
no_last make (Some a) = refl

unasked : (at : Place) (vs : List CellValue) (n : ℕ) (c : Cite) → value_at vs n ≡ value.Missing → names n c ≡ true → ask_at at vs c ≡ None
unasked at vs n (cite.TripKnown k) v h = rw (eqb-true k n h, v) refl
unasked at vs n (cite.RouteKnown k) v h = rw (eqb-true k n h, v) refl
unasked at vs n (cite.AgencyKnown k) v h = rw (eqb-true k n h, v) refl
unasked at vs n (cite.StopKind k) v h = rw (eqb-true k n h, v) refl
unasked at vs n (cite.TripRoute k) v h = rw (eqb-true k n h, v) refl
unasked at vs n (cite.TripDirection k) v h = rw (eqb-true k n h, v) refl
unasked at vs n (cite.TripExact k) v h = rw (eqb-true k n h, v) refl
unasked at vs n (cite.VisitsTwice k) v h = rw (eqb-true k n h, v) refl
unasked at vs n (cite.FirstArrival k) v h = rw (eqb-true k n h, v) refl
unasked at vs n (cite.FirstVehicle k) v h = rw (eqb-true k n h, v) refl
unasked at vs n (cite.HasId k) v h = rw (eqb-true k n h, v) refl
unasked at vs n (cite.FirstId k) v h = rw (eqb-true k n h, v) refl
unasked at vs n (cite.FirstOccurrence k) v h = rw (eqb-true k n h, v) refl
unasked at vs n (cite.Peak k) v h = rw (eqb-true k n h, v) refl
unasked at vs n (cite.OnGrid j k) v h = either_is j k n (ask_at at vs (cite.OnGrid j k) ≡ None) h (λ e. rw (e, v) refl) (λ e. rw (e, v) (no_last ask.OnGrid (text_at vs j)))
unasked at vs n (cite.StopAt j k) v h = either_is j k n (ask_at at vs (cite.StopAt j k) ≡ None) h (λ e. rw (e, v) refl) (λ e. rw (e, v) (no_last ask.StopAt (text_at vs j)))
unasked at vs n (cite.EventAt j k) v h = either_is j k n (ask_at at vs (cite.EventAt j k) ≡ None) h (λ e. rw (e, v) refl) (λ e. rw (e, v) (no_last (event_ask (slot_of at)) (text_at vs j)))
unasked at vs n (cite.HasPair j k) v h = either_is j k n (ask_at at vs (cite.HasPair j k) ≡ None) h (λ e. rw (e, v) refl) (λ e. rw (e, v) (no_last (ask.HasPair (other_kind (slot_of at))) (text_at vs j)))
unasked at vs n cite.Place v h = never h
unasked at vs n cite.TripId v h = never h
unasked at vs n cite.StartTime v h = never h
unasked at vs n cite.StartDate v h = never h
unasked at vs n cite.Relationship v h = never h
unasked at vs n cite.Delay v h = never h
unasked at vs n cite.Time v h = never h
unasked at vs n cite.Holder v h = never h
unasked at vs n cite.Moment v h = never h
unasked at vs n cite.Occurrence v h = never h
unasked at vs n cite.EntitiesChanged v h = never h
unasked at vs n cite.AnyRow v h = never h
unasked at vs n (cite.Cell s) v h = never h
unasked at vs n (cite.Before s) v h = never h
unasked at vs n (cite.HeadNow s) v h = never h
unasked at vs n (cite.HeadBefore s) v h = never h

-- ---- conditions that are false
missing_is : (v : CellValue) → is_given v ≡ false → v ≡ value.Missing
missing_is value.Missing h = refl
missing_is (value.Number z) h = never (sym h)
missing_is (value.Text t) h = never (sym h)

no_number : (o : Option ℤ) → number_is (λ x. false) o ≡ false
no_number None = refl
no_number (Some z) = refl

not_same : (v : CellValue) → (is_given v && same_cell v value.Missing) ≡ false
not_same value.Missing = refl
not_same (value.Number z) = refl
not_same (value.Text t) = refl

no_other : (o : Option ℕ) → is_other_time value.Missing o ≡ false
no_other None = refl
no_other (Some seconds) = refl

no_other_time : (o : Option (List ℕ)) → text_is (λ t. is_other_time value.Missing (time_of t)) o ≡ false
no_other_time None = refl
no_other_time (Some t) = no_other (time_of t)

-- where a value is missing
fails_missing : (at : Place) (vs : List CellValue) (n : ℕ) (a : Atom) → value_at vs n ≡ value.Missing → fails false n a ≡ true → holds at vs a ≡ false
fails_missing at vs n (atom.Given k) v h = rw (eqb-true k n h, v) refl
fails_missing at vs n (atom.Is k m) v h = rw (eqb-true k n h, v) refl
fails_missing at vs n (atom.AtLeast k m) v h = rw (eqb-true k n h, v) refl
fails_missing at vs n (atom.Outside k low high) v h = rw (eqb-true k n h, v) refl
fails_missing at vs n (atom.IsTime k) v h = rw (eqb-true k n h, v) refl
fails_missing at vs n (atom.NotClock k) v h = rw (eqb-true k n h, v) refl
fails_missing at vs n (atom.NotDate k) v h = rw (eqb-true k n h, v) refl
fails_missing at vs n (atom.IsVersion2 k) v h = rw (eqb-true k n h, v) refl
fails_missing at vs n (atom.NotBelow j k) v h = either_is j k n (holds at vs (atom.NotBelow j k) ≡ false) h (λ e. rw (e, v) refl) (λ e. rw (e, v) (no_number (number_at vs j)))
fails_missing at vs n (atom.Below j k) v h = either_is j k n (holds at vs (atom.Below j k) ≡ false) h (λ e. rw (e, v) refl) (λ e. rw (e, v) (no_number (number_at vs j)))
fails_missing at vs n (atom.Above j k m) v h = either_is j k n (holds at vs (atom.Above j k m) ≡ false) h (λ e. rw (e, v) refl) (λ e. rw (e, v) (no_number (number_at vs j)))
fails_missing at vs n (atom.Equal j k) v h = either_is j k n (holds at vs (atom.Equal j k) ≡ false) h (λ e. rw (e, v) refl) (λ e. rw (e, v) (not_same (value_at vs j)))
fails_missing at vs n (atom.Differ j k) v h = either_is j k n (holds at vs (atom.Differ j k) ≡ false) h (λ e. rw (e, v) refl) (λ e. rw (e, v) (and_none (is_given (value_at vs j)) (not (same_cell (value_at vs j) value.Missing))))
fails_missing at vs n (atom.TimeDiffers j k) v h = either_is j k n (holds at vs (atom.TimeDiffers j k) ≡ false) h (λ e. rw (e, v) refl) (λ e. rw (e, v) (no_other_time (text_at vs j)))
fails_missing at vs n (atom.Missing k) v h = never h
fails_missing at vs n (atom.IsNot k m) v h = never h
fails_missing at vs n (atom.AnyMissing j k) v h = never h
fails_missing at vs n (atom.NotLater i j k l) v h = never h
fails_missing at vs n (atom.NotVersion k) v h = never h
fails_missing at vs n (atom.NotVersion2 k) v h = never h
fails_missing at vs n (atom.NotItself j k) v h = never h

-- where it is given
fails_given : (at : Place) (vs : List CellValue) (n : ℕ) (a : Atom) → is_given (value_at vs n) ≡ true → fails true n a ≡ true → holds at vs a ≡ false
fails_given at vs n (atom.Missing k) v h = rw (eqb-true k n h, v) refl
fails_given at vs n (atom.Given k) v h = never h
fails_given at vs n (atom.Is k m) v h = never h
fails_given at vs n (atom.IsNot k m) v h = never h
fails_given at vs n (atom.AtLeast k m) v h = never h
fails_given at vs n (atom.AnyMissing j k) v h = never h
fails_given at vs n (atom.Outside k low high) v h = never h
fails_given at vs n (atom.NotBelow j k) v h = never h
fails_given at vs n (atom.Below j k) v h = never h
fails_given at vs n (atom.Above j k m) v h = never h
fails_given at vs n (atom.Equal j k) v h = never h
fails_given at vs n (atom.Differ j k) v h = never h
fails_given at vs n (atom.IsTime k) v h = never h
fails_given at vs n (atom.NotClock k) v h = never h
fails_given at vs n (atom.NotDate k) v h = never h
fails_given at vs n (atom.TimeDiffers j k) v h = never h
fails_given at vs n (atom.NotLater i j k l) v h = never h
fails_given at vs n (atom.NotVersion k) v h = never h
fails_given at vs n (atom.IsVersion2 k) v h = never h
fails_given at vs n (atom.NotVersion2 k) v h = never h
fails_given at vs n (atom.NotItself j k) v h = never h

fails_so : (at : Place) (vs : List CellValue) (n : ℕ) (given : Bool) (a : Atom) → is_given (value_at vs n) ≡ given → fails given n a ≡ true → holds at vs a ≡ false
fails_so at vs n true a v h = fails_given at vs n a v h
fails_so at vs n false a v h = fails_missing at vs n a (missing_is (value_at vs n) v) h

one_fails : (at : Place) (vs : List CellValue) (test : Atom → Bool) → ((a : Atom) → test a ≡ true → holds at vs a ≡ false) → (atoms : List Atom) → list_any test atoms ≡ true → passes at atoms vs ≡ false
one_fails at vs test f [] h = never h
one_fails at vs test f (a ∷ atoms) h =
    either (test a) (list_any test atoms) (passes at (a ∷ atoms) vs ≡ false) h
    (λ e. ap (λ x. x && passes at atoms vs) (f a e))
    (λ e. ap (λ x. holds at vs a && x) (one_fails at vs test f atoms e) ∙ and-false (holds at vs a))

-- ---- rows that aren't broken, for whatever answers
module _ (answer : Ask → Option CellValue) (at : Place) (atoms : List Atom) where
  longer : (vs : List CellValue) (v : CellValue) (n : ℕ) → n < length vs → n < length (vs ++ v ∷ [])
  longer vs v n h = rw (length-append vs (v ∷ [])) (omega arith)

  unbroken_where_unasked : (vs : List CellValue) (n : ℕ) (cs : List Cite) → value_at vs n ≡ value.Missing → n < length vs → list_any (names n) cs ≡ true → broken_from answer at atoms vs cs ≡ false
  unbroken_where_unasked vs n [] v below h = never h
  unbroken_where_unasked vs n (c ∷ cs) v below h =
      either (names n c) (list_any (names n) cs) (broken_from answer at atoms vs (c ∷ cs) ≡ false) h
      (λ e. rw (unasked at vs n c v e) refl)
      (λ e. none_after (value_from answer at vs c) (λ w. broken_from answer at atoms (vs ++ w ∷ []) cs)
      (λ w. unbroken_where_unasked (vs ++ w ∷ []) n cs (value_stays vs (w ∷ []) n below ∙ v) (longer vs w n below) e))

  unbroken_where_one_fails : (vs : List CellValue) (n : ℕ) (given : Bool) (cs : List Cite) → is_given (value_at vs n) ≡ given → n < length vs → list_any (fails given n) atoms ≡ true → broken_from answer at atoms vs cs ≡ false
  unbroken_where_one_fails vs n given [] v below h = one_fails at vs (fails given n) (λ a e. fails_so at vs n given a v e) atoms h
  unbroken_where_one_fails vs n given (c ∷ cs) v below h =
      none_after (value_from answer at vs c) (λ w. broken_from answer at atoms (vs ++ w ∷ []) cs)
      (λ w. unbroken_where_one_fails (vs ++ w ∷ []) n given cs (ap is_given (value_stays vs (w ∷ []) n below) ∙ v) (longer vs w n below) h)

  last_is : (vs : List CellValue) (v : CellValue) → value_at (vs ++ v ∷ []) (length vs) ≡ v
  last_is [] v = refl
  last_is (x ∷ xs) v = last_is xs v

  -- after the place's own value
  pub settled_after : (vs : List CellValue) (given : Bool) (cs : List Cite) (v : CellValue) → is_given v ≡ given
      → ((not given && list_any (names (length vs)) cs) || list_any (fails given (length vs)) atoms) ≡ true → broken_from answer at atoms (vs ++ v ∷ []) cs ≡ false
  settled_after vs given cs v is h =
      let n = length vs in
      let below : n < length (vs ++ v ∷ []) = rw (length-append vs (v ∷ [])) (omega arith) in
      either (not given && list_any (names n) cs) (list_any (fails given n) atoms) (broken_from answer at atoms (vs ++ v ∷ []) cs ≡ false) h
      (λ e.
      let both = and_parts (not given) (list_any (names n) cs) e in
      unbroken_where_unasked (vs ++ v ∷ []) n cs (last_is vs v ∙ missing_is v (is ∙ not-true given both.0)) below both.1)
      (λ e. unbroken_where_one_fails (vs ++ v ∷ []) n given cs (ap is_given (last_is vs v) ∙ is) below e)

  place_is : (c : Cite) → is_place c ≡ true → c ≡ cite.Place
  place_is cite.Place h = refl
  place_is cite.TripId h = never h
  place_is cite.StartTime h = never h
  place_is cite.StartDate h = never h
  place_is cite.Relationship h = never h
  place_is cite.Delay h = never h
  place_is cite.Time h = never h
  place_is cite.Holder h = never h
  place_is cite.Moment h = never h
  place_is cite.Occurrence h = never h
  place_is cite.EntitiesChanged h = never h
  place_is cite.AnyRow h = never h
  place_is (cite.Cell s) h = never h
  place_is (cite.Before s) h = never h
  place_is (cite.HeadNow s) h = never h
  place_is (cite.HeadBefore s) h = never h
  place_is (cite.TripKnown k) h = never h
  place_is (cite.RouteKnown k) h = never h
  place_is (cite.AgencyKnown k) h = never h
  place_is (cite.StopKind k) h = never h
  place_is (cite.TripRoute k) h = never h
  place_is (cite.TripDirection k) h = never h
  place_is (cite.TripExact k) h = never h
  place_is (cite.VisitsTwice k) h = never h
  place_is (cite.FirstArrival k) h = never h
  place_is (cite.FirstVehicle k) h = never h
  place_is (cite.HasId k) h = never h
  place_is (cite.FirstId k) h = never h
  place_is (cite.FirstOccurrence k) h = never h
  place_is (cite.Peak k) h = never h
  place_is (cite.OnGrid j k) h = never h
  place_is (cite.StopAt j k) h = never h
  place_is (cite.EventAt j k) h = never h
  place_is (cite.HasPair j k) h = never h

  settled_broken : (vs : List CellValue) (given : Bool) (cs : List Cite) (v : CellValue) → answer (place_ask at) ≡ Some v → is_given v ≡ given
      → settled_from given (length vs) cs atoms ≡ true → broken_from answer at atoms vs cs ≡ false
  settled_broken vs given [] v q is h = never h
  settled_broken vs given (c ∷ cs) v q is h =
      by (is_place c) refl h
      (λ w k.
      let more : length (vs ++ w ∷ []) ≡ suc (length vs) = length-append vs (w ∷ []) ∙ omega arith in
      settled_broken (vs ++ w ∷ []) given cs v q is (rw more k))
    where
      by : (b : Bool) → is_place c ≡ b
          → cond b ((not given && list_any (names (length vs)) cs) || list_any (fails given (length vs)) atoms) (settled_from given (suc (length vs)) cs atoms) ≡ true
          → ((w : CellValue) → settled_from given (suc (length vs)) cs atoms ≡ true → broken_from answer at atoms (vs ++ w ∷ []) cs ≡ false)
          → broken_from answer at atoms vs (c ∷ cs) ≡ false
      by true e k more = rw (place_is c e) (after answer (λ w. broken_from answer at atoms (vs ++ w ∷ []) cs) (place_ask at) v q (settled_after vs given cs v is k))
      by false e k more = none_after (value_from answer at vs c) (λ w. broken_from answer at atoms (vs ++ w ∷ []) cs) (λ w. more w k)

-- a rule has no finding at a place whose field settles it
pub none_settled : (answer : Ask → Option CellValue) (rule : RuleId) (key : EntityKey) (path : Path) (v : CellValue)
    → answer (ask.Cell path) ≡ Some v → settled_by rule (is_given v) ≡ true → found_at rule answer (place.Entity key path) ≡ []
none_settled answer rule key path v q h =
    let at = place.Entity key path in
    unbroken rule answer at (sym (broken-cited answer at (test_of rule) [] (cites_of rule)) ∙ settled_broken answer at (test_of rule) [] (is_given v) (cites_of rule) v q refl h)
