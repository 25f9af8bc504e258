-- What is true of all that the parts of an entity name, part by part.
use Rattle.std.proofs.Common.{◌≡◌, Bool, true, false, ◌&&◌, List, [], ◌∷◌, ◌++◌, map, refl, sym, ap, ◌∙◌}
use Rattle.std.proofs.lemmas.List.Folds.{list_all-append}
use Rattle.std.specs.List.{list_all}
use Rattle.feed_values.specs.Schema.{Value}
use Rattle.feed_values.specs.Messages.{entity_selector, stop_time_update}
use Rattle.timetable.specs.Timetables.{Tables}
use Rattle.timetable_agree.specs.Agree.{same_named_trip}
use Rattle.timetable_agree.specs.Named.{Naming, by_selector, by_stop}

and_assoc : (b c d e : Bool) → c ≡ (d && e) → (b && c) ≡ ((b && d) && e)
and_assoc true c d e h = h
and_assoc false c d e h = refl

and_true : (b c : Bool) → true ≡ c → b ≡ (b && c)
and_true true c h = h
and_true false c h = refl

all-map : {A B : Type 0} (p : B → Bool) (f : A → B) (xs : List A) → list_all p (map f xs) ≡ list_all (λ x. p (f x)) xs
all-map p f [] = refl
all-map p f (x ∷ xs) = ap (λ b. p (f x) && b) (all-map p f xs)

-- a test of the items of a list, where another list has what they say
pub all_items : {A B : Type 0} (p : B → Bool) (f : A → B) (xs : List A) (ys : List B) (r : Bool) → map f xs ≡ ys → r ≡ list_all (λ x. p (f x)) xs → r ≡ list_all p ys
all_items p f xs ys r e h = h ∙ sym (all-map p f xs) ∙ ap (list_all p) e

module _ (p : Naming → Bool) (u v : Naming) (ss : List (Value entity_selector)) (us : List (Value stop_time_update)) where
  rest : list_all p (map by_selector ss ++ map by_stop us) ≡ (list_all (λ s. p (by_selector s)) ss && list_all (λ s. p (by_stop s)) us)
  rest =
      list_all-append p (map by_selector ss) (map by_stop us)
      ∙ ap (λ b. b && list_all p (map by_stop us)) (all-map p by_selector ss)
      ∙ ap (λ b. list_all (λ s. p (by_selector s)) ss && b) (all-map p by_stop us)

  walked : list_all p (u ∷ v ∷ (map by_selector ss ++ map by_stop us)) ≡ (p u && (p v && (list_all (λ s. p (by_selector s)) ss && list_all (λ s. p (by_stop s)) us)))
  walked = ap (λ b. p u && (p v && b)) rest

  pub other_update : false ≡ p u → false ≡ list_all p (u ∷ v ∷ (map by_selector ss ++ map by_stop us))
  other_update h = ap (λ b. b && (p v && (list_all (λ s. p (by_selector s)) ss && list_all (λ s. p (by_stop s)) us))) h ∙ sym walked

  pub other_vehicle : true ≡ p u → false ≡ p v → false ≡ list_all p (u ∷ v ∷ (map by_selector ss ++ map by_stop us))
  other_vehicle h k =
      ap (λ b. b && (list_all (λ s. p (by_selector s)) ss && list_all (λ s. p (by_stop s)) us)) k
      ∙ ap (λ b. b && (p v && (list_all (λ s. p (by_selector s)) ss && list_all (λ s. p (by_stop s)) us))) h ∙ sym walked

  pub other_selector : true ≡ p u → true ≡ p v → false ≡ list_all (λ s. p (by_selector s)) ss → false ≡ list_all p (u ∷ v ∷ (map by_selector ss ++ map by_stop us))
  other_selector h k l =
      ap (λ b. b && list_all (λ s. p (by_stop s)) us) l
      ∙ ap (λ b. b && (list_all (λ s. p (by_selector s)) ss && list_all (λ s. p (by_stop s)) us)) k
      ∙ ap (λ b. b && (p v && (list_all (λ s. p (by_selector s)) ss && list_all (λ s. p (by_stop s)) us))) h ∙ sym walked

  pub same_all : (r : Bool) → true ≡ p u → true ≡ p v → true ≡ list_all (λ s. p (by_selector s)) ss → r ≡ list_all (λ s. p (by_stop s)) us → r ≡ list_all p (u ∷ v ∷ (map by_selector ss ++ map by_stop us))
  same_all r h k l m =
      m ∙ ap (λ b. b && list_all (λ s. p (by_stop s)) us) l
      ∙ ap (λ b. b && (list_all (λ s. p (by_selector s)) ss && list_all (λ s. p (by_stop s)) us)) k
      ∙ ap (λ b. b && (p v && (list_all (λ s. p (by_selector s)) ss && list_all (λ s. p (by_stop s)) us))) h ∙ sym walked

-- stop time updates name no trip
stops_same : (a b : Tables) (us : List (Value stop_time_update)) → true ≡ list_all (λ s. same_named_trip a b (by_stop s)) us
stops_same a b [] = refl
stops_same a b (u ∷ us) = stops_same a b us

pub same_trips : (a b : Tables) (u v : Naming) (ss : List (Value entity_selector)) (us : List (Value stop_time_update)) (r : Bool)
    → true ≡ same_named_trip a b u → true ≡ same_named_trip a b v → r ≡ list_all (λ s. same_named_trip a b (by_selector s)) ss
    → r ≡ list_all (same_named_trip a b) (u ∷ v ∷ (map by_selector ss ++ map by_stop us))
same_trips a b u v ss us true h k l = same_all (same_named_trip a b) u v ss us true h k l (stops_same a b us)
same_trips a b u v ss us false h k l = other_selector (same_named_trip a b) u v ss us h k l
