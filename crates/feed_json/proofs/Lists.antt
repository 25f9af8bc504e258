-- Lists of items that are read one by one.
use Rattle.std.proofs.Common.{List, [], ◌∷◌, ◌++◌, map, Result, Ok, Err}
use Rattle.std.specs.List.{AllByRecursion}
use Rattle.feed_json.specs.declared.json_fault.JsonFault.{JsonFault}

-- items that were read, before those that are left
abbrev pub after_items : {A : Type 0} → List A → Result (List A) JsonFault → Result (List A) JsonFault
after_items done (Ok more) = Ok (done ++ more)
after_items done (Err e) = Err e

-- one item more, of which the same holds
pub all_push : {A B : Type 0} (P : B → Type 0) (f : A → B) (xs : List A) (x : A) → AllByRecursion P (map f xs) → P (f x)
    → AllByRecursion P (map f (xs ++ x ∷ []))
all_push P f [] x all p = (p, tt)
all_push P f (y ∷ xs) x all p = (all.0, all_push P f xs x all.1 p)
