-- Items of a text's arrays, read one after the other.
use Rattle.std.proofs.Common.{rules, ◌≡◌, ℕ, ◌+◌, List, [], ◌∷◌, ◌++◌, length, Option, Some, None, Result, Ok, Err, Bool, true, false, refl, sym, ap, ◌∙◌, arith, append_assoc, length-append, true≢false, Bor, Vec}
use Rattle.std.specs.Prelude.{is_ok, option_and_then, if◌then◌else◌}
use Rattle.std.specs.Option.{option_map}
use Rattle.json.specs.Json as json
use Rattle.json.specs.Value.{value_view, items_view, members_view}
use Rattle.json.specs.declared.value.Value.{Value as Lean, Null, Array, Object, the_lemmas}
use Rattle.json.proofs.Trees.{view-Array, view-Object}
use Rattle.serde_json.specs.Data.{Data, array, Items, item}
use Rattle.serde_json.specs.Read.{of_json, of_items}
use Rattle.feed_values.specs.Schema.{Schema, Value}
use Rattle.feed_json.specs.declared.json_fault.JsonFault.{JsonFault}
use Rattle.feed_json.specs.Faults.{item_key, under, ◌>>=◌}
use Rattle.json_entities.specs.Parts.{and_item, array_said, emptied, entity_values, is_entity, items_said, last_said, left_said, value_said}
use Rattle.feed_json.specs.Unform.{each_of, unform}

pub none_left : {A : Type 0} (xs : List A) → length xs ≡ 0 → xs ≡ []
none_left [] h = refl
none_left (x ∷ xs) h = absurd (omega (arith, h))

pub null_view : {A : Type 0} (v : Lean A) → v ≡ Null → value_view v ≡ json.null
null_view v is = search (rules, the_lemmas, is)

pub array_view : {A : Type 0} (v : Vec (Lean A) A) → value_view (Array v) ≡ json.array (items_view v.items)
array_view v = view-Array v

pub object_view : {A : Type 0} (v : Vec (Bor (List ℕ) × Lean A) A) → value_view (Object v) ≡ json.object (members_view v.items)
object_view v = view-Object v

-- ---- members and items before others
abbrev pub members_before : {A : Type 0} → List (Bor (List ℕ) × Lean A) → json.Members → json.Members
members_before [] rest = rest
members_before (m ∷ ms) rest = json.member m.0.now (value_view m.1) (members_before ms rest)

abbrev pub items_before : {A : Type 0} → List (Lean A) → json.Items → json.Items
items_before [] rest = rest
items_before (v ∷ vs) rest = json.item (value_view v) (items_before vs rest)

pub all_members : {A : Type 0} (ms : List (Bor (List ℕ) × Lean A)) → members_before ms json.no_members ≡ members_view ms
all_members [] = refl
all_members (m ∷ ms) = ap (json.member m.0.now (value_view m.1)) (all_members ms)

pub all_items : {A : Type 0} (vs : List (Lean A)) → items_before vs json.no_items ≡ items_view vs
all_items [] = refl
all_items (v ∷ vs) = ap (json.item (value_view v)) (all_items vs)

pub member_behind : {A : Type 0} (ms : List (Bor (List ℕ) × Lean A)) (m : Bor (List ℕ) × Lean A) (rest : json.Members) → members_before (ms ++ m ∷ []) rest ≡ members_before ms (json.member m.0.now (value_view m.1) rest)
member_behind [] m rest = refl
member_behind (n ∷ ms) m rest = ap (json.member n.0.now (value_view n.1)) (member_behind ms m rest)

pub item_behind : {A : Type 0} (vs : List (Lean A)) (v : Lean A) (rest : json.Items) → items_before (vs ++ v ∷ []) rest ≡ items_before vs (json.item (value_view v) rest)
item_behind [] v rest = refl
item_behind (w ∷ vs) v rest = ap (json.item (value_view w)) (item_behind vs v rest)

-- the members so far and what is left of the others, one member later
pub others_after : {A : Type 0} (ms : List (Bor (List ℕ) × Lean A)) (key : Bor (List ℕ)) (v put : Lean A) (rest : List (Bor (List ℕ) × Lean A)) (all : json.Members) (b : Bool) → is_entity key.now ≡ b → value_view put ≡ (if b then json.null else value_view v)
    → members_before ms (emptied (members_view ((key, v) ∷ rest))) ≡ all → members_before (ms ++ (key, put) ∷ []) (emptied (members_view rest)) ≡ all
others_after ms key v put rest all b is same before =
    member_behind ms (key, put) (emptied (members_view rest))
    ∙ ap (λ j. members_before ms (json.member key.now j (emptied (members_view rest)))) (same ∙ ap (λ x. if x then json.null else value_view v) (sym is)) ∙ before

-- the values at the key of entities, and those that are left, one member later
pub values_after : {A : Type 0} (vs : List (Lean A)) (key : Bor (List ℕ)) (v : Lean A) (rest : List (Bor (List ℕ) × Lean A)) (all : json.Items) → is_entity key.now ≡ true → items_before vs (entity_values (members_view ((key, v) ∷ rest))) ≡ all
    → items_before (vs ++ v ∷ []) (entity_values (members_view rest)) ≡ all
values_after vs key v rest all is before =
    item_behind vs v (entity_values (members_view rest))
    ∙ ap (λ x. items_before vs (if x then json.item (value_view v) (entity_values (members_view rest)) else entity_values (members_view rest))) (sym is) ∙ before

pub values_stay : {A : Type 0} (vs : List (Lean A)) (key : Bor (List ℕ)) (v : Lean A) (rest : List (Bor (List ℕ) × Lean A)) (all : json.Items) → is_entity key.now ≡ false → items_before vs (entity_values (members_view ((key, v) ∷ rest))) ≡ all
    → items_before vs (entity_values (members_view rest)) ≡ all
values_stay vs key v rest all is before = ap (λ x. items_before vs (if x then json.item (value_view v) (entity_values (members_view rest)) else entity_values (members_view rest))) (sym is) ∙ before

-- ---- one item more
-- what is left, behind what was read
abbrev behind : {A : Type 0} → List A → Result (List A) JsonFault → Result (List A) JsonFault
behind done left = left >>= λ more. Ok (done ++ more)

joined : {A : Type 0} (done : List A) (v : A) (more : Result (List A) JsonFault) → behind done (more >>= λ vs. Ok (v ∷ vs)) ≡ behind (done ++ v ∷ []) more
joined done v (Ok vs) = ap Ok (sym (append_assoc done (v ∷ []) vs))
joined done v (Err fault) = refl

ok_is : {A : Type 0} {x y : A} → (let r : Result A JsonFault = Ok x in r) ≡ Ok y → x ≡ y
ok_is h = cc

err_is : {A : Type 0} {e f : JsonFault} → (let r : Result A JsonFault = Err e in r) ≡ Err f → e ≡ f
err_is h = cc

not_both : {A : Type 0} {x : A} {e : JsonFault} → Err e ≡ Ok x → ⊥
not_both h = true≢false (sym (ap is_ok h))

module _ (key : List ℕ) (s : Schema) (done : List (Value s)) (ds : Items) where
  next_is : (r : Result (Value s) JsonFault) (more : List (Value s)) → (r >>= λ v. Ok (done ++ v ∷ [])) ≡ Ok more → behind done (r >>= λ v. each_of key (unform s) (length done + 1) ds >>= λ vs. Ok (v ∷ vs)) ≡ behind more (each_of key (unform s) (length more) ds)
  next_is (Ok v) more is =
      joined done v (each_of key (unform s) (length done + 1) ds)
      ∙ ap (λ n. behind (done ++ v ∷ []) (each_of key (unform s) n ds)) (sym (length-append done (v ∷ [])))
      ∙ ap (λ vs. behind vs (each_of key (unform s) (length vs) ds)) (ok_is is)
  next_is (Err fault) more is = absurd (not_both is)

  fault_is : (r : Result (Value s) JsonFault) (fault : JsonFault) → (r >>= λ v. Ok (done ++ v ∷ [])) ≡ Err fault → behind done (r >>= λ v. each_of key (unform s) (length done + 1) ds >>= λ vs. Ok (v ∷ vs)) ≡ Err fault
  fault_is (Ok v) fault is = absurd (not_both (sym is))
  fault_is (Err other) fault is = ap Err (err_is is)

taken : {B : Type 0} (f g : Items → B) (d : Data) (o : Option Items) → ((ds : Items) → f (item d ds) ≡ g ds) → option_map f (option_map (item d) o) ≡ option_map g o
taken f g d None same = refl
taken f g d (Some ds) same = ap Some (same ds)

pub read_item : {B : Type 0} (f g : Items → B) (j : json.Json) (js : json.Items) (d : Data) → of_json j ≡ Some d → ((ds : Items) → f (item d ds) ≡ g ds) → option_map f (of_items (json.item j js)) ≡ option_map g (of_items js)
read_item f g j js d is same = ap (λ o. option_map f (option_and_then (λ x. option_map (item x) (of_items js)) o)) is ∙ taken f g d (of_items js) same

-- an item's message was put behind those before
pub item_taken : (key : List ℕ) (s : Schema) (done more : List (Value s)) (d : Data) → and_item key s done d ≡ Ok more → (ds : Items) → left_said key s more None ds ≡ left_said key s done None (item d ds)
item_taken key s done more d read ds = sym (next_is key s done ds (under (item_key key (length done)) (unform s d)) more read)

-- an item has the first fault
pub item_refused : (key : List ℕ) (s : Schema) (done more : List (Value s)) (fault : JsonFault) (d : Data) → and_item key s done d ≡ Err fault → (ds : Items) → left_said key s more (Some fault) ds ≡ left_said key s done None (item d ds)
item_refused key s done more fault d read ds = sym (fault_is key s done ds (under (item_key key (length done)) (unform s d)) fault read)

pub last_read : {A : Type 0} (say : Data → A) (before now : A) (j : json.Json) (js : json.Items) (d : Data) → of_json j ≡ Some d → say d ≡ now
    → option_map (last_said say before) (of_items (json.item j js)) ≡ option_map (last_said say now) (of_items js)
last_read say before now j js d is said = read_item (last_said say before) (last_said say now) j js d is (λ ds. ap (λ x. last_said say x ds) said)

-- items of which the first, or one behind it, isn't JSON
pub first_refused : (j : json.Json) (js : json.Items) → of_json j ≡ None → of_items (json.item j js) ≡ None
first_refused j js is = ap (option_and_then (λ d. option_map (item d) (of_items js))) is

pub later_refused : (j : json.Json) (js : json.Items) → of_items js ≡ None → of_items (json.item j js) ≡ None
later_refused j js is = at (of_json j)
  where
    at : (o : Option Data) → option_and_then (λ d. option_map (item d) (of_items js)) o ≡ None
    at None = refl
    at (Some d) = ap (option_map (item d)) is

after_none : {A : Type 0} (r : Result (List A) JsonFault) → behind [] r ≡ r
after_none (Ok more) = refl
after_none (Err fault) = refl

-- before the first item nothing was read
pub none_read : (key : List ℕ) (s : Schema) (o : Option Items) → option_map (left_said key s [] None) o ≡ option_map (each_of key (unform s) 0) o
none_read key s None = refl
none_read key s (Some ds) = ap Some (after_none (each_of key (unform s) 0 ds))

-- what an array says at a key is what its items say
pub array_is_said : (key : List ℕ) (s : Schema) (js : json.Items) → value_said key s (json.array js) ≡ items_said key s js
array_is_said key s js = at (of_items js)
  where
    at : (o : Option Items) → option_map (array_said key s) (option_map array o) ≡ option_map (each_of key (unform s) 0) o
    at None = refl
    at (Some ds) = refl
