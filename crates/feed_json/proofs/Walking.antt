-- The first fault that `unform` names is the first of the walk.
use Rattle.std.proofs.Common.{◌≡◌, ◌+◌, ◌↔◌, ℕ, List, [], ◌∷◌, ◌++◌, Bool, true, false, cond, Option, Some, None, Result, Ok, Err, codes, refl, sym, ap, ◌∙◌, option_map}
use Rattle.std.specs.Option.{option_or}
use Rattle.std.specs.List.{AllByRecursion}
use Rattle.serde_json.specs.Data.{Data, Items, no_items, item, Members, no_members, member}
use Rattle.serde_json.specs.Find.{get, as_array, as_object}
use Rattle.feed_values.specs.Schema as schema
use Rattle.feed_values.specs.Schema.{Schema, Presence, Optional, Needed, Value}
use Rattle.feed_json.specs.declared.json_fault.JsonFault.{JsonFault}
use Rattle.feed_json.specs.declared.json_fault.JsonFault.TheVariants.{UnknownKey}
use Rattle.feed_json.specs.Faults.{fault_below, item_key, under, paired, ◌>>=◌, unless}
use Rattle.feed_json.specs.Unform.{of_kind, scalar_of, text_of, needed_at, slot_at, array_at, each_of, object_of, first_unknown, field_of, item_of, unknown_of, is_item_key, is_key, settling, slots_of, unform}
use Rattle.feed_json.specs.Later.{has_later, settled}
use Rattle.feed_json.specs.Walk.{IsFirst, fault_of, walk_under, walk_keys, walk_members, walk_object, walk_slot, walk_each, walk_items, walk_array, walk_unknown, number_of, wire_type_of, or_zero, walk_slots, walk_message}

-- the first fault of a list of checks
abbrev first : List (Option JsonFault) → Option JsonFault
first [] = None
first (None ∷ walk) = first walk
first (Some e ∷ walk) = Some e

first_append : (xs ys : List (Option JsonFault)) → first (xs ++ ys) ≡ option_or (first xs) (first ys)
first_append [] ys = refl
first_append (None ∷ xs) ys = first_append xs ys
first_append (Some e ∷ xs) ys = refl

first_under : (key : List ℕ) (xs : List (Option JsonFault)) → first (walk_under key xs) ≡ option_map (fault_below key) (first xs)
first_under key [] = refl
first_under key (None ∷ xs) = first_under key xs
first_under key (Some e ∷ xs) = refl

under_fault : {A : Type 0} (key : List ℕ) (r : Result A JsonFault) → fault_of (under key r) ≡ option_map (fault_below key) (fault_of r)
under_fault key (Ok a) = refl
under_fault key (Err e) = refl

paired_fault : {A B : Type 0} (x : Result A JsonFault) (y : Result B JsonFault) → fault_of (paired x y)
    ≡ option_or (fault_of x) (fault_of y)
paired_fault (Ok a) (Ok b) = refl
paired_fault (Ok a) (Err e) = refl
paired_fault (Err e) y = refl

-- reading and walking find the same
abbrev pub Agree : {A : Type 0} → (Data → Result A JsonFault) → (Data → List (Option JsonFault)) → Type 0
Agree read walk = (d : Data) → fault_of (read d) ≡ first (walk d)

-- ---- objects

more_keys : (known : List ℕ → Bool) (key : List ℕ) (d : Data) (rest : Members) (b : Bool) → known key ≡ b
    → first (walk_keys known rest) ≡ option_map UnknownKey (first_unknown known rest)
    → first (walk_keys known (member key d rest)) ≡ option_map UnknownKey (first_unknown known (member key d rest))
more_keys known key d rest true e more = rw e more
more_keys known key d rest false e more = rw e refl

keys_first : (known : List ℕ → Bool) (ms : Members) → first (walk_keys known ms) ≡ option_map UnknownKey (first_unknown known ms)
keys_first known no_members = refl
keys_first known (member key d rest) = more_keys known key d rest (known key) refl (keys_first known rest)

unless_fault : {A : Type 0} (o : Option JsonFault) (r : Result A JsonFault) → fault_of (unless o r) ≡ option_or o (fault_of r)
unless_fault (Some e) r = refl
unless_fault None r = refl

by_members : {A : Type 0} (known : List ℕ → Bool) (o : Option Members) (r : Result A JsonFault) (walk : List (Option JsonFault))
    → fault_of r ≡ first walk
    → fault_of (of_kind o >>= λ ms. unless (option_map UnknownKey (first_unknown known ms)) r) ≡ first (walk_members known o ++ walk)
by_members known None r walk same = refl
by_members known (Some ms) r walk same =
    unless_fault (option_map UnknownKey (first_unknown known ms)) r
    ∙ rw (first_append (walk_keys known ms) walk, keys_first known ms, same) refl

object_walk : {A : Type 0} (known : List ℕ → Bool) (read : Data → Result A JsonFault) (walk : Data → List (Option JsonFault))
    → Agree read walk → Agree (object_of known read) (walk_object known walk)
object_walk known read walk same d = by_members known (as_object d) (read d) (walk d) (same d)

-- ---- fields

at_walk : {A : Type 0} (key : List ℕ) (r : Result A JsonFault) (walk : List (Option JsonFault)) → fault_of r ≡ first walk
    → fault_of (under key r) ≡ first (walk_under key walk)
at_walk key r walk same = rw (under_fault key r, first_under key walk, same) refl

some_fault : {A : Type 0} (r : Result A JsonFault) → fault_of (r >>= λ a. Ok (Some a)) ≡ fault_of r
some_fault (Ok a) = refl
some_fault (Err e) = refl

slot_walk : {A : Type 0} (presence : Presence) (key : List ℕ) (read : Data → Result A JsonFault) (walk : Data
    → List (Option JsonFault)) (o : Option Data) → Agree read walk
    → fault_of (slot_at presence key read o) ≡ first (walk_slot presence key walk o)
slot_walk Optional key read walk None same = refl
slot_walk Optional key read walk (Some d) same = some_fault (under key (read d)) ∙ at_walk key (read d) (walk d) (same d)
slot_walk (Needed which) key read walk None same = refl
slot_walk (Needed which) key read walk (Some d) same = at_walk key (read d) (walk d) (same d)

-- ---- arrays

more_fault : {A : Type 0} (r : Result A JsonFault) (more : Result (List A) JsonFault)
    → fault_of (r >>= λ a. more >>= λ rest. Ok (a ∷ rest)) ≡ option_or (fault_of r) (fault_of more)
more_fault (Ok a) (Ok rest) = refl
more_fault (Ok a) (Err e) = refl
more_fault (Err e) more = refl

each_walk : {A : Type 0} (key : List ℕ) (read : Data → Result A JsonFault) (walk : Data → List (Option JsonFault)) (i : ℕ) (ds : Items)
    → Agree read walk
    → fault_of (each_of key read i ds) ≡ first (walk_each key walk i ds)
each_walk key read walk i no_items same = refl
each_walk key read walk i (item d rest) same =
    more_fault (under (item_key key i) (read d)) (each_of key read (i + 1) rest)
    ∙ rw (
      first_append (walk_under (item_key key i) (walk d)) (walk_each key walk (i + 1) rest),
      at_walk (item_key key i) (read d) (walk d) (same d),
      each_walk key read walk (i + 1) rest same,
    ) refl

items_walk : {A : Type 0} (key : List ℕ) (read : Data → Result A JsonFault) (walk : Data → List (Option JsonFault)) (o : Option Items)
    → Agree read walk
    → fault_of (under key (of_kind o) >>= λ ds. each_of key read 0 ds) ≡ first (walk_items key walk o)
items_walk key read walk None same = refl
items_walk key read walk (Some ds) same = each_walk key read walk 0 ds same

array_walk : {A : Type 0} (key : List ℕ) (read : Data → Result A JsonFault) (walk : Data → List (Option JsonFault)) (o : Option Data)
    → Agree read walk
    → fault_of (array_at key read o) ≡ first (walk_array key walk o)
array_walk key read walk None same = refl
array_walk key read walk (Some d) same = items_walk key read walk (as_array d) same

-- ---- unknown fields

one_check : (o : Option JsonFault) → o ≡ first (o ∷ [])
one_check None = refl
one_check (Some e) = refl

three_checks : {A : Type 0} (x y : Result ℕ JsonFault) (read : ℕ → ℕ → Result A JsonFault)
    → fault_of (x >>= λ number. y >>= λ wire. read number wire)
    ≡ first (fault_of x ∷ fault_of y ∷ fault_of (read (or_zero x) (or_zero y)) ∷ [])
three_checks (Ok number) (Ok wire) read = one_check (fault_of (read number wire))
three_checks (Ok number) (Err e) read = refl
three_checks (Err e) y read = refl

unknown_walk : (whole : Schema) → Agree (item_of whole) (walk_unknown whole)
unknown_walk whole d = three_checks (number_of d) (wire_type_of d) (λ number wire. needed_at (codes "value") (field_of whole number wire) (get (codes "value") d))

-- ---- messages

settling_fault : (s : Schema) (r : Result (Value s) JsonFault) → fault_of (settling s r) ≡ fault_of r
settling_fault s r = by_case (has_later s) r
  where
    by_case : (b : Bool) (r : Result (Value s) JsonFault) → fault_of (cond b (r >>= λ v. Ok (settled s v)) r) ≡ fault_of r
    by_case true (Ok v) = refl
    by_case true (Err e) = refl
    by_case false r = refl

settling_walk : (m : Schema) → Agree (slots_of m m) (walk_slots m m) → Agree (λ d. settling m (slots_of m m d)) (walk_slots m m)
settling_walk m same d = settling_fault m (slots_of m m d) ∙ same d

slots_walk : (whole s : Schema) → Agree (slots_of whole s) (walk_slots whole s)
slots_walk whole schema.end d =
    array_walk (codes "unknown") (unknown_of whole) (walk_object is_item_key (walk_unknown whole)) (get (codes "unknown") d) (object_walk is_item_key (item_of whole) (walk_unknown whole) (unknown_walk whole))
slots_walk whole (schema.scalar n name presence t rest) d =
    paired_fault (slot_at presence (codes name) (scalar_of (codes name) t) (get (codes name) d)) (slots_of whole rest d)
    ∙ rw (
      first_append (walk_slot presence (codes name) (λ v. fault_of (scalar_of (codes name) t v) ∷ []) (get (codes name) d)) (walk_slots whole rest d),
      slot_walk presence (codes name) (scalar_of (codes name) t) (λ v. fault_of (scalar_of (codes name) t v) ∷ []) (get (codes name) d) (λ v. one_check (fault_of (scalar_of (codes name) t v))),
      slots_walk whole rest d,
    ) refl
slots_walk whole (schema.text n name presence rest) d =
    paired_fault (slot_at presence (codes name) text_of (get (codes name) d)) (slots_of whole rest d)
    ∙ rw (
      first_append (walk_slot presence (codes name) (λ v. fault_of (text_of v) ∷ []) (get (codes name) d)) (walk_slots whole rest d),
      slot_walk presence (codes name) text_of (λ v. fault_of (text_of v) ∷ []) (get (codes name) d) (λ v. one_check (fault_of (text_of v))),
      slots_walk whole rest d,
    ) refl
slots_walk whole (schema.message n name presence m rest) d =
    paired_fault (slot_at presence (codes name) (object_of (is_key m) (λ e. settling m (slots_of m m e))) (get (codes name) d)) (slots_of whole rest d)
    ∙ rw (
      first_append (walk_slot presence (codes name) (walk_object (is_key m) (walk_slots m m)) (get (codes name) d)) (walk_slots whole rest d),
      slot_walk presence (codes name) (object_of (is_key m) (λ e. settling m (slots_of m m e))) (walk_object (is_key m) (walk_slots m m)) (get (codes name) d) (object_walk (is_key m) (λ e. settling m (slots_of m m e)) (walk_slots m m) (settling_walk m (slots_walk m m))),
      slots_walk whole rest d,
    ) refl
slots_walk whole (schema.repeated n name m rest) d =
    paired_fault (array_at (codes name) (object_of (is_key m) (λ e. settling m (slots_of m m e))) (get (codes name) d)) (slots_of whole rest d)
    ∙ rw (
      first_append (walk_array (codes name) (walk_object (is_key m) (walk_slots m m)) (get (codes name) d)) (walk_slots whole rest d),
      array_walk (codes name) (object_of (is_key m) (λ e. settling m (slots_of m m e))) (walk_object (is_key m) (walk_slots m m)) (get (codes name) d) (object_walk (is_key m) (λ e. settling m (slots_of m m e)) (walk_slots m m) (settling_walk m (slots_walk m m))),
      slots_walk whole rest d,
    ) refl

message_walk : (s : Schema) (d : Data) → fault_of (unform s d) ≡ first (walk_message s d)
message_walk s d = object_walk (is_key s) (λ e. settling s (slots_of s s e)) (walk_slots s s) (settling_walk s (slots_walk s s)) d

-- ---- the first of a list

first_is : (walk : List (Option JsonFault)) (e : JsonFault) → first walk ≡ Some e → IsFirst e walk
first_is [] e h = cc h
first_is (Some f ∷ walk) e h = record { before = []; after = walk; found = cc; none = tt }
first_is (None ∷ walk) e h =
    let rest = first_is walk e h in
    record { before = None ∷ rest.before; after = rest.after; found = ap (λ xs. None ∷ xs) rest.found; none = (refl, rest.none) }

behind_none : (before after : List (Option JsonFault)) (e : JsonFault) → AllByRecursion (λ check. check ≡ None) before
    → first (before ++ Some e ∷ after) ≡ Some e
behind_none [] after e none = refl
behind_none (o ∷ before) after e none = rw none.0 (behind_none before after e none.1)

is_first : (walk : List (Option JsonFault)) (e : JsonFault) → IsFirst e walk → first walk ≡ Some e
is_first walk e h = rw h.found (behind_none h.before h.after e h.none)

none_first : (walk : List (Option JsonFault)) → first walk ≡ None → AllByRecursion (λ check. check ≡ None) walk
none_first [] h = tt
none_first (None ∷ walk) h = (refl, none_first walk h)
none_first (Some e ∷ walk) h = cc h

err_fault : {A : Type 0} (r : Result A JsonFault) (e : JsonFault) → fault_of r ≡ Some e → r ≡ Err e
err_fault (Ok a) e h = cc h
err_fault (Err f) e h = cc

pub fault_is_first : (s : Schema) (d : Data) (e : JsonFault) → (unform s d ≡ Err e) ↔ IsFirst e (walk_message s d)
fault_is_first s d e = (
  (λ h. first_is (walk_message s d) e (sym (message_walk s d) ∙ ap fault_of h)),
  (λ h. err_fault (unform s d) e (message_walk s d ∙ is_first (walk_message s d) e h)),
)

pub no_fault_is_found : (s : Schema) (d : Data) (v : Value s) → unform s d ≡ Ok v
    → AllByRecursion (λ check. check ≡ None) (walk_message s d)
no_fault_is_found s d v h = none_first (walk_message s d) (sym (message_walk s d) ∙ ap fault_of h)
