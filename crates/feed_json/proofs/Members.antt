-- Members of an object that were put one by one.
use Rattle.std.proofs.Common.{◌≡◌, ◌<◌, ℕ, List, [], ◌∷◌, length, Option, Some, None, Bool, true, false, ◌||◌, codes, refl, sym, ◌∙◌, Ordering, Less, Equal, Greater, nat_cmp, is_eq, option_map, map, arith}
use Rattle.std.proofs.lemmas.Map.Text.{is_eq-slice_cmp}
use Rattle.std.proofs.lemmas.Slice.Eq.{bytes_eq-Decides}
use Rattle.std.specs.Cmp.Lexicographic.{slice_cmp}
use Rattle.std.specs.Ordering.{match_ordering}
use Rattle.std.specs.Str.{bytes_eq}
use Rattle.serde_json.specs.Data.{Data, array, Members, no_members, member, put}
use Rattle.serde_json.specs.Find.{get_member}
use Rattle.serde_json.specs.View.{items_of}
use Rattle.serde_json.proofs.Views.{get_member-put}
use Rattle.std.specs.FinMap.{nat_cmp-IsAntisymmetric, slice_cmp-IsAntisymmetric}
use Rattle.feed_values.specs.Schema as schema
use Rattle.feed_values.specs.Schema.{Schema, Value, present}
use Rattle.feed_json.specs.Form.{scalar_form, unknown_form, array_form, with_member, with_slots}
use Rattle.feed_json.specs.Unform.{first_unknown, is_key}

-- ---- one member more

at_order : (o : Ordering) (known : List ℕ → Bool) (k l : List ℕ) (d e : Data) (ms : Members) → known k ≡ true → known l ≡ true
    → first_unknown known ms ≡ None → first_unknown known (put k d ms) ≡ None
    → first_unknown known (match_ordering o (member k d (member l e ms)) (member l d ms) (member l e (put k d ms))) ≡ None
at_order Less known k l d e ms hk hl rest later = rw (hk, hl) rest
at_order Equal known k l d e ms hk hl rest later = rw hl rest
at_order Greater known k l d e ms hk hl rest later = rw hl later

first_known : (known : List ℕ → Bool) (l : List ℕ) (e : Data) (ms : Members) (b : Bool) → known l ≡ b
    → first_unknown known (member l e ms) ≡ None → (b ≡ true) × (first_unknown known ms ≡ None)
first_known known l e ms true is h = (refl, rw is at h)
first_known known l e ms false is h = cc (rw is at h)

-- a known key more leaves no unknown key
known_put : (known : List ℕ → Bool) (k : List ℕ) (d : Data) (ms : Members) → known k ≡ true → first_unknown known ms ≡ None
    → first_unknown known (put k d ms) ≡ None
known_put known k d no_members hk h = rw hk refl
known_put known k d (member l e ms) hk h =
    let parts = first_known known l e ms (known l) refl h in
    at_order (slice_cmp nat_cmp k l) known k l d e ms hk parts.0 parts.1 (known_put known k d ms hk parts.1)

skip : {X : Type 0} (o : Ordering) (a b : X) → is_eq o ≡ false → match_ordering o a b a ≡ a
skip Less a b e = refl
skip Equal a b e = cc e
skip Greater a b e = refl

-- at another key nothing changes
other_order : (o : Ordering) (q k l : List ℕ) (d e : Data) (ms : Members) → slice_cmp nat_cmp k l ≡ o → is_eq (slice_cmp nat_cmp q k)
    ≡ false → get_member q (put k d ms) ≡ get_member q ms
    → get_member q (match_ordering o (member k d (member l e ms)) (member l d ms) (member l e (put k d ms))) ≡ get_member q (member l e ms)
other_order Less q k l d e ms is apart later = skip (slice_cmp nat_cmp q k) _ _ apart
other_order Equal q k l d e ms is apart later =
    let same : k ≡ l = slice_cmp-IsAntisymmetric nat_cmp-IsAntisymmetric k l is in
    let other = rw same at apart in
    skip (slice_cmp nat_cmp q l) _ _ other ∙ sym (skip (slice_cmp nat_cmp q l) _ _ other)
other_order Greater q k l d e ms is apart later = rw later

get_put_other : (q k : List ℕ) (d : Data) (ms : Members) → bytes_eq q k ≡ false → get_member q (put k d ms) ≡ get_member q ms
get_put_other q k d no_members apart = skip (slice_cmp nat_cmp q k) None (Some d) (is_eq-slice_cmp q k ∙ apart)
get_put_other q k d (member l e ms) apart = other_order _ q k l d e ms refl (is_eq-slice_cmp q k ∙ apart) (get_put_other q k d ms apart)

-- the same of a member that may be there
known_with : (known : List ℕ → Bool) (k : List ℕ) (o : Option Data) (ms : Members) → known k ≡ true → first_unknown known ms ≡ None
    → first_unknown known (with_member k o ms) ≡ None
known_with known k None ms hk h = h
known_with known k (Some d) ms hk h = known_put known k d ms hk h

pub get_other : (q k : List ℕ) (o : Option Data) (ms : Members) → bytes_eq q k ≡ false → get_member q (with_member k o ms) ≡ get_member q ms
get_other q k None ms apart = refl
get_other q k (Some d) ms apart = get_put_other q k d ms apart

pub get_same : (k : List ℕ) (o : Option Data) (ms : Members) → get_member k ms ≡ None → get_member k (with_member k o ms) ≡ o
get_same k None ms none = none
get_same k (Some d) ms none = get_member-put k d ms

-- ---- the members of a message

pub neither : (a b : Bool) → (a || b) ≡ false → (a ≡ false) × (b ≡ false)
neither true b e = cc e
neither false b e = (refl, e)

pub left_true : (a b : Bool) → a ≡ true → (a || b) ≡ true
left_true a b e = rw e refl

pub right_true : (a b : Bool) → b ≡ true → (a || b) ≡ true
right_true true b e = refl
right_true false b e = e

-- at a key that is none of its slots' nothing changes
pub get_behind : (s : Schema) (v : Value s) (q : List ℕ) (ms : Members) → is_key s q ≡ false → get_member q (with_slots s v ms)
    ≡ get_member q ms
get_behind schema.end v q ms no_key = get_other q (codes "unknown") (array_form (map unknown_form v)) ms no_key
get_behind (schema.scalar n name presence t rest) v q ms no_key =
    let parts = neither (bytes_eq q (codes name)) (is_key rest q) no_key in
    get_behind rest v.1 q _ parts.1 ∙ get_other q (codes name) (option_map (scalar_form t) (present presence v.0)) ms parts.0
get_behind (schema.text n name presence rest) v q ms no_key =
    let parts = neither (bytes_eq q (codes name)) (is_key rest q) no_key in
    get_behind rest v.1 q _ parts.1 ∙ get_other q (codes name) _ ms parts.0
get_behind (schema.message n name presence m rest) v q ms no_key =
    let parts = neither (bytes_eq q (codes name)) (is_key rest q) no_key in
    get_behind rest v.1 q _ parts.1 ∙ get_other q (codes name) _ ms parts.0
get_behind (schema.repeated n name m rest) v q ms no_key =
    let parts = neither (bytes_eq q (codes name)) (is_key rest q) no_key in
    get_behind rest v.1 q _ parts.1 ∙ get_other q (codes name) _ ms parts.0

pub same_text : (k : List ℕ) → bytes_eq k k ≡ true
same_text k = (bytes_eq-Decides k k).1 refl

-- where the keys of a message are known, its members have no other
pub known_slots : (known : List ℕ → Bool) (s : Schema) (v : Value s) (ms : Members) → ((k : List ℕ) → is_key s k ≡ true → known k ≡ true)
    → first_unknown known ms ≡ None → first_unknown known (with_slots s v ms) ≡ None
known_slots known schema.end v ms all h =
    known_with known (codes "unknown") (array_form (map unknown_form v)) ms (all (codes "unknown") refl) h
known_slots known (schema.scalar n name presence t rest) v ms all h =
    known_slots known rest v.1 _ (λ k e. all k (right_true (bytes_eq k (codes name)) (is_key rest k) e)) (known_with known (codes name) _ ms (all (codes name) (left_true _ (is_key rest (codes name)) (same_text (codes name)))) h)
known_slots known (schema.text n name presence rest) v ms all h =
    known_slots known rest v.1 _ (λ k e. all k (right_true (bytes_eq k (codes name)) (is_key rest k) e)) (known_with known (codes name) _ ms (all (codes name) (left_true _ (is_key rest (codes name)) (same_text (codes name)))) h)
known_slots known (schema.message n name presence m rest) v ms all h =
    known_slots known rest v.1 _ (λ k e. all k (right_true (bytes_eq k (codes name)) (is_key rest k) e)) (known_with known (codes name) _ ms (all (codes name) (left_true _ (is_key rest (codes name)) (same_text (codes name)))) h)
known_slots known (schema.repeated n name m rest) v ms all h =
    known_slots known rest v.1 _ (λ k e. all k (right_true (bytes_eq k (codes name)) (is_key rest k) e)) (known_with known (codes name) _ ms (all (codes name) (left_true _ (is_key rest (codes name)) (same_text (codes name)))) h)

-- ---- an array, where it has items

pub is_array : {A : Type 0} (write : A → Data) (xs : List A) → 0 < length xs → array_form (map write xs) ≡ Some (array (items_of (map write xs)))
is_array write [] some = absurd (omega arith)
is_array write (x ∷ xs) some = refl

pub no_array : {A : Type 0} (write : A → Data) (xs : List A) → length xs ≡ 0 → array_form (map write xs) ≡ None
no_array write [] none = refl
no_array write (x ∷ xs) none = absurd (omega arith)
