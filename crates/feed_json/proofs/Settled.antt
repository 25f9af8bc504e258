-- Fields that are moved to the slots that the reference got later.
use Rattle.std.proofs.Common.{◌≡◌, ◌==◌, ℕ, ◌%◌, ◌^◌, pos, Bool, true, false, not, cond, leb, ◌&&◌, ◌||◌, List, [], ◌∷◌, ◌++◌, Some, None, Result, Ok, refl, sym, ap, ◌∙◌, append_assoc}
use Rattle.std.specs.Option.{is_some}
use Rattle.std.specs.List.{filter, AllByRecursion}
use Rattle.std.proofs.lemmas.List.{append-nil}
use Rattle.rt_wire.specs.Fields.{WireField, WireValue, Varint, Fixed64, Len, Group, Fixed32}
use Rattle.feed_values.specs.Schema as schema
use Rattle.feed_values.specs.Schema.{Schema, Scalar, Value}
use Rattle.feed_values.specs.Meaning.{scalar_in, payload_in, in_slot, is_of_slot}
use Rattle.feed_values.specs.WellFormed.{IsUnknown}
use Rattle.feed_json.specs.Holds.{Holds}
use Rattle.feed_json.specs.declared.json_fault.JsonFault.{JsonFault}
use Rattle.feed_json.specs.Unform.{settling}
use Rattle.feed_json.specs.Later.{is_later, has_more, is_more, has_later, is_moved, may_move, is_item, IsItem, moved, all_moved, unknown_in, with_unknown, settled}

-- ---- items of messages without later slots, and others
not_true : (b : Bool) → not b ≡ true → b ≡ false
not_true true h = cc h
not_true false h = refl

unmoved_item : (has moves may of_slot : Bool) → has ≡ false → cond (has && moves) may (not of_slot) ≡ true → of_slot ≡ false
unmoved_item true moves may of_slot h e = cc h
unmoved_item false moves may of_slot h e = not_true of_slot e

one_unknown : (s : Schema) (f : WireField) → has_later s ≡ false → IsItem s f → IsUnknown s f
one_unknown s f h i = record { writable = i.writable; numbers = i.numbers; unknown = unmoved_item (has_later s) (is_moved s f) (may_move s f) (is_of_slot s f) h i.item }

pub all_unknown : (s : Schema) (l : List WireField) → has_later s ≡ false → AllByRecursion (IsItem s) l → AllByRecursion (IsUnknown s) l
all_unknown s [] h all = tt
all_unknown s (f ∷ l) h all = (one_unknown s f h all.0, all_unknown s l h all.1)

-- an item that isn't moved is of no slot, and one that is is taken
kept_item : (has moves may of_slot : Bool) → moves ≡ false → cond (has && moves) may (not of_slot) ≡ true → of_slot ≡ false
kept_item true true may of_slot h e = cc h
kept_item true false may of_slot h e = not_true of_slot e
kept_item false moves may of_slot h e = not_true of_slot e

pub kept_unknown : (s : Schema) (f : WireField) → is_moved s f ≡ false → IsItem s f → IsUnknown s f
kept_unknown s f h i = record { writable = i.writable; numbers = i.numbers; unknown = kept_item (has_later s) (is_moved s f) (may_move s f) (is_of_slot s f) h i.item }

-- ---- which messages have fields that are moved
left_false : (a b : Bool) → (a || b) ≡ false → (a ≡ false) × (b ≡ false)
left_false true b h = absurd (cc h)
left_false false b h = (refl, h)

no_more : (t : Scalar) (x : WireValue) → has_more t ≡ false → is_more t x ≡ false
no_more schema.Bool x h = refl
no_more schema.U32 x h = refl
no_more schema.I32 x h = refl
no_more schema.U64 x h = refl
no_more schema.I64 x h = refl
no_more schema.Bits32 x h = refl
no_more schema.Bits64 x h = refl
no_more (schema.Enum first last) x h = refl
no_more (schema.EnumOr first last more) x h = absurd (cc h)

pub none_moved : (s : Schema) (f : WireField) → has_later s ≡ false → is_moved s f ≡ false
none_moved schema.end f h = refl
none_moved (schema.scalar n name presence t rest) f h = let p = left_false (has_more t) (has_later rest) h in rw (no_more t f.value p.0) (none_moved rest f p.1)
none_moved (schema.text n name presence rest) f h = let p = left_false (is_later name) (has_later rest) h in rw p.0 (none_moved rest f p.1)
none_moved (schema.message n name presence m rest) f h = let p = left_false (is_later name) (has_later rest) h in rw p.0 (none_moved rest f p.1)
none_moved (schema.repeated n name m rest) f h = none_moved rest f h

pub moved_may : (s : Schema) (f : WireField) → is_moved s f ≡ true → IsItem s f → may_move s f ≡ true
moved_may s f h i = by_case (has_later s) refl
  where
    by_case : (b : Bool) → has_later s ≡ b → may_move s f ≡ true
    by_case true e = rw (e, h) at i.item
    by_case false e = absurd (cc (sym (none_moved s f e) ∙ h))

-- ---- a field that is moved is of a slot
more_given : (t : Scalar) (x : WireValue) → is_more t x ≡ true → is_some (scalar_in t x) ≡ true
more_given (schema.EnumOr first last more) (Varint n) h = given (leb first (n % 2 ^ 32) && leb (n % 2 ^ 32) last) (n % 2 ^ 32 == more) (pos (n % 2 ^ 32)) h
  where
    given : {A : Type 0} (a b : Bool) (x : A) → b ≡ true → is_some (cond (a || b) (Some x) None) ≡ true
    given true b x e = refl
    given false true x e = refl
    given false false x e = absurd (cc e)
more_given (schema.EnumOr first last more) (Fixed64 n) h = absurd (cc h)
more_given (schema.EnumOr first last more) (Len n) h = absurd (cc h)
more_given (schema.EnumOr first last more) (Group n) h = absurd (cc h)
more_given (schema.EnumOr first last more) (Fixed32 n) h = absurd (cc h)
more_given schema.Bool x h = absurd (cc h)
more_given schema.U32 x h = absurd (cc h)
more_given schema.I32 x h = absurd (cc h)
more_given schema.U64 x h = absurd (cc h)
more_given schema.I64 x h = absurd (cc h)
more_given schema.Bits32 x h = absurd (cc h)
more_given schema.Bits64 x h = absurd (cc h)
more_given (schema.Enum first last) x h = absurd (cc h)

number_slot : (t : Scalar) (n : ℕ) (f : WireField) (b : Bool) → (f.number == n) ≡ b → (is_more t f.value && b) ≡ true → is_some (in_slot (scalar_in t) n f) ≡ true
number_slot t n f true e h = rw e (more_given t f.value (left_true (is_more t f.value) true h))
  where
    left_true : (a b : Bool) → (a && b) ≡ true → a ≡ true
    left_true true b h = refl
    left_true false b h = absurd (cc h)
number_slot t n f false e h = absurd (never (is_more t f.value) h)
  where
    never : (a : Bool) → (a && false) ≡ true → ⊥
    never true h = cc h
    never false h = cc h

either : (a b c d : Bool) → (a ≡ true → c ≡ true) → (b ≡ true → d ≡ true) → (a || b) ≡ true → (c || d) ≡ true
either true b true d f g h = refl
either true b false d f g h = cc (f refl)
either false b true d f g h = refl
either false b false d f g h = g h

second : (a b : Bool) → (a && b) ≡ true → b ≡ true
second true b h = h
second false b h = absurd (cc h)

pub moved_slot : (s : Schema) (f : WireField) → is_moved s f ≡ true → is_of_slot s f ≡ true
moved_slot schema.end f h = absurd (cc h)
moved_slot (schema.scalar n name presence t rest) f h = either _ _ _ _ (number_slot t n f (f.number == n) refl) (moved_slot rest f) h
moved_slot (schema.text n name presence rest) f h = either _ _ _ _ (second (is_later name) _) (moved_slot rest f) h
moved_slot (schema.message n name presence m rest) f h = either _ _ _ _ (second (is_later name) _) (moved_slot rest f) h
moved_slot (schema.repeated n name m rest) f h = either false (is_moved rest f) _ _ (λ e. absurd (cc e)) (moved_slot rest f) h

unknown_unmoved : (s : Schema) (f : WireField) → IsUnknown s f → is_moved s f ≡ false
unknown_unmoved s f u = by_case (is_moved s f) refl
  where
    by_case : (b : Bool) → is_moved s f ≡ b → is_moved s f ≡ false
    by_case true e = absurd (cc (sym u.unknown ∙ moved_slot s f e))
    by_case false e = e

plain_item : (has moves may of_slot : Bool) → moves ≡ false → of_slot ≡ false → cond (has && moves) may (not of_slot) ≡ true
plain_item has true may of_slot p q = absurd (cc p)
plain_item has false may true p q = absurd (cc q)
plain_item true false may false p q = refl
plain_item false false may false p q = refl

pub unknown_item : (s : Schema) (f : WireField) → IsUnknown s f → is_item s f ≡ true
unknown_item s f u = plain_item (has_later s) (is_moved s f) (may_move s f) (is_of_slot s f) (unknown_unmoved s f u) u.unknown

-- ---- a message that holds nothing to be moved is settled
none_filtered : (s : Schema) (l : List WireField) → AllByRecursion (IsUnknown s) l → filter (is_moved s) l ≡ []
none_filtered s [] h = refl
none_filtered s (f ∷ l) h = rw (unknown_unmoved s f h.0) (none_filtered s l h.1)

all_filtered : (s : Schema) (l : List WireField) → AllByRecursion (IsUnknown s) l → filter (λ f. not (is_moved s f)) l ≡ l
all_filtered s [] h = refl
all_filtered s (f ∷ l) h = rw (unknown_unmoved s f h.0) (ap (λ k. f ∷ k) (all_filtered s l h.1))

own_unknown : (s : Schema) (v : Value s) → with_unknown s (unknown_in s v) v ≡ v
own_unknown schema.end v = refl
own_unknown (schema.scalar n name presence t rest) v = ap (λ w. (v.0, w)) (own_unknown rest v.1)
own_unknown (schema.text n name presence rest) v = ap (λ w. (v.0, w)) (own_unknown rest v.1)
own_unknown (schema.message n name presence m rest) v = ap (λ w. (v.0, w)) (own_unknown rest v.1)
own_unknown (schema.repeated n name m rest) v = ap (λ w. (v.0, w)) (own_unknown rest v.1)

held_unknown : (k s : Schema) (v : Value s) → Holds k s v → AllByRecursion (IsUnknown k) (unknown_in s v)
held_unknown k schema.end v h = h
held_unknown k (schema.scalar n name presence t rest) v h = held_unknown k rest v.1 h.1
held_unknown k (schema.text n name presence rest) v h = held_unknown k rest v.1 h.1
held_unknown k (schema.message n name presence m rest) v h = held_unknown k rest v.1 h.1
held_unknown k (schema.repeated n name m rest) v h = held_unknown k rest v.1 h.1

pub settled_already : (s : Schema) (v : Value s) → Holds s s v → settled s v ≡ v
settled_already s v h = let u = held_unknown s s v h in rw (none_filtered s (unknown_in s v) u, all_filtered s (unknown_in s v) u) (own_unknown s v)

pub settling_again : (s : Schema) (r : Result (Value s) JsonFault) (v : Value s) → r ≡ Ok v → settled s v ≡ v → settling s r ≡ Ok v
settling_again s r v e k = rw e (by_case (has_later s))
  where
    by_case : (b : Bool) → cond {A = Result (Value s) JsonFault} b (Ok (settled s v)) (Ok v) ≡ Ok v
    by_case true = ap (λ w. Ok w) k
    by_case false = refl

-- ---- settling one field after the other
-- what comes of what is left, with those that are kept so far
abbrev pub ends : (s : Schema) → List WireField → List WireField → Value s → Value s
ends s kept rest v = with_unknown s (kept ++ filter (λ f. not (is_moved s f)) rest) (all_moved s (filter (is_moved s) rest) v)

unknown_twice : (s : Schema) (k l : List WireField) (v : Value s) → with_unknown s k (with_unknown s l v) ≡ with_unknown s k v
unknown_twice schema.end k l v = refl
unknown_twice (schema.scalar n name presence t rest) k l v = ap (λ w. (v.0, w)) (unknown_twice rest k l v.1)
unknown_twice (schema.text n name presence rest) k l v = ap (λ w. (v.0, w)) (unknown_twice rest k l v.1)
unknown_twice (schema.message n name presence m rest) k l v = ap (λ w. (v.0, w)) (unknown_twice rest k l v.1)
unknown_twice (schema.repeated n name m rest) k l v = ap (λ w. (v.0, w)) (unknown_twice rest k l v.1)

moved_beside : (s : Schema) (f : WireField) (l : List WireField) (v : Value s) → moved s f (with_unknown s l v) ≡ with_unknown s l (moved s f v)
moved_beside schema.end f l v = refl
moved_beside (schema.scalar n name presence t rest) f l v = by_case (is_more t f.value && f.number == n) (moved_beside rest f l v.1)
  where
    by_case : (b : Bool) → moved rest f (with_unknown rest l v.1) ≡ with_unknown rest l (moved rest f v.1)
        → cond b (schema.held presence (pos 0) (scalar_in t f.value), with_unknown rest l v.1) (v.0, moved rest f (with_unknown rest l v.1))
        ≡ with_unknown (schema.scalar n name presence t rest) l (cond b (schema.held presence (pos 0) (scalar_in t f.value), v.1) (v.0, moved rest f v.1))
    by_case true e = refl
    by_case false e = ap (λ w. (v.0, w)) e
moved_beside (schema.text n name presence rest) f l v = by_case (is_later name && is_some (in_slot payload_in n f)) (moved_beside rest f l v.1)
  where
    by_case : (b : Bool) → moved rest f (with_unknown rest l v.1) ≡ with_unknown rest l (moved rest f v.1)
        → cond b (schema.held presence [] (payload_in f.value), with_unknown rest l v.1) (v.0, moved rest f (with_unknown rest l v.1))
        ≡ with_unknown (schema.text n name presence rest) l (cond b (schema.held presence [] (payload_in f.value), v.1) (v.0, moved rest f v.1))
    by_case true e = refl
    by_case false e = ap (λ w. (v.0, w)) e
moved_beside (schema.message n name presence m rest) f l v = by_case (is_later name && is_some (in_slot payload_in n f)) _ (moved_beside rest f l v.1)
  where
    by_case : (b : Bool) (x : schema.Held presence (Value m)) → moved rest f (with_unknown rest l v.1) ≡ with_unknown rest l (moved rest f v.1)
        → cond b (x, with_unknown rest l v.1) (v.0, moved rest f (with_unknown rest l v.1))
        ≡ with_unknown (schema.message n name presence m rest) l (cond b (x, v.1) (v.0, moved rest f v.1))
    by_case true x e = refl
    by_case false x e = ap (λ w. (v.0, w)) e
moved_beside (schema.repeated n name m rest) f l v = ap (λ w. (v.0, w)) (moved_beside rest f l v.1)

all_beside : (s : Schema) (ms l : List WireField) (v : Value s) → all_moved s ms (with_unknown s l v) ≡ with_unknown s l (all_moved s ms v)
all_beside s [] l v = refl
all_beside s (f ∷ ms) l v = ap (all_moved s ms) (moved_beside s f l v) ∙ all_beside s ms l (moved s f v)

pub ends_at_first : (s : Schema) (v : Value s) → ends s [] (unknown_in s v) (with_unknown s [] v) ≡ settled s v
ends_at_first s v =
    let ms = filter (is_moved s) (unknown_in s v) in
    ap (with_unknown s (filter (λ f. not (is_moved s f)) (unknown_in s v))) (all_beside s ms [] v) ∙ unknown_twice s (filter (λ f. not (is_moved s f)) (unknown_in s v)) [] (all_moved s ms v)

pub ends_moved : (s : Schema) (kept : List WireField) (f : WireField) (rest : List WireField) (v : Value s) → is_moved s f ≡ true → ends s kept rest (moved s f v) ≡ ends s kept (f ∷ rest) v
ends_moved s kept f rest v e = rw e refl

pub ends_kept : (s : Schema) (kept : List WireField) (f : WireField) (rest : List WireField) (v : Value s) → is_moved s f ≡ false → ends s (kept ++ f ∷ []) rest v ≡ ends s kept (f ∷ rest) v
ends_kept s kept f rest v e = rw (e, append_assoc kept (f ∷ []) (filter (λ g. not (is_moved s g)) rest)) refl

pub ends_at_last : (s : Schema) (kept : List WireField) (v : Value s) → with_unknown s kept v ≡ ends s kept [] v
ends_at_last s kept v = rw (append-nil kept) refl

-- what it holds then
pub holds_with : (k s : Schema) (l : List WireField) (v : Value s) → Holds k s v → AllByRecursion (IsUnknown k) l → Holds k s (with_unknown s l v)
holds_with k schema.end l v h all = all
holds_with k (schema.scalar n name presence t rest) l v h all = (h.0, holds_with k rest l v.1 h.1 all)
holds_with k (schema.text n name presence rest) l v h all = (h.0, holds_with k rest l v.1 h.1 all)
holds_with k (schema.message n name presence m rest) l v h all = (h.0, holds_with k rest l v.1 h.1 all)
holds_with k (schema.repeated n name m rest) l v h all = (h.0, holds_with k rest l v.1 h.1 all)
