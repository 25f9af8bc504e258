-- A field that is moved takes effect as it does where a snapshot's bytes have it.
use Rattle.std.proofs.Common.{◌≡◌, ◌==◌, ℕ, ◌%◌, ◌^◌, Bool, true, false, cond, ◌&&◌, ◌||◌, List, [], ◌∷◌, Option, Some, None, refl, sym, ap, subst, ◌∙◌, append_assoc, option_map, rules}
use Rattle.std.specs.Option.{is_some, option_or, unwrap_or}
use Rattle.std.specs.Str.{IsUtf8, is_utf8}
use Rattle.std.proofs.lemmas.Bool.{eqb-true}
use Rattle.std.proofs.lemmas.Str.{IsUtf8-from_is_utf8, is_utf8-from_IsUtf8}
use Rattle.std.proofs.lemmas.List.{append-nil}
use Rattle.rt_wire.specs.Fields.{WireField, WireValue, Varint, Fixed64, Len, Group, Fixed32}
use Rattle.feed_values.specs.Schema as schema
use Rattle.feed_values.specs.Schema.{Schema, Presence, Optional, Needed, Held, Value, blank, Rises}
use Rattle.feed_values.specs.Messages.{feed_header, trip_descriptor, trip_update, trip_properties, stop_time_update, stop_time_properties}
use Rattle.feed_values.specs.Meaning.{fields, meaning, payload_in, option_case}
use Rattle.feed_codec.specs.Merging.{kept, taken_in, merged, with_field, with_fields}
use Rattle.feed_codec.proofs.Meanings.{taken_all}
use Rattle.feed_json.specs.Later.{is_moved, over, moved}

-- ---- messages of texts that may be there
abbrev pub AreTexts : Schema → Type 0
AreTexts schema.end = Unit {0}
AreTexts (schema.text n name Optional rest) = AreTexts rest
AreTexts _ = ⊥

over_blank : (s : Schema) → AreTexts s → (old : Value s) → over s old (blank s) ≡ old
over_blank schema.end t old = append-nil old
over_blank (schema.text n name Optional rest) t old = ap (λ w. (old.0, w)) (over_blank rest t old.1)
over_blank (schema.text n name (Needed which) rest) t old = absurd t
over_blank (schema.scalar n name presence k rest) t old = absurd t
over_blank (schema.message n name presence m rest) t old = absurd t
over_blank (schema.repeated n name m rest) t old = absurd t

over_kept : (s : Schema) → AreTexts s → (f : WireField) (old new : Value s) → kept s f (over s old new) ≡ over s old (kept s f new)
over_kept schema.end t f old new = append_assoc old new (f ∷ [])
over_kept (schema.text n name Optional rest) t f old new = ap (λ w. (option_or new.0 old.0, w)) (over_kept rest t f old.1 new.1)
over_kept (schema.text n name (Needed which) rest) t f old new = absurd t
over_kept (schema.scalar n name presence k rest) t f old new = absurd t
over_kept (schema.message n name presence m rest) t f old new = absurd t
over_kept (schema.repeated n name m rest) t f old new = absurd t

over_merged : (s : Schema) → AreTexts s → (f : WireField) (old new : Value s) → merged s f (over s old new) ≡ option_map (over s old) (merged s f new)
over_merged schema.end t f old new = refl
over_merged (schema.text n name Optional rest) t f old new = by_case (f.number == n) (payload_in f.value) (over_merged rest t f old.1 new.1)
  where
    behind : (o : Option (Value rest)) → merged rest f (over rest old.1 new.1) ≡ option_map (over rest old.1) o
        → option_map (λ w. (option_or new.0 old.0, w)) (merged rest f (over rest old.1 new.1)) ≡ option_map (over (schema.text n name Optional rest) old) (option_map (λ w. (new.0, w)) o)
    behind None e = rw e refl
    behind (Some w) e = rw e refl

    by_case : (b : Bool) (o : Option (List ℕ)) → merged rest f (over rest old.1 new.1) ≡ option_map (over rest old.1) (merged rest f new.1)
        → cond b (option_map (λ c. (c, over rest old.1 new.1)) (option_map (λ p. Some p) o)) (option_map (λ w. (option_or new.0 old.0, w)) (merged rest f (over rest old.1 new.1)))
        ≡ option_map (over (schema.text n name Optional rest) old) (cond b (option_map (λ c. (c, new.1)) (option_map (λ p. Some p) o)) (option_map (λ w. (new.0, w)) (merged rest f new.1)))
    by_case true None e = refl
    by_case true (Some p) e = refl
    by_case false o e = behind (merged rest f new.1) e
over_merged (schema.text n name (Needed which) rest) t f old new = absurd t
over_merged (schema.scalar n name presence k rest) t f old new = absurd t
over_merged (schema.message n name presence m rest) t f old new = absurd t
over_merged (schema.repeated n name m rest) t f old new = absurd t

abbrev step : (s : Schema) → WireField → Value s → Value s
step s f v = option_case (merged s f v) (kept s f v) (λ w. w)

over_step : (s : Schema) → AreTexts s → (f : WireField) (old new : Value s) → step s f (over s old new) ≡ over s old (step s f new)
over_step s t f old new = ap (λ o. option_case o (kept s f (over s old new)) (λ w. w)) (over_merged s t f old new) ∙ by_case (merged s f new)
  where
    by_case : (o : Option (Value s)) → option_case (option_map (over s old) o) (kept s f (over s old new)) (λ w. w) ≡ over s old (option_case o (kept s f new) (λ w. w))
    by_case None = over_kept s t f old new
    by_case (Some w) = refl

over_all : (s : Schema) → AreTexts s → (l : List WireField) (old new : Value s) → taken_in (step s) l (over s old new) ≡ over s old (taken_in (step s) l new)
over_all s t [] old new = refl
over_all s t (f ∷ l) old new = ap (taken_in (step s) l) (over_step s t f old new) ∙ over_all s t l old (step s f new)

over_taken : (s : Schema) → AreTexts s → Rises 0 s → (l : List WireField) (old : Value s) → over s old (meaning s l) ≡ taken_in (step s) l old
unfolding with_fields
over_taken s t r l old = ap (over s old) (sym (taken_all s r l)) ∙ sym (over_all s t l old (blank s)) ∙ ap (taken_in (step s) l) (over_blank s t old)

-- ---- the four kinds of message with later slots
-- a field by its parts
abbrev field : ℕ → WireValue → WireField
field n x = record { number = n; value = x }

payload_at : (b : Bool) (o : Option (List ℕ)) → (is_some (cond b o None) || false) ≡ true → (b ≡ true) × (is_some o ≡ true)
payload_at true None h = absurd (cc h)
payload_at true (Some p) h = (refl, refl)
payload_at false o h = absurd (cc h)

number_at : (a b : Bool) → ((a && b) || false) ≡ true → (a ≡ true) × (b ≡ true)
number_at true true h = (refl, refl)
number_at true false h = absurd (cc h)
number_at false b h = absurd (cc h)

header_four : (x : WireValue) (v : Value feed_header) → is_some (payload_in x) ≡ true → moved feed_header (field 4 x) v ≡ with_field feed_header (field 4 x) v
unfolding with_field
header_four (Varint n) v h = absurd (cc h)
header_four (Fixed64 n) v h = absurd (cc h)
header_four (Len p) v h = refl
header_four (Group g) v h = absurd (cc h)
header_four (Fixed32 n) v h = absurd (cc h)

pub header_taken : (f : WireField) (v : Value feed_header) → is_moved feed_header f ≡ true → moved feed_header f v ≡ with_field feed_header f v
header_taken f v h =
    let p = payload_at (f.number == 4) (payload_in f.value) h in
    subst (λ n. moved feed_header (field n f.value) v ≡ with_field feed_header (field n f.value) v) (sym (eqb-true f.number 4 p.0)) (header_four f.value v p.1)

or_true : (b : Bool) → (b || true) ≡ true
or_true true = refl
or_true false = refl

trip_four : (x : WireValue) (v : Value trip_descriptor) → is_moved trip_descriptor (field 4 x) ≡ true → moved trip_descriptor (field 4 x) v ≡ with_field trip_descriptor (field 4 x) v
unfolding with_field
trip_four (Varint n) v h = let e : (n % 2 ^ 32 == 6) ≡ true = (number_at (n % 2 ^ 32 == 6) true h).0 in rw (e, or_true) refl
trip_four (Fixed64 n) v h = absurd (cc h)
trip_four (Len p) v h = absurd (cc h)
trip_four (Group g) v h = absurd (cc h)
trip_four (Fixed32 n) v h = absurd (cc h)

trip_number : (n : ℕ) (x : WireValue) → is_moved trip_descriptor (field n x) ≡ true → (n == 4) ≡ true
trip_number n (Varint m) h = (number_at (m % 2 ^ 32 == 6) (n == 4) h).1
trip_number n (Fixed64 m) h = absurd (cc h)
trip_number n (Len p) h = absurd (cc h)
trip_number n (Group g) h = absurd (cc h)
trip_number n (Fixed32 m) h = absurd (cc h)

pub trip_taken : (f : WireField) (v : Value trip_descriptor) → is_moved trip_descriptor f ≡ true → moved trip_descriptor f v ≡ with_field trip_descriptor f v
trip_taken f v h =
    let e : f.number ≡ 4 = eqb-true f.number 4 (trip_number f.number f.value h) in
    subst (λ n. is_moved trip_descriptor (field n f.value) ≡ true → moved trip_descriptor (field n f.value) v ≡ with_field trip_descriptor (field n f.value) v) (sym e) (trip_four f.value v) h

trip_texts : AreTexts trip_properties
trip_texts = tt

trip_rises : Rises 0 trip_properties
trip_rises = search rules

update_six : (x : WireValue) (v : Value trip_update) → is_some (payload_in x) ≡ true → moved trip_update (field 6 x) v ≡ with_field trip_update (field 6 x) v
unfolding with_field
update_six (Varint n) v h = absurd (cc h)
update_six (Fixed64 n) v h = absurd (cc h)
update_six (Len p) v h =
    ap (λ w. (v.0, (v.1.0, (v.1.1.0, (v.1.1.1.0, (v.1.1.1.1.0, (Some w, v.1.1.1.1.1.1)))))))
    (over_taken trip_properties trip_texts trip_rises (fields p) (unwrap_or v.1.1.1.1.1.0 (blank trip_properties)))
update_six (Group g) v h = absurd (cc h)
update_six (Fixed32 n) v h = absurd (cc h)

pub update_taken : (f : WireField) (v : Value trip_update) → is_moved trip_update f ≡ true → moved trip_update f v ≡ with_field trip_update f v
update_taken f v h =
    let p = payload_at (f.number == 6) (payload_in f.value) h in
    subst (λ n. moved trip_update (field n f.value) v ≡ with_field trip_update (field n f.value) v) (sym (eqb-true f.number 6 p.0)) (update_six f.value v p.1)

stop_texts : AreTexts stop_time_properties
stop_texts = tt

stop_rises : Rises 0 stop_time_properties
stop_rises = search rules

stop_six : (x : WireValue) (v : Value stop_time_update) → is_some (payload_in x) ≡ true → moved stop_time_update (field 6 x) v ≡ with_field stop_time_update (field 6 x) v
unfolding with_field
stop_six (Varint n) v h = absurd (cc h)
stop_six (Fixed64 n) v h = absurd (cc h)
stop_six (Len p) v h =
    ap (λ w. (v.0, (v.1.0, (v.1.1.0, (v.1.1.1.0, (v.1.1.1.1.0, (Some w, v.1.1.1.1.1.1)))))))
    (over_taken stop_time_properties stop_texts stop_rises (fields p) (unwrap_or v.1.1.1.1.1.0 (blank stop_time_properties)))
stop_six (Group g) v h = absurd (cc h)
stop_six (Fixed32 n) v h = absurd (cc h)

pub stop_taken : (f : WireField) (v : Value stop_time_update) → is_moved stop_time_update f ≡ true → moved stop_time_update f v ≡ with_field stop_time_update f v
stop_taken f v h =
    let p = payload_at (f.number == 6) (payload_in f.value) h in
    subst (λ n. moved stop_time_update (field n f.value) v ≡ with_field stop_time_update (field n f.value) v) (sym (eqb-true f.number 6 p.0)) (stop_six f.value v p.1)

-- ---- texts

pub text : (l : List ℕ) → IsUtf8 l → true ≡ is_utf8 l
text l u = sym (is_utf8-from_IsUtf8 l u)

pub no_text : (l : List ℕ) → (IsUtf8 l → ⊥) → false ≡ is_utf8 l
no_text l u = by_case (is_utf8 l) refl
  where
    by_case : (b : Bool) → is_utf8 l ≡ b → false ≡ b
    by_case true e = absurd (u (IsUtf8-from_is_utf8 l e))
    by_case false e = refl
