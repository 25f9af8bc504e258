-- What is missing in an entity, by what is held at paths of slots.
use Rattle.std.proofs.Common.{◌≡◌, ℕ, Bool, true, false, not, cond, ◌&&◌, ◌||◌, List, [], ◌∷◌, Option, Some, None, refl, ap, ◌∙◌}
use Rattle.std.specs.Option.{is_some, option_or}
use Rattle.std.specs.List.{flat_map, list_any}
use Rattle.rt_wire.specs.Fields.{WireField}
use Rattle.feed_values.specs.declared.required.Required.{Required}
use Rattle.feed_values.specs.declared.required.Required.TheVariants as required
use Rattle.feed_values.specs.Schema as schema
use Rattle.feed_values.specs.Schema.{Schema, Presence, Optional, Needed, Bits32}
use Rattle.feed_values.specs.Messages.{translation, translated_string, trip_descriptor, vehicle_descriptor, stop_time_update, time_range, entity_selector, alert, position, vehicle_position, trip_properties, trip_update, entity}
use Rattle.feed_values.specs.Meaning.{fields, given, in_slot, payload_in, scalar_in, option_case}
use Rattle.feed_values.specs.Accepted.{absent, missing, missing_message, first_missing}
use Rattle.feed_codec.specs.Paths.{holds, has_payload, is_payload, is_fixed32, is_payload_without}

-- ---- schemas without a required slot inside

abbrev is_optional : Presence → Bool
is_optional Optional = true
is_optional (Needed which) = false

abbrev pub is_free : Schema → Bool
is_free schema.end = true
is_free (schema.scalar n name presence t rest) = is_optional presence && is_free rest
is_free (schema.text n name presence rest) = is_optional presence && is_free rest
is_free (schema.message n name presence m rest) = is_optional presence && (is_free m && is_free rest)
is_free (schema.repeated n name m rest) = is_free m && is_free rest

both : (a b : Bool) → (a && b) ≡ true → (a ≡ true) × (b ≡ true)
both true b e = (refl, e)
both false b e = absurd cc

free_slot : {A : Type 0} (presence : Presence) (xs : List A) (o : Option Required) → is_optional presence ≡ true → o ≡ None → option_or (absent presence xs) o ≡ None
free_slot Optional xs o e f = f
free_slot (Needed which) xs o e f = absurd cc

free_repeated : (inside : List WireField → Option Required) → ((l : List WireField) → inside l ≡ None) → (ps : List (List ℕ)) → first_missing inside ps ≡ None
free_repeated inside free [] = refl
free_repeated inside free (p ∷ ps) = rw (free (fields p)) (free_repeated inside free ps)

free_message : (presence : Presence) (inside : List WireField → Option Required) → ((l : List WireField) → inside l ≡ None) → (ps : List (List ℕ)) → is_optional presence ≡ true → missing_message presence inside ps ≡ None
free_message Optional inside free [] e = refl
free_message Optional inside free (p ∷ ps) e = free (flat_map fields (p ∷ ps))
free_message (Needed which) inside free ps e = absurd cc

pub neither : (o q : Option Required) → o ≡ None → q ≡ None → option_or o q ≡ None
neither o q e f = rw (e, f) refl

pub nothing_missing : (s : Schema) → is_free s ≡ true → (l : List WireField) → missing s l ≡ None
nothing_missing schema.end e l = refl
nothing_missing (schema.scalar n name presence t rest) e l =
    let b = both (is_optional presence) (is_free rest) e in
    free_slot presence (given (in_slot (scalar_in t) n) l) (missing rest l) b.0 (nothing_missing rest b.1 l)
nothing_missing (schema.text n name presence rest) e l =
    let b = both (is_optional presence) (is_free rest) e in
    free_slot presence (given (in_slot payload_in n) l) (missing rest l) b.0 (nothing_missing rest b.1 l)
nothing_missing (schema.message n name presence m rest) e l =
    let b = both (is_optional presence) (is_free m && is_free rest) e in
    let d = both (is_free m) (is_free rest) b.1 in
    neither (missing_message presence (missing m) (given (in_slot payload_in n) l)) (missing rest l)
    (free_message presence (missing m) (nothing_missing m d.0) (given (in_slot payload_in n) l) b.0) (nothing_missing rest d.1 l)
nothing_missing (schema.repeated n name m rest) e l =
    let b = both (is_free m) (is_free rest) e in
    neither (first_missing (missing m) (given (in_slot payload_in n) l)) (missing rest l)
    (free_repeated (missing m) (nothing_missing m b.0) (given (in_slot payload_in n) l)) (nothing_missing rest b.1 l)

-- a required message without a required slot inside
pub message_itself : (which : Required) (m : Schema) → is_free m ≡ true → (ps : List (List ℕ)) → missing_message (Needed which) (missing m) ps ≡ absent (Needed which) ps
message_itself which m e [] = refl
message_itself which m e (p ∷ ps) = nothing_missing m e (flat_map fields (p ∷ ps))

-- ---- what is given, and what is held

abbrev pub is_given : {A : Type 0} → List A → Bool
is_given [] = false
is_given (x ∷ xs) = true

given_step : {A : Type 0} (o : Option A) (xs : List A) → is_given (option_case o xs (λ x. x ∷ xs)) ≡ (is_some o || is_given xs)
given_step None xs = refl
given_step (Some x) xs = refl

pub any_given : {A : Type 0} (give : WireField → Option A) (l : List WireField) → is_given (given give l) ≡ list_any (λ f. is_some (give f)) l
any_given give [] = refl
any_given give (f ∷ l) = given_step (give f) (given give l) ∙ ap (λ b. is_some (give f) || b) (any_given give l)

pub absent_is : {A : Type 0} (which : Required) (xs : List A) → absent (Needed which) xs ≡ cond (is_given xs) None (Some which)
absent_is which [] = refl
absent_is which (x ∷ xs) = refl

pub slot_missing : {A : Type 0} (which : Required) (give : WireField → Option A) (l : List WireField) → absent (Needed which) (given give l) ≡ cond (list_any (λ f. is_some (give f)) l) None (Some which)
slot_missing which give l = absent_is which (given give l) ∙ ap (λ b. cond b None (Some which)) (any_given give l)

pub nothing_else : (o q : Option Required) → q ≡ None → option_or o q ≡ o
nothing_else None q e = e
nothing_else (Some x) q e = refl

nothing_before : (o q : Option Required) → o ≡ None → option_or o q ≡ q
nothing_before o q e = rw e refl

-- ---- trip updates

trip_update_missing : (l : List WireField) → missing trip_update l ≡ cond (has_payload 1 l) None (Some required.Trip)
trip_update_missing l =
    nothing_else (missing_message (Needed required.Trip) (missing trip_descriptor) (given (in_slot payload_in 1) l)) _
    (neither (first_missing (missing stop_time_update) (given (in_slot payload_in 2) l)) _
    (free_repeated (missing stop_time_update) (nothing_missing stop_time_update refl) (given (in_slot payload_in 2) l))
    (neither (missing_message Optional (missing vehicle_descriptor) (given (in_slot payload_in 3) l)) _
    (free_message Optional (missing vehicle_descriptor) (nothing_missing vehicle_descriptor refl) (given (in_slot payload_in 3) l) refl)
    (neither (missing_message Optional (missing trip_properties) (given (in_slot payload_in 6) l)) _
    (free_message Optional (missing trip_properties) (nothing_missing trip_properties refl) (given (in_slot payload_in 6) l) refl) refl)))
    ∙ message_itself required.Trip trip_descriptor refl (given (in_slot payload_in 1) l)
    ∙ slot_missing required.Trip (in_slot payload_in 1) l

trip_case : (ps : List (List ℕ)) → missing_message Optional (missing trip_update) ps ≡ cond (is_given ps) (cond (has_payload 1 (flat_map fields ps)) None (Some required.Trip)) None
trip_case [] = refl
trip_case (p ∷ ps) = trip_update_missing (flat_map fields (p ∷ ps))

pub missing_trip : (l : List WireField) → missing_message Optional (missing trip_update) (given (in_slot payload_in 3) l)
    ≡ cond (holds [] (is_payload 3) l) (cond (holds (3 ∷ []) (is_payload 1) l) None (Some required.Trip)) None
unfolding holds
missing_trip l = trip_case (given (in_slot payload_in 3) l) ∙ ap (λ b. cond b (cond (has_payload 1 (flat_map fields (given (in_slot payload_in 3) l))) None (Some required.Trip)) None) (any_given (in_slot payload_in 3) l)

-- ---- positions

vehicle_missing : (l : List WireField) → missing vehicle_position l ≡ missing_message Optional (missing position) (given (in_slot payload_in 2) l)
vehicle_missing l =
    nothing_before (missing_message Optional (missing trip_descriptor) (given (in_slot payload_in 1) l)) _
    (free_message Optional (missing trip_descriptor) (nothing_missing trip_descriptor refl) (given (in_slot payload_in 1) l) refl)
    ∙ nothing_else (missing_message Optional (missing position) (given (in_slot payload_in 2) l)) _
    (neither (missing_message Optional (missing vehicle_descriptor) (given (in_slot payload_in 8) l)) _
    (free_message Optional (missing vehicle_descriptor) (nothing_missing vehicle_descriptor refl) (given (in_slot payload_in 8) l) refl) refl)

vehicle_case : (ps : List (List ℕ)) → missing_message Optional (missing vehicle_position) ps ≡ missing_message Optional (missing position) (given (in_slot payload_in 2) (flat_map fields ps))
vehicle_case [] = refl
vehicle_case (p ∷ ps) = vehicle_missing (flat_map fields (p ∷ ps))

abbrev coordinate : Bool → Bool → Option Required
coordinate latitude longitude = cond latitude (cond longitude None (Some required.Longitude)) (Some required.Latitude)

in_order : (a b : Bool) → option_or (cond a None (Some required.Latitude)) (option_or (cond b None (Some required.Longitude)) None) ≡ coordinate a b
in_order true true = refl
in_order true false = refl
in_order false b = refl

abbrev has_fixed32 : ℕ → List WireField → Bool
has_fixed32 n l = list_any (λ f. is_some (in_slot (scalar_in Bits32) n f)) l

position_missing : (l : List WireField) → missing position l ≡ coordinate (has_fixed32 1 l) (has_fixed32 2 l)
position_missing l =
    ap (λ o. option_or o (option_or (absent (Needed required.Longitude) (given (in_slot (scalar_in Bits32) 2) l)) None)) (slot_missing required.Latitude (in_slot (scalar_in Bits32) 1) l)
    ∙ ap (λ o. option_or (cond (has_fixed32 1 l) None (Some required.Latitude)) (option_or o None)) (slot_missing required.Longitude (in_slot (scalar_in Bits32) 2) l)
    ∙ in_order (has_fixed32 1 l) (has_fixed32 2 l)

position_case : (ps : List (List ℕ)) → missing_message Optional (missing position) ps ≡ cond (is_given ps) (coordinate (has_fixed32 1 (flat_map fields ps)) (has_fixed32 2 (flat_map fields ps))) None
position_case [] = refl
position_case (p ∷ ps) = position_missing (flat_map fields (p ∷ ps))

pub missing_coordinate : (l : List WireField) → missing_message Optional (missing vehicle_position) (given (in_slot payload_in 4) l)
    ≡ cond (holds (4 ∷ []) (is_payload 2) l)
    (cond (holds (4 ∷ 2 ∷ []) (is_fixed32 1) l) (cond (holds (4 ∷ 2 ∷ []) (is_fixed32 2) l) None (Some required.Longitude)) (Some required.Latitude)) None
unfolding holds
missing_coordinate l =
    let vehicle = flat_map fields (given (in_slot payload_in 4) l) in
    let place = flat_map fields (given (in_slot payload_in 2) vehicle) in
    vehicle_case (given (in_slot payload_in 4) l) ∙ position_case (given (in_slot payload_in 2) vehicle)
    ∙ ap (λ b. cond b (coordinate (has_fixed32 1 place) (has_fixed32 2 place)) None) (any_given (in_slot payload_in 2) vehicle)

-- ---- texts of translations

translation_missing : (l : List WireField) → missing translation l ≡ cond (has_payload 1 l) None (Some required.Text)
translation_missing l = nothing_else (absent (Needed required.Text) (given (in_slot payload_in 1) l)) None refl ∙ slot_missing required.Text (in_slot payload_in 1) l

abbrev lacks_text : WireField → Bool
lacks_text f = is_payload_without 1 1 f

some_text : (b c : Bool) → option_or (cond b None (Some required.Text)) (cond c (Some required.Text) None) ≡ cond (not b || c) (Some required.Text) None
some_text true c = refl
some_text false c = refl

translation_step : (o : Option (List ℕ)) (ps : List (List ℕ)) (c : Bool) → first_missing (missing translation) ps ≡ cond c (Some required.Text) None
    → first_missing (missing translation) (option_case o ps (λ p. p ∷ ps)) ≡ cond (option_case o false (λ p. not (has_payload 1 (fields p))) || c) (Some required.Text) None
translation_step None ps c e = e
translation_step (Some p) ps c e = rw (translation_missing (fields p), e) (some_text (has_payload 1 (fields p)) c)

translations_missing : (l : List WireField) → first_missing (missing translation) (given (in_slot payload_in 1) l) ≡ cond (list_any lacks_text l) (Some required.Text) None
translations_missing [] = refl
translations_missing (f ∷ l) = translation_step (in_slot payload_in 1 f) (given (in_slot payload_in 1) l) (list_any lacks_text l) (translations_missing l)

string_case : (ps : List (List ℕ)) → missing_message Optional (missing translated_string) ps ≡ cond (list_any lacks_text (flat_map fields ps)) (Some required.Text) None
string_case [] = refl
string_case (p ∷ ps) = nothing_else (first_missing (missing translation) (given (in_slot payload_in 1) (flat_map fields (p ∷ ps)))) None refl ∙ translations_missing (flat_map fields (p ∷ ps))

any_text : (a b c : Bool) → option_or (cond a (Some required.Text) None) (option_or (cond b (Some required.Text) None) (option_or (cond c (Some required.Text) None) None)) ≡ cond a (Some required.Text) (cond b (Some required.Text) (cond c (Some required.Text) None))
any_text true b c = refl
any_text false true c = refl
any_text false false true = refl
any_text false false false = refl

abbrev strings : ℕ → List WireField → Bool
strings n l = list_any lacks_text (flat_map fields (given (in_slot payload_in n) l))

alert_missing : (l : List WireField) → missing alert l ≡ cond (strings 8 l) (Some required.Text) (cond (strings 10 l) (Some required.Text) (cond (strings 11 l) (Some required.Text) None))
alert_missing l =
    nothing_before (first_missing (missing time_range) (given (in_slot payload_in 1) l)) _ (free_repeated (missing time_range) (nothing_missing time_range refl) (given (in_slot payload_in 1) l))
    ∙ nothing_before (first_missing (missing entity_selector) (given (in_slot payload_in 5) l)) _ (free_repeated (missing entity_selector) (nothing_missing entity_selector refl) (given (in_slot payload_in 5) l))
    ∙ rw (string_case (given (in_slot payload_in 8) l), string_case (given (in_slot payload_in 10) l), string_case (given (in_slot payload_in 11) l)) (any_text (strings 8 l) (strings 10 l) (strings 11 l))

alert_case : (ps : List (List ℕ)) → missing_message Optional (missing alert) ps ≡ missing alert (flat_map fields ps)
alert_case [] = refl
alert_case (p ∷ ps) = refl

pub missing_text : (l : List WireField) → missing_message Optional (missing alert) (given (in_slot payload_in 5) l)
    ≡ cond (holds (5 ∷ 8 ∷ []) (is_payload_without 1 1) l) (Some required.Text)
    (cond (holds (5 ∷ 10 ∷ []) (is_payload_without 1 1) l) (Some required.Text)
    (cond (holds (5 ∷ 11 ∷ []) (is_payload_without 1 1) l) (Some required.Text) None))
unfolding holds
missing_text l = alert_case (given (in_slot payload_in 5) l) ∙ alert_missing (flat_map fields (given (in_slot payload_in 5) l))

-- ---- the entity

pub missing_entity : (l : List WireField) → missing entity l ≡ cond (holds [] (is_payload 1) l)
    (option_or (missing_message Optional (missing trip_update) (given (in_slot payload_in 3) l))
    (option_or (missing_message Optional (missing vehicle_position) (given (in_slot payload_in 4) l))
    (missing_message Optional (missing alert) (given (in_slot payload_in 5) l)))) (Some required.Id)
unfolding holds
missing_entity l =
    let trip = missing_message Optional (missing trip_update) (given (in_slot payload_in 3) l) in
    let vehicle = missing_message Optional (missing vehicle_position) (given (in_slot payload_in 4) l) in
    let told = missing_message Optional (missing alert) (given (in_slot payload_in 5) l) in
    ap (λ o. option_or (absent (Needed required.Id) (given (in_slot payload_in 1) l)) (option_or trip (option_or vehicle o))) (nothing_else told None refl)
    ∙ rw (slot_missing required.Id (in_slot payload_in 1) l) (id_first (has_payload 1 l) (option_or trip (option_or vehicle told)))
  where
    id_first : (b : Bool) (o : Option Required) → option_or (cond b None (Some required.Id)) o ≡ cond b o (Some required.Id)
    id_first true o = refl
    id_first false o = refl
