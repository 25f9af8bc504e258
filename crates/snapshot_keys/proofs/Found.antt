-- What the slots of an entity hold, by the last payloads at paths.
use Rattle.std.proofs.Common.{◌≡◌, ℕ, Some, None, List, [], ◌∷◌, refl, ap, ◌∙◌}
use Rattle.std.specs.Prelude.{option_map, option_and_then, unwrap_or}
use Rattle.std.specs.declared.option.Option.{Option}
use Rattle.std.specs.Option.{option_or}
use Rattle.std.specs.List.{flat_map}
use Rattle.rt_wire.specs.Fields.{WireField}
use Rattle.feed_values.specs.Schema.{blank}
use Rattle.feed_values.specs.Messages.{entity, trip_update, vehicle_position, trip_descriptor, vehicle_descriptor}
use Rattle.feed_values.specs.Meaning.{fields, given, in_slot, payload_in, last_of, joined, slots_of, meaning}
use Rattle.rule_table.specs.Judged.{update_of}
use Rattle.rule_table.specs.Pairs.{GivenIds, of_update, of_vehicle, trip_id_in, vehicle_id_in, vehicle_of}
use Rattle.snapshot_keys.specs.Ids.{ids_at}
use Rattle.feed_codec.specs.LastPayloads.{last_at}

abbrev payloads : ℕ → List WireField → List (List ℕ)
payloads n l = given (in_slot payload_in n) l

-- the first slot of the descriptors, in payloads that are taken together
abbrev first_text : List (List ℕ) → Option (List ℕ)
first_text ps = last_of (payloads 1 (flat_map fields ps))

trip_required : (ps : List (List ℕ)) → first_text ps ≡ trip_id_in (unwrap_or (joined (slots_of trip_descriptor trip_descriptor) ps) (blank trip_descriptor))
trip_required [] = refl
trip_required (p ∷ ps) = refl

trip_given : (ps : List (List ℕ)) → first_text ps ≡ option_and_then trip_id_in (joined (slots_of trip_descriptor trip_descriptor) ps)
trip_given [] = refl
trip_given (p ∷ ps) = refl

vehicle_given : (ps : List (List ℕ)) → first_text ps ≡ vehicle_id_in (joined (slots_of vehicle_descriptor vehicle_descriptor) ps)
vehicle_given [] = refl
vehicle_given (p ∷ ps) = refl

same_ids : {a b c d : Option (List ℕ)} → a ≡ b → c ≡ d → (let x : GivenIds = record { trip = a; vehicle = c } in x) ≡ record { trip = b; vehicle = d }
same_ids p q = λ i. record { trip = p i; vehicle = q i }

-- ---- what the slots hold
abbrev ids_of : (ℕ → List (List ℕ)) → ℕ → GivenIds
ids_of inside vehicle = record { trip = first_text (inside 1); vehicle = first_text (inside vehicle) }

by_cases : {A : Type 0} (mean : List WireField → A) (ids : A → GivenIds) (vehicle : ℕ) → ((l : List WireField) → ids_of (λ n. payloads n l) vehicle ≡ ids (mean l)) → (ps : List (List ℕ)) →
    option_map (λ p. ids_of (λ n. payloads n (flat_map fields ps)) vehicle) (last_of ps) ≡ option_map ids (joined mean ps)
by_cases mean ids vehicle e [] = refl
by_cases mean ids vehicle e (p ∷ ps) = some (last_of ps) ∙ ap Some (e (flat_map fields (p ∷ ps)))
  where
    some : (o : Option (List ℕ)) → option_map (λ q. ids_of (λ n. payloads n (flat_map fields (p ∷ ps))) vehicle) (option_or o (Some p)) ≡ Some (ids_of (λ n. payloads n (flat_map fields (p ∷ ps))) vehicle)
    some None = refl
    some (Some x) = refl

pub update_is : (l : List WireField) → ids_at 3 3 l ≡ option_map of_update (update_of (meaning entity l))
unfolding meaning last_at
update_is l = by_cases (slots_of trip_update trip_update) of_update 3 (λ m. same_ids (trip_required (payloads 1 m)) (vehicle_given (payloads 3 m))) (payloads 3 l)

pub vehicle_is : (l : List WireField) → ids_at 4 8 l ≡ option_map of_vehicle (vehicle_of (meaning entity l))
unfolding meaning last_at
vehicle_is l = by_cases (slots_of vehicle_position vehicle_position) of_vehicle 8 (λ m. same_ids (trip_given (payloads 1 m)) (vehicle_given (payloads 8 m))) (payloads 4 l)

-- ---- what was found
pub none_at : (slot vehicle : ℕ) (l : List WireField) → None ≡ last_at [] slot l → None ≡ ids_at slot vehicle l
none_at slot vehicle l h = ap (option_map (λ p. record { trip = last_at (slot ∷ 1 ∷ []) 1 l; vehicle = last_at (slot ∷ vehicle ∷ []) 1 l })) h

pub some_at : (slot vehicle : ℕ) (l : List WireField) (p : List ℕ) (trip id : Option (List ℕ)) → Some p ≡ last_at [] slot l → trip ≡ last_at (slot ∷ 1 ∷ []) 1 l → id ≡ last_at (slot ∷ vehicle ∷ []) 1 l
    → Some (let ids : GivenIds = record { trip = trip; vehicle = id } in ids) ≡ ids_at slot vehicle l
some_at slot vehicle l p trip id h t v = ap Some (same_ids t v) ∙ ap (option_map (λ p. record { trip = last_at (slot ∷ 1 ∷ []) 1 l; vehicle = last_at (slot ∷ vehicle ∷ []) 1 l })) h
