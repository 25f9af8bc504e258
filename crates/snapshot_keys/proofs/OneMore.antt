-- The entity of a number, and one entity more of a snapshot.
use Rattle.std.specs.Prelude.{◌≡◌, ◌<◌, ◌≤◌, ◌+◌, ℕ, List, [], ◌∷◌, ◌++◌, drop, length, map, get_or, slice_get, take, Some}
use Rattle.std.proofs.Common.{sym, ap, subst, ◌∙◌}
use Rattle.std.proofs.lemmas.List.{drop_more, take_more, map-append}
use Rattle.std.proofs.lemmas.Option.{get_or_from_slice_get, slice_get-get_or}
use Rattle.feed_values.specs.Snapshot.{entity_of, entity_payloads}
use Rattle.snapshot_keys.specs.declared.placing.EntityPlace.{EntityPlace}
use Rattle.snapshot_keys.specs.declared.placing.NamedEntity.{NamedEntity}
use Rattle.snapshot_keys.specs.Places.{AreWithin, Places, entity_at}
use Rattle.snapshot_keys.specs.ById.{entities_at}

pub read_payload : (ps : List (List ℕ)) (i : ℕ) (p : List ℕ) → Some p ≡ slice_get ps i → get_or ps i [] ≡ p
read_payload ps i p h = get_or_from_slice_get ps i p [] (sym h)

-- each number below the count has a payload
pub payload_there : (ps : List (List ℕ)) (i : ℕ) → i < length ps → Some (get_or ps i []) ≡ slice_get ps i
payload_there ps i l = sym (slice_get-get_or ps i [] l)

-- the entities of the numbers so far, and of the next
pub entities_next : (bytes : List ℕ) (ns : List NamedEntity) (n : NamedEntity) → n.number < length (entity_payloads bytes) → entities_at bytes ns ≡ map entity_of (take n.number (entity_payloads bytes))
    → entities_at bytes (ns ++ n ∷ []) ≡ map entity_of (take (n.number + 1) (entity_payloads bytes))
entities_next bytes ns n l before =
    map-append (λ m. entity_at bytes m.number) ns (n ∷ []) ∙ ap (λ es. es ++ entity_at bytes n.number ∷ []) before
    ∙ sym (ap (map entity_of) (take_more (entity_payloads bytes) n.number [] l) ∙ map-append entity_of (take n.number (entity_payloads bytes)) (get_or (entity_payloads bytes) n.number [] ∷ []))

-- the snapshot has the entity of the next place, and those of the places behind it
pub within_next : (bytes : List ℕ) (es : Places) (i : ℕ) (d : EntityPlace) → i < length es → AreWithin bytes (drop i es) → ((get_or es i d).number < length (entity_payloads bytes)) × AreWithin bytes (drop (i + 1) es)
within_next bytes es i d l h = subst (AreWithin bytes) (drop_more es i d l) h

-- the place that comes next in a list
pub next_is : (es : Places) (i : ℕ) (place : EntityPlace) → i < length es → place ≡ get_or es i place → drop i es ≡ place ∷ drop (i + 1) es
next_is es i place l is = drop_more es i place l ∙ ap (λ x. x ∷ drop (i + 1) es) (sym is)
