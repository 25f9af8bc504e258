-- Counts of ids, one id or one entity more.
use Rattle.std.specs.Prelude.{◌≡◌, ◌<◌, ◌+◌, ℕ, List, [], ◌∷◌, ◌++◌, length, map, get_or, take, cond, bytes_eq, refl}
use Rattle.std.proofs.Common.{sym, ap, ◌∙◌, arith}
use Rattle.std.proofs.lemmas.List.{take_more, map-append}
use Rattle.feed_values.specs.Schema.{Value}
use Rattle.feed_values.specs.Messages.{entity}
use Rattle.feed_values.specs.declared.entity.Entity.{Entity}
use Rattle.feed_values.specs.Views.{entity_value}
use Rattle.judging.specs.Seats.{id_of, count_id}

pub count_last : (es : List (Value entity)) (e : Value entity) (id : List ℕ) → count_id (es ++ e ∷ []) id ≡ cond (bytes_eq (id_of e) id) 1 0 + count_id es id
count_last [] e id = refl
count_last (x ∷ es) e id = ap (λ n. cond (bytes_eq (id_of x) id) 1 0 + n) (count_last es e id) ∙ moved (cond (bytes_eq (id_of x) id) 1 0) (cond (bytes_eq (id_of e) id) 1 0) (count_id es id)
  where
    moved : (a b c : ℕ) → a + (b + c) ≡ b + (a + c)
    moved a b c = omega arith

module _ (es : List Entity) (i : ℕ) (x : Entity) (l : i < length es) (is : x ≡ get_or es i x) where
  abbrev done : List (Value entity)
  done = map entity_value (take i es)

  done_more : map entity_value (take (i + 1) es) ≡ done ++ entity_value x ∷ []
  done_more = ap (map entity_value) (take_more es i x l ∙ ap (λ y. take i es ++ y ∷ []) (sym is)) ∙ map-append entity_value (take i es) (x ∷ [])

  pub counted_next : (id : List ℕ) → count_id (map entity_value (take (i + 1) es)) id ≡ cond (bytes_eq (id_of (entity_value x)) id) 1 0 + count_id done id
  counted_next id = ap (λ xs. count_id xs id) done_more ∙ count_last done (entity_value x) id
