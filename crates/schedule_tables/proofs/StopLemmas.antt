-- Ids by number, as texts.
use Rattle.std.proofs.Common.{◌≡◌, List, [], ◌∷◌, ◌++◌, map, String, Global, string_bytes, string_eq, Bool, true, false, not, ◌||◌, ◌+◌, cond, refl, ap, ◌∙◌}
use Rattle.std.proofs.lemmas.List.{map-append}
use Rattle.std.specs.List.{list_any, position_or_len}
use Rattle.std.specs.Str.{bytes_eq}
use Rattle.indexmap.specs.IndexSet.{insert_key}
use Rattle.schedule_tables.specs.Maps.{Text}
use Rattle.schedule_tables.specs.Stops.{ids_with, number_in}

abbrev pub texts_of : List (String Global) → List Text
texts_of keys = map (λ key. string_bytes key) keys

any_text : (keys : List (String Global)) (key : String Global) → list_any (string_eq key) keys ≡ list_any (bytes_eq (string_bytes key)) (texts_of keys)
any_text [] key = refl
any_text (k ∷ ks) key = ap (λ b. string_eq key k || b) (any_text ks key)

pub ids_with-insert_key : (keys : List (String Global)) (key : String Global) → texts_of (insert_key string_eq keys key) ≡ ids_with (texts_of keys) (string_bytes key)
ids_with-insert_key keys key = by (list_any (string_eq key) keys) ∙ ap (λ b. cond b (texts_of keys) (texts_of keys ++ string_bytes key ∷ [])) (any_text keys key)
  where
    by : (b : Bool) → texts_of (cond b keys (keys ++ key ∷ [])) ≡ cond b (texts_of keys) (texts_of keys ++ string_bytes key ∷ [])
    by true = refl
    by false = map-append (λ k. string_bytes k) keys (key ∷ [])

pub number_in-position : (keys : List (String Global)) (key : String Global) → position_or_len (string_eq key) keys ≡ number_in (texts_of keys) (string_bytes key)
number_in-position [] key = refl
number_in-position (k ∷ ks) key = ap (λ n. cond (not (string_eq key k)) (1 + n) 0) (number_in-position ks key)
