-- Numbers of ids.
use Rattle.std.proofs.Common.{◌≡◌, ◌<◌, ℕ, zero, suc, List, [], ◌∷◌, length, get_or, Some, option_map, slice_get, refl, sym, ap, ◌∙◌, String, Global, string_bytes, string_eq, arith, position, unwrap_or}
use Rattle.std.proofs.lemmas.List.Quantifiers.{position-Some}
use Rattle.std.proofs.lemmas.Slice.Eq.{bytes_eq-Decides}
use Rattle.std.specs.Map.{keys_of}
use Rattle.std.specs.FinMap as map
use Rattle.indexmap.specs.IndexMap.{IndexMap, get}
use Rattle.schedule_tables.specs.Maps.{Text, by_text, table_of}
use Rattle.schedule_tables.proofs.MapLemmas.{get_text, has_text}

text_at : {V : Type 0} (es : List (String Global × V)) (n : ℕ) (d : String Global) → n < length es → option_map (λ e. e.0) (slice_get (by_text es) n) ≡ Some (string_bytes (get_or (keys_of es) n d))
text_at [] n d h = absurd (omega arith)
text_at (e ∷ es) zero d h = refl
text_at (e ∷ es) (suc n) d h = text_at es n d (omega arith)

length_keys : {V : Type 0} (es : List (String Global × V)) → length (keys_of es) ≡ length es
length_keys [] = refl
length_keys (e ∷ es) = ap suc (length_keys es)

-- the place of an id is a number of it
pub number_has : {V : Type 0} (es : List (String Global × V)) (id : Text) (n : ℕ) → position (has_text id) (keys_of es) ≡ Some n → option_map (λ e. e.0) (slice_get (by_text es) n) ≡ Some id
number_has [] id n h = cc h
number_has (e ∷ es) id n h =
    let found = position-Some (has_text id) (keys_of (e ∷ es)) n e.0 h in
    let same : id ≡ string_bytes (get_or (keys_of (e ∷ es)) n e.0) = (bytes_eq-Decides id _).0 found.1 in
    let sizes = length_keys (e ∷ es) in
    text_at (e ∷ es) n e.0 (omega (arith, found.0, sizes)) ∙ ap Some (sym same)

slice_get-texts : {V : Type 0} (es : List (String Global × V)) (n : ℕ) (k : String Global) (v : V) → slice_get es n ≡ Some (k, v) → slice_get (by_text es) n ≡ Some (string_bytes k, v)
slice_get-texts [] n k v h = cc h
slice_get-texts (e ∷ es) zero k v h = ap (option_map (λ p. (string_bytes p.0, p.1))) h
slice_get-texts (e ∷ es) (suc n) k v h = slice_get-texts es n k v h

-- the row at a number is the map's at its id
pub row_at : {V S : Type 0} (m : IndexMap (String Global) V S) (n : ℕ) (k : String Global) (v : V) (id : Text) → slice_get m.entries n ≡ Some (k, v) → get string_eq m k ≡ Some v
    → option_map (λ e. e.0) (slice_get (by_text m.entries) n) ≡ Some id → map.get (table_of m.entries) id ≡ Some v
row_at m n k v id at value number =
    let same : string_bytes k ≡ id = ap (λ o. unwrap_or o id) (ap (option_map (λ e. e.0)) (sym (slice_get-texts m.entries n k v at)) ∙ number) in
    ap (map.get (table_of m.entries)) (sym same) ∙ sym (get_text m.entries (string_bytes k)) ∙ value
