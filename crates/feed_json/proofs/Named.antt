-- A key is one that a message has where it is among the names.
use Rattle.std.specs.Prelude.{◌≡◌, List, [], ◌∷◌, ℕ, Bool, true, false, ◌||◌, map, bytes_eq, codes, refl}
use Rattle.std.specs.List.{list_any}
use Rattle.std.proofs.Common.{ap, ◌∙◌}
use Rattle.feed_values.specs.Schema as schema
use Rattle.feed_values.specs.Schema.{Schema}
use Rattle.feed_json.specs.Unform.{is_key, names_of}

last : (b : Bool) → (b || false) ≡ b
last true = refl
last false = refl

key_named : (s : Schema) (key : List ℕ) → list_any (bytes_eq key) (names_of s) ≡ is_key s key
key_named schema.end key = last (bytes_eq key (codes "unknown"))
key_named (schema.scalar n name presence t rest) key = ap (λ b. bytes_eq key (codes name) || b) (key_named rest key)
key_named (schema.text n name presence rest) key = ap (λ b. bytes_eq key (codes name) || b) (key_named rest key)
key_named (schema.message n name presence m rest) key = ap (λ b. bytes_eq key (codes name) || b) (key_named rest key)
key_named (schema.repeated n name m rest) key = ap (λ b. bytes_eq key (codes name) || b) (key_named rest key)

any_mapped : {A : Type 0} (p : List ℕ → Bool) (f : A → List ℕ) (xs : List A) → list_any (λ x. p (f x)) xs ≡ list_any p (map f xs)
any_mapped p f [] = refl
any_mapped p f (x ∷ xs) = ap (λ b. p (f x) || b) (any_mapped p f xs)

-- names that are those of a message, by what holds them
pub key_among : {A : Type 0} (s : Schema) (f : A → List ℕ) (names : List A) (key : List ℕ) → map f names ≡ names_of s → list_any (λ x. bytes_eq key (f x)) names ≡ is_key s key
key_among s f names key h = any_mapped (bytes_eq key) f names ∙ ap (list_any (bytes_eq key)) h ∙ key_named s key
