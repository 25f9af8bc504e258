-- Fields taken one after the other.
use Rattle.std.proofs.Common.{◌≡◌, ℕ, List, [], ◌∷◌, Option, Some, None, refl}
use Rattle.std.specs.Option.{option_map}
use Rattle.rt_wire.specs.Fields.{WireField}
use Rattle.rt_wire.specs.Placed.{PlacedField}
use Rattle.feed_values.specs.Schema.{Schema, Value}
use Rattle.feed_values.specs.Meaning.{payload_in, option_case}
use Rattle.feed_codec.specs.declared.refusal.Refusal.{Refusal}
use Rattle.feed_codec.specs.Merging.{with_field, with_fields, NothingWrong}
use Rattle.feed_codec.specs.Refusal.{in_payload, shifted}
use Rattle.feed_codec.proofs.ValidTexts.{nothing}

pub with_fields-more : (s : Schema) (r : WireField) (l : List WireField) (v : Value s) → with_fields s (r ∷ l) v ≡ with_fields s l (with_field s r v)
unfolding with_field with_fields
with_fields-more s r l v = refl

pub with_fields-none : (s : Schema) (v : Value s) → with_fields s [] v ≡ v
unfolding with_fields
with_fields-none s v = refl

-- nothing is wrong inside a field whose payload has nothing wrong
at_payload : (wrong : List ℕ → Option Refusal) (body : ℕ) (o : Option (List ℕ)) → ((p : List ℕ) → o ≡ Some p → wrong p ≡ nothing) → option_case o nothing (λ p. option_map (shifted body) (wrong p)) ≡ nothing
at_payload wrong body None h = refl
at_payload wrong body (Some p) h = rw (h p refl) refl

pub nothing_inside : (wrong : ℕ → List ℕ → Option Refusal) (f : PlacedField) → NothingWrong (wrong f.field.number) f.field.value → in_payload wrong f ≡ nothing
nothing_inside wrong f h = at_payload (wrong f.field.number) f.body (payload_in f.field.value) h
