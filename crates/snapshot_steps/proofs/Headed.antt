-- What is found on a header is what is found by the snapshot and the one before it.
use Rattle.std.specs.Prelude.{◌≡◌, ℕ, Bool, not, ◌&&◌, List, [], ◌∷◌, Option, Some, None, option_map, bytes_eq, refl}
use Rattle.std.specs.Cmp.Lexicographic.{pointwise}
use Rattle.std.proofs.Common.{ap, ◌∙◌}
use Rattle.feed_values.specs.Schema.{Value}
use Rattle.feed_values.specs.Messages.{feed_header}
use Rattle.feed_values.specs.Snapshot.{entity_payloads, header_of}
use Rattle.timetable.specs.Timetables.{Tables}
use Rattle.rule_table.specs.Table.{all_rules}
use Rattle.rule_table.specs.SameHeads.{heads_same}
use Rattle.rule_table.specs.Found.{Found}
use Rattle.rule_table.specs.Answers.{Gathered, heads_answer}
use Rattle.rule_table.proofs.SameTests.{text-symm}
use Rattle.rule_history.specs.Answered.{entities_differ, heads_of, shared_answer}
use Rattle.rule_history.specs.History.{Snapshot}
use Rattle.held_feeds.specs.judging.Whole as whole
use Rattle.engine_laws.specs.HeldFeeds.{head_found}
use Rattle.engine_laws.proofs.AtHand.{heads_first}
use Rattle.held_feeds.specs.entity_index.Changes.{is_reordered}
use Rattle.held_feeds.specs.cached_laws.State.{snapshot_with}

header_is : (t : Option Tables) (u : Gathered) (s : Snapshot) (b : Option Snapshot) → whole.header_found t u (heads_of s b) s.feed ≡ head_found s b
unfolding whole.header_found
header_is t u s b =
    heads_same (shared_answer t u (heads_of s b)) (heads_answer (heads_of s b)) (λ a m. heads_first (heads_of s b) _ a m) s.feed all_rules refl

-- what was found on a header, with the header before it
pub head_is : (t : Option Tables) (u : Gathered) (s : Snapshot) (b : Option Snapshot) (header : Value feed_header) (previous : Option (Value feed_header)) (changed : Bool) (fs : List Found) →
    header ≡ header_of s.bytes → previous ≡ option_map (λ p. header_of p.bytes) b → changed ≡ entities_differ s.bytes b →
    fs ≡ whole.header_found t u (record { header = header; previous = previous; changed = changed; moment = s.moment }) s.feed → fs ≡ head_found s b
head_is t u s b header previous changed fs h p d is =
    is
    ∙ ap (λ x. whole.header_found t u (record { header = x; previous = previous; changed = changed; moment = s.moment }) s.feed) h
    ∙ ap (λ x. whole.header_found t u (record { header = header_of s.bytes; previous = x; changed = changed; moment = s.moment }) s.feed) p
    ∙ ap (λ x. whole.header_found t u (record { header = header_of s.bytes; previous = option_map (λ p. header_of p.bytes) b; changed = x; moment = s.moment }) s.feed) d
    ∙ header_is t u s b

-- the header of the snapshot before, and whether its entities are others
pub previous_is : (f m : ℕ) (o : Option (List ℕ)) → option_map header_of o ≡ option_map (λ p. header_of p.bytes) (snapshot_with f m o)
previous_is f m None = refl
previous_is f m (Some b) = refl

both_flip : (xs ys : List (List ℕ)) → pointwise bytes_eq xs ys ≡ pointwise bytes_eq ys xs
both_flip [] [] = refl
both_flip [] (y ∷ ys) = refl
both_flip (x ∷ xs) [] = refl
both_flip (x ∷ xs) (y ∷ ys) = ap (λ b. b && pointwise bytes_eq xs ys) (text-symm x y) ∙ ap (λ b. bytes_eq y x && b) (both_flip xs ys)

pub differ_is : (f m : ℕ) (o : Option (List ℕ)) (new : List ℕ) → is_reordered o new ≡ entities_differ new (snapshot_with f m o)
differ_is f m None new = refl
differ_is f m (Some b) new = ap not (both_flip (entity_payloads b) (entity_payloads new))
