-- The snapshots are well formed: every text is ASCII, and every number is in the range of its field.
use Rattle.std.proofs.Common.{◌≡◌, ℕ, zero, suc, ◌+◌, ◌*◌, ◌<◌, ◌^◌, ◌==◌, inl, true, false, if◌then◌else◌, List, [], ◌∷◌, length, map, codes, decimal, pos, refl, arith}
use Rattle.std.specs.List.{enumerate_from, AllByRecursion}
use Rattle.std.specs.Prelude.{FitsSigned}
use Rattle.std.specs.Int.{w32}
use Rattle.std.specs.Str.{IsUtf8, IsAscii}
use Rattle.std.proofs.lemmas.Int.{ints}
use Rattle.std.proofs.lemmas.Str.{IsUtf8-from_ascii, IsAscii-append}
use Rattle.std.proofs.lemmas.Fmt.{IsAscii-decimal}
use Rattle.feed_values.specs.Messages.{feed_header, entity, trip_descriptor, vehicle_descriptor, stop_time_update}
use Rattle.feed_values.specs.Views.{entity_value, feed_header_value, trip_descriptor_value, vehicle_descriptor_value, stop_time_update_value}
use Rattle.feed_values.specs.WellFormed.{IsWellFormed, IsWellFormedFeed}
use Rattle.trial_feed.specs.declared.letter.Letter.{Letter}
use Rattle.trial_feed.specs.declared.letter.Letter.TheVariants.{V, W}
use Rattle.trial_feed.specs.declared.entity_state.EntityState.{EntityState}
use Rattle.trial_feed.specs.Moving.{Moving, AllBelow, IsWithin}
use Rattle.trial_feed.specs.Messages.{numbered, letter_text, trip_of, vehicle_of, stop_update, update_entity, position_entity, entity_of, states_of, feed_of, header_of, snapshot_value}
use Rattle.trial_feed.proofs.Keeping.{all_higher}

-- ---- texts
letter_ascii : (b : ℕ) → b < 128 → IsAscii (b ∷ [])
letter_ascii b small zero = small
letter_ascii b small (suc i) = omega arith

version_ascii : IsAscii (codes "2.0")
version_ascii zero = omega arith
version_ascii (suc zero) = omega arith
version_ascii (suc (suc zero)) = omega arith
version_ascii (suc (suc (suc i))) = omega arith

numbered_text : (letter : List ℕ) (k : ℕ) → IsAscii letter → k < 2 ^ 64 → IsUtf8 (numbered letter k)
numbered_text letter k fine small =
    IsUtf8-from_ascii (numbered letter k) (IsAscii-append letter (decimal k) fine (IsAscii-decimal k small))

vehicle_letter : (letter : Letter) → IsAscii (letter_text letter)
vehicle_letter V = letter_ascii 118 (omega arith)
vehicle_letter W = letter_ascii 119 (omega arith)

-- ---- messages
trip_formed : (k : ℕ) → k < 2 ^ 64 → IsWellFormed trip_descriptor (trip_descriptor_value (trip_of k))
trip_formed k small =
    (numbered_text (codes "T") k (letter_ascii 84 (omega arith)) small, (tt, (tt, ((inl (omega arith, omega arith), omega arith), (tt, (tt, tt))))))

vehicle_formed : (k : ℕ) (letter : Letter) → k < 2 ^ 64 → IsWellFormed vehicle_descriptor (vehicle_descriptor_value (vehicle_of k letter))
vehicle_formed k letter small =
    (numbered_text (letter_text letter) k (vehicle_letter letter) small, (tt, (tt, tt)))

delay_fits : (delay : ℕ) → delay < 2 ^ 31 → FitsSigned w32 (pos delay)
delay_fits delay small = omega (arith, ints)

stop_formed : (delay : ℕ) → delay < 2 ^ 31 → IsWellFormed stop_time_update (stop_time_update_value (stop_update delay))
stop_formed delay small =
    (omega arith, ((delay_fits delay small, (tt, (tt, tt))), (tt, (tt, ((omega arith, omega arith, omega arith), (tt, tt))))))

update_formed : (k : ℕ) (e : EntityState) → k < 2 ^ 64 → e.number < 2 ^ 31 → IsWellFormed entity (entity_value (update_entity k e))
update_formed k e small low =
    (numbered_text (codes "u") k (letter_ascii 117 (omega arith)) small, (tt, ((trip_formed k small, ((stop_formed e.number low, tt), (vehicle_formed k e.letter small, (omega arith, (tt, (tt, tt)))))), (tt, (tt, tt)))))

position_formed : (k : ℕ) (e : EntityState) → k < 2 ^ 64 → e.number < 2 ^ 31 → IsWellFormed entity (entity_value (position_entity k e))
position_formed k e small low =
    (numbered_text (codes "p") k (letter_ascii 112 (omega arith)) small, (tt, (tt, ((trip_formed k small, (tt, (omega arith, (tt, (omega arith, (tt, (tt, (vehicle_formed k e.letter small, (tt, tt))))))))), (tt, tt)))))

entity_formed : (feed k : ℕ) (e : EntityState) → k < 2 ^ 64 → e.number < 2 ^ 31 → IsWellFormed entity (entity_value (entity_of feed k e))
entity_formed feed k e small low =
    elim (feed == 0) as (λ t. IsWellFormed entity (entity_value (if t then update_entity k e else position_entity k e))) [
      | true ↦ update_formed k e small low
      | false ↦ position_formed k e small low
    ]

entities_formed : (feed k : ℕ) (states : List EntityState) → k + length states < 2 ^ 64 → AllBelow (2 ^ 31) states
    → AllByRecursion (IsWellFormed entity) (map entity_value (map (λ e. entity_of feed e.0 e.1) (enumerate_from k states)))
entities_formed feed k [] small low = tt
entities_formed feed k (e ∷ states) small low =
    (entity_formed feed k e (omega arith) low.0, entities_formed feed (k + 1) states (omega arith) low.1)

header_formed : (number : ℕ) → number < 40 → IsWellFormed feed_header (feed_header_value (header_of number))
header_formed number few =
    (IsUtf8-from_ascii (codes "2.0") version_ascii, ((omega arith, omega arith, omega arith), (omega arith, (tt, tt))))

-- so the states of a feed are few and low
pub record IsLow (states : List EntityState) : Type 0 where
  pub whole : length states ≡ 2000
  pub low : AllBelow (2 ^ 31) states

pub states_low : (number : ℕ) (m : Moving) (feed : ℕ) → number < 40 → IsWithin (number + 1) m → IsLow (states_of feed m)
states_low number m feed few within =
    elim (feed == 0) as (λ t. IsLow (if t then m.updates else m.positions)) [
      | true ↦ record { whole = within.updates_whole; low = all_higher (600 + 20 * (number + 1)) (2 ^ 31) m.updates (omega arith) within.updates }
      | false ↦ record { whole = within.positions_whole; low = all_higher (600 + 20 * (number + 1)) (2 ^ 31) m.positions (omega arith) within.positions }
    ]

pub snapshot_formed : (number : ℕ) (m : Moving) → number < 40 → IsWithin (number + 1) m → IsWellFormedFeed (snapshot_value number m)
snapshot_formed number m few within =
    let low = states_low number m (feed_of number) few within in
    record {
      message = (header_formed number few, (entities_formed (feed_of number) 0 (states_of (feed_of number) m) (omega (arith, low.whole)) low.low, tt));
      full = refl;
    }
