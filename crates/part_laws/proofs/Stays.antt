-- What one more snapshot leaves as it is at an entity.
use Rattle.std.specs.Prelude.{◌≡◌, ℕ, ◌==◌, ◌&&◌, not, true, false, List, Some, option_map, refl}
use Rattle.std.proofs.Common.{sym, ap, ◌∙◌, subst}
use Rattle.std.proofs.lemmas.Bool.{or_parts}
use borrow.Author.Tests.{eqb-true, eqb-false, ne_eqb}
use Rattle.feed_values.specs.Snapshot.{entity_of}
use Rattle.rule_history.specs.History.{Snapshot, Keyed, entities, entities_of_snapshot}
use Rattle.rule_history.specs.Answered.{rows, payload_under}
use Rattle.rule_history.specs.Peaks.{peak}
use Rattle.rule_history.specs.Changed.{with, is_payload, in_tested, in_paired, in_peaked}
use Rattle.rule_history.proofs.SameSnapshots.{same_payload}
use Rattle.engine_laws.proofs.Longer.{now-other}
use Rattle.engine_laws.proofs.Pairing.{pairing_stays}
use Rattle.engine_laws.proofs.Peaking.{peaking_stays}
use Rattle.part_laws.specs.Parts.{FindLocal, FindPaired, FindPeaked, IsThere}
use Rattle.part_laws.specs.Stays.{LocalStays, PairedStays, PeakedStays, IsPairing, IsPeaking}

pub other_way : (a b : ℕ) → (a == b) ≡ false → (b == a) ≡ false
other_way a b h = ne_eqb b a (λ e. eqb-false a b h (sym e))

-- an entity that isn't tested was there with the same byte string
pub was_there : (g : List Snapshot) (s : Snapshot) (e : Keyed) → IsThere (with g s) e → in_tested g s e ≡ false → IsThere g e
was_there g s e there out =
    elim (e.0.feed == s.feed) as (λ b. (e.0.feed == s.feed) ≡ b → (b && not (is_payload e.1 (payload_under e.0 (entities g s.feed)))) ≡ false → IsThere g e) [
      | true ↦ λ at h. subst (λ f. payload_under e.0 (entities g f) ≡ Some e.1) (sym (eqb-true e.0.feed s.feed at)) (same_payload e.1 (payload_under e.0 (entities g s.feed)) h)
      | false ↦ λ at h. sym (ap (λ n. payload_under e.0 (entities_of_snapshot n)) (now-other g s e.0.feed (other_way e.0.feed s.feed at))) ∙ there
    ] refl out

pub local_stays : (find : FindLocal) → LocalStays find
local_stays find t g s e there out = ap (option_map (λ p. find t e.0 (entity_of p))) (was_there g s e there out ∙ sym there)

pub paired_stays : (find : FindPaired) → IsPairing find → PairedStays find
paired_stays find is g s e l there out =
    let parts = or_parts (in_tested g s e) (in_paired g s e) out in
    let old : IsThere g e = was_there g s e there parts.0 in
    ap (option_map (λ p. find (rows g) e.0 (entity_of p))) old
    ∙ ap Some (pairing_stays find is.agree is.none g s e l old there parts.1)
    ∙ sym (ap (option_map (λ p. find (rows (with g s)) e.0 (entity_of p))) there)

pub peaked_stays : (find : FindPeaked) → IsPeaking find → PeakedStays find
peaked_stays find is g s e there out =
    let parts = or_parts (in_tested g s e) (in_peaked g s e) out in
    ap (option_map (λ p. find (peak g) e.0 (entity_of p))) (was_there g s e there parts.0)
    ∙ ap Some (peaking_stays find is.same g s e parts.1)
    ∙ sym (ap (option_map (λ p. find (peak (with g s)) e.0 (entity_of p))) there)
