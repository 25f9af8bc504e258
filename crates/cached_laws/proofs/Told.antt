-- What was told at an entity is what opened and closed there, part by part.
use Rattle.std.specs.Prelude.{◌≡◌, ℕ, ◌<◌, Bool, true, false, List, Option, Some, None, option_map, is_none, unwrap_or, if◌then◌else◌, refl}
use Rattle.std.proofs.Common.{sym, ap, ◌∙◌}
use Rattle.timetable.specs.Timetables.{Tables}
use Rattle.rule_table.specs.declared.key.EntityKey.{EntityKey}
use Rattle.rule_table.specs.Pairs.{PairRow}
use Rattle.rule_table.specs.Peaks.{PeakMap}
use Rattle.rule_history.specs.History.{Snapshot, IsTaken, entities_in}
use Rattle.rule_history.specs.Answered.{payload_under}
use Rattle.pairing_rules.specs.ByKind.{AreAlike}
use Rattle.engine_laws.specs.HeldFeeds.{peaks_after, rows_held}
use Rattle.touched_entities.specs.part_laws.Touched.{is_among}
use Rattle.touched_entities.specs.entity_index.Changes.{gone_keys}
use Rattle.touched_entities.specs.entity_index.Held.{HeldEntities, entities_before}
use Rattle.touched_entities.specs.entity_index.Lists.{Lists, no_lists, list_of}
use Rattle.touched_entities.specs.Again.{list_under, lists_at, lists_under, payload_at}
use Rattle.touched_entities.specs.Exchanged.{IsExchanged}
use Rattle.touched_entities.specs.Left.{told_left}
use Rattle.touched_entities.specs.Told.{FeedTold, Told, no_told, plus, told_at, told_between, told_parts}
use Rattle.cached_laws.specs.State.{State, IsState, feed_of}
use Rattle.cached_laws.specs.Cached.{AreCached}
use Rattle.cached_laws.specs.Keys.{AreTouched, bytes_before, lasts_then}
use Rattle.cached_laws.specs.Judged.{AreFirstTold, AreJudged}
use Rattle.cached_laws.proofs.Gone.{gone_feed, gone_payload, gone_some}
use Rattle.cached_laws.proofs.Placed.{by_feed, lists_placed, payload_far, payload_here, there}
use Rattle.cached_laws.proofs.Renewed.{plus_none}
use Rattle.cached_laws.proofs.Step.{lists_last, part_told, told_last}

module _ (t : Option Tables) (n : ℕ) (state : State) (s : Snapshot) (is : IsState state) (taken : IsTaken s) (fits : s.feed < 16) (cached : AreCached t state.index (feed_of state))
    (rows : List PairRow) (alike : AreAlike rows (rows_held (lasts_then s (feed_of state)))) (peaks : PeakMap) (raised : (f : ℕ) (vehicle : List ℕ) → peaks f vehicle ≡ peaks_after s (feed_of state) f vehicle) (local paired bounded peaked : List EntityKey)
    (touched : AreTouched state s local paired bounded peaked)
    (first last : List HeldEntities) (placed : IsExchanged s.feed s.bytes state.index first) (before after : List FeedTold) (judged : AreJudged t n s rows peaks local paired bounded peaked first last before after)
    (told : AreFirstTold n s state before) where
  abbrev old : List HeldEntities
  old = state.index

  abbrev gone : EntityKey → Bool
  gone k = is_among (gone_keys s.feed (bytes_before state s.feed) s.bytes) k

  -- an entity that is gone isn't there then
  gone_then : (k : EntityKey) → gone k ≡ true → payload_at first k ≡ None
  gone_then k h =
      payload_here state s is first placed k (gone_feed s.feed (bytes_before state s.feed) s.bytes k h)
      ∙ gone_payload s.feed (bytes_before state s.feed) s.bytes k h

  -- one that isn't gone and isn't there then was never there
  never_was : (k : EntityKey) → gone k ≡ false → payload_at first k ≡ None → payload_at old k ≡ None
  never_was k h none = by_feed state s is first placed k
      (λ q. at_feed q (payload_under k (entities_before s.feed (bytes_before state s.feed))) refl)
      (λ q. sym (payload_far state s is first placed k q) ∙ none)
    where
      clash : (o : Option (List ℕ)) → o ≡ None → is_none o ≡ false → ⊥
      clash None e f = cc
      clash (Some x) e f = cc

      at_feed : k.feed ≡ s.feed → (o : Option (List ℕ)) → payload_under k (entities_before s.feed (bytes_before state s.feed)) ≡ o → payload_at old k ≡ None
      at_feed q None e = ap (λ f. payload_under k (entities_before f (bytes_before state f))) q ∙ e
      at_feed q (Some p) e =
          absurd (clash (payload_under k (entities_in s.feed s.bytes)) (sym (payload_here state s is first placed k q) ∙ none) (sym (gone_some s.feed (bytes_before state s.feed) s.bytes k p e) ∙ h))

  abbrev told_by_parts : EntityKey → Told → Told
  told_by_parts k x = plus (plus (plus (plus x (part_told t n state s is taken fits cached rows alike peaks raised local paired bounded peaked touched first last placed before after judged k 0)) (part_told t n state s is taken fits cached rows alike peaks raised local paired bounded peaked touched first last placed before after judged k 1)) (part_told t n state s is taken fits cached rows alike peaks raised local paired bounded peaked touched first last placed before after judged k 2)) (part_told t n state s is taken fits cached rows alike peaks raised local paired bounded peaked touched first last placed before after judged k 3)

  last_none : (k : EntityKey) → payload_at first k ≡ None → lists_at last k ≡ None
  last_none k h = lists_last t n state s is taken fits cached rows alike peaks raised local paired bounded peaked touched first last placed before after judged k ∙ ap (option_map _) h

  -- where nothing is before and after nothing is told
  parts_none : (k : EntityKey) (x : Told) → lists_at first k ≡ None → lists_at last k ≡ None → told_by_parts k x ≡ x
  parts_none k x p q =
      ap (λ (o : Option Lists). four x o (lists_at last k)) p ∙ ap (λ (o : Option Lists). four x None o) q
      ∙ plus_none (plus (plus (plus x no_told) no_told) no_told) ∙ plus_none (plus (plus x no_told) no_told) ∙ plus_none (plus x no_told) ∙ plus_none x
    where
      between : Option Lists → Option Lists → ℕ → Told
      between a b part = told_between (list_of (unwrap_or a no_lists) part) (list_of (unwrap_or b no_lists) part)

      four : Told → Option Lists → Option Lists → Told
      four x a b = plus (plus (plus (plus x (between a b 0)) (between a b 1)) (between a b 2)) (between a b 3)

  first_kept : (k : EntityKey) → gone k ≡ false → lists_under first k ≡ lists_under old k
  first_kept k h = ap (λ (o : Option Lists). unwrap_or o no_lists) (lists_placed state s is first placed k) ∙ go (payload_at first k) refl
    where
      go : (o : Option (List ℕ)) → payload_at first k ≡ o → unwrap_or (option_map (λ p. lists_under old k) o) no_lists ≡ lists_under old k
      go (Some p) e = refl
      go None e = sym (ap (λ (x : Option Lists). unwrap_or x no_lists) (there state s is first placed k ∙ ap (option_map (λ p. lists_under old k)) (never_was k h e)))

  -- ---- all that is told at an entity
  pub told_is : (k : EntityKey) → told_at after k ≡ told_parts (lists_under old k) (lists_under last k)
  told_is k =
      told_last t n state s is taken fits cached rows alike peaks raised local paired bounded peaked touched first last placed before after judged k
      ∙ ap (told_by_parts k) (told.gone_are k)
      ∙ either (gone k) refl
    where
      either : (b : Bool) → gone k ≡ b → told_by_parts k (if b then told_left old k no_told else no_told) ≡ told_parts (lists_under old k) (lists_under last k)
      either true h =
          let none : payload_at first k ≡ None = gone_then k h in
          parts_none k (told_left old k no_told) (lists_placed state s is first placed k ∙ ap (option_map (λ p. lists_under old k)) none) (last_none k none)
          ∙ sym (ap (λ (o : Option Lists). told_parts (lists_under old k) (unwrap_or o no_lists)) (last_none k none))
      either false h =
          ap (λ (l : Lists). plus (plus (plus (plus no_told (told_between l.local (list_under last k 0))) (told_between l.paired (list_under last k 1))) (told_between l.bounded (list_under last k 2))) (told_between l.peaked (list_under last k 3)))
          (first_kept k h)
