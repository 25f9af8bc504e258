-- What a snapshot opens and closes at entities, taken at some keys alone.
use Rattle.std.specs.Prelude.{◌≡◌, Bool, false, List, []}
use Rattle.std.specs.List.{flat_map, list_any}
use Rattle.rule_table.specs.declared.key.EntityKey.{EntityKey}
use Rattle.rule_table.specs.Order.{key_cmp, same_key}
use Rattle.rule_table.specs.Rises.{Rises, Rising}
use Rattle.rule_history.specs.Standing.{opened, closed}
use Rattle.engine_laws.specs.HeldFeeds.{KeyedLists, list_under}
use Rattle.engine_laws.specs.Standings.{findings_of}

-- whether a key is one of a list
abbrev pub is_among : List EntityKey → EntityKey → Bool
is_among keys key = list_any (λ q. same_key q key) keys

-- nothing opens, or closes, under the keys beside some
abbrev pub NoneOpenBeside : List EntityKey → KeyedLists → KeyedLists → Type 0
NoneOpenBeside touched old new = (key : EntityKey) → is_among touched key ≡ false → opened (findings_of (list_under key old)) (list_under key new) ≡ []

abbrev pub NoneCloseBeside : List EntityKey → KeyedLists → KeyedLists → Type 0
NoneCloseBeside touched old new = (key : EntityKey) → is_among touched key ≡ false → closed (findings_of (list_under key old)) (findings_of (list_under key new)) ≡ []

-- What opened at the entities of a feed, in the order of their keys, is what opened at the touched keys, in the order of these, where nothing opened at
-- all others.
abbrev pub TouchedOpen : Type 0
TouchedOpen = (old new : KeyedLists) → Rising new → (touched : List EntityKey) → Rises key_cmp touched → NoneOpenBeside touched old new →
    flat_map (λ c. opened (findings_of (list_under c.0 old)) c.1) new ≡ flat_map (λ k. opened (findings_of (list_under k old)) (list_under k new)) touched

-- And so is what closed, at entities that are gone too.
abbrev pub TouchedClose : Type 0
TouchedClose = (old new : KeyedLists) → Rising old → (touched : List EntityKey) → Rises key_cmp touched → NoneCloseBeside touched old new →
    flat_map (λ c. closed (findings_of c.1) (findings_of (list_under c.0 new))) old ≡ flat_map (λ k. closed (findings_of (list_under k old)) (findings_of (list_under k new))) touched
