-- A snapshot taken in once what comes in has the lists that were held.
use Rattle.std.specs.Prelude.{◌≡◌, ℕ, ◌==◌, ◌||◌, Bool, true, false, List, [], ◌∷◌, map, Option, Some, None, option_map, unwrap_or, if◌then◌else◌, refl}
use Rattle.std.specs.List.{find}
use Rattle.std.specs.Option.{option_or}
use Rattle.std.proofs.Common.{sym, ap, ◌∙◌, subst}
use borrow.Author.Tests.{eqb-true}
use Rattle.feed_values.specs.Schema.{Value}
use Rattle.feed_values.specs.Messages.{entity}
use Rattle.feed_values.specs.Snapshot.{entity_of}
use Rattle.feed_values.specs.Views.{entity_value}
use Rattle.rule_table.specs.declared.key.EntityKey.{EntityKey}
use Rattle.rule_table.specs.Groups.{Each}
use Rattle.rule_table.specs.Order.{same_key}
use Rattle.rule_history.specs.History.{Keyed, entities_in}
use Rattle.rule_history.specs.Answered.{payload_under}
use Rattle.engine_laws.proofs.Spots.{key_is}
use Rattle.entity_parts.specs.part_laws.Touched.{is_among}
use Rattle.entity_index.specs.Changes.{AreIncoming, fresh_keys, parts_come, parts_then, replaced}
use Rattle.entity_index.specs.Held.{HeldEntities, KeyedParts, at_key, held_at, parts_at}
use Rattle.entity_index.specs.Lists.{Lists, no_lists}
use Rattle.entity_index.specs.declared.incoming.Incoming.{Incoming}
use Rattle.touched_entities.specs.Again.{lists_at, lists_under}
use Rattle.touched_entities.specs.Exchanged.{AreDistinct, IsExchanged, Taken, values_of}
use Rattle.touched_entities.proofs.Fresh.{fresh_distinct, fresh_far}

abbrev keys_of : List Incoming → List EntityKey
keys_of came = map (λ c. c.key) came

-- ---- keys with values
abbrev firsts : List (EntityKey × Value entity) → List EntityKey
firsts vs = map (λ v. v.0) vs

values-keys : (cs : List Incoming) → firsts (values_of cs) ≡ keys_of cs
values-keys [] = refl
values-keys (c ∷ cs) = ap (λ ks. c.key ∷ ks) (values-keys cs)

pub same_keys : (came coming : List Incoming) → values_of came ≡ values_of coming → keys_of came ≡ keys_of coming
same_keys came coming h = sym (values-keys came) ∙ ap firsts h ∙ values-keys coming

to_values : (Q : EntityKey × Value entity → Type 0) (cs : List Incoming) → Each (λ c. Q (c.key, entity_value c.entity)) cs → Each Q (values_of cs)
to_values Q [] h = tt
to_values Q (c ∷ cs) h = (h.0, to_values Q cs h.1)

from_values : (Q : EntityKey × Value entity → Type 0) (cs : List Incoming) → Each Q (values_of cs) → Each (λ c. Q (c.key, entity_value c.entity)) cs
from_values Q [] h = tt
from_values Q (c ∷ cs) h = (h.0, from_values Q cs h.1)

-- ---- under keys that stay
keys-mapped : (P : EntityKey → Lists) (es : List Keyed) → map (λ (c : EntityKey × Lists). c.0) (map {B = EntityKey × Lists} (λ (e : Keyed). (e.0, P e.0)) es) ≡ map (λ (e : Keyed). e.0) es
keys-mapped P [] = refl
keys-mapped P (e ∷ es) = ap (λ ks. e.0 ∷ ks) (keys-mapped P es)

at-mapped : (P : EntityKey → Lists) (k : EntityKey) (es : List Keyed) → at_key k (map {B = EntityKey × Lists} (λ (e : Keyed). (e.0, P e.0)) es) ≡ option_map (λ p. P k) (payload_under k es)
at-mapped P k [] = refl
at-mapped P k (e ∷ es) =
    elim (same_key e.0 k) as (λ b. same_key e.0 k ≡ b →
    option_map (λ (c : EntityKey × Lists). c.1) (if b then Some (let c : EntityKey × Lists = (e.0, P e.0) in c) else find (λ c. same_key c.0 k) (map {B = EntityKey × Lists} (λ (d : Keyed). (d.0, P d.0)) es))
    ≡ option_map (λ p. P k) (option_map (λ (d : Keyed). d.1) (if b then Some e else find (λ d. same_key d.0 k) es))) [
      | true ↦ λ q. ap (λ x. Some (P x)) (key_is e.0 k q)
      | false ↦ λ q. at-mapped P k es
    ] refl

-- ---- what was held under a key, whether it came in or not
module _ (old mid : List HeldEntities) (coming came : List Incoming) (taken : Taken old mid coming came) where
  lists_come : (k : EntityKey) (cs : List Incoming) → Each (λ c. c.parts ≡ lists_under old c.key) cs → (is_among (keys_of cs) k ≡ false → lists_under mid k ≡ lists_under old k) →
      unwrap_or (option_or (parts_come k cs) (lists_at mid k)) no_lists ≡ lists_under old k
  lists_come k [] all none = none refl
  lists_come k (c ∷ cs) all none =
      elim (same_key c.key k) as (λ b. same_key c.key k ≡ b → ((b || is_among (keys_of cs) k) ≡ false → lists_under mid k ≡ lists_under old k) →
      unwrap_or (option_or (option_map (λ (d : Incoming). d.parts) (if b then Some c else find (λ d. same_key d.key k) cs)) (lists_at mid k)) no_lists ≡ lists_under old k) [
        | true ↦ λ q _. all.0 ∙ ap (lists_under old) (key_is c.key k q)
        | false ↦ λ q n. lists_come k cs all.1 n
      ] refl none

  pub lists_kept : (k : EntityKey) → unwrap_or (option_or (parts_come k came) (lists_at mid k)) no_lists ≡ lists_under old k
  lists_kept k = lists_come k came taken.lists_are (λ n. taken.others_are k (sym (ap (λ ks. is_among ks k) (same_keys came coming taken.values_are)) ∙ n))

  module _ (f : ℕ) (bytes : List ℕ) (coming_is : AreIncoming f (held_at old f).bytes bytes coming) where
    pub still_incoming : AreIncoming f (held_at mid f).bytes bytes came
    still_incoming = record {
      keys_are = same_keys came coming taken.values_are ∙ coming_is.keys_are ∙ ap (λ o. fresh_keys f o bytes) (sym (taken.bytes_are f));
      values_are = from_values Q came (subst (Each Q) (sym taken.values_are) (to_values Q coming coming_is.values_are));
    }
      where
        Q : EntityKey × Value entity → Type 0
        Q v = Some v.1 ≡ option_map entity_of (payload_under v.0 (entities_in f bytes))

    module _ (new : List HeldEntities) (here : held_at new f ≡ replaced f bytes came (held_at mid f)) (others : (g : ℕ) → (f == g) ≡ false → held_at new g ≡ held_at mid g) where
      of_feed : (g : ℕ) → (f == g) ≡ false → (k : EntityKey) → is_among (keys_of coming) k ≡ true → (k.feed == g) ≡ false
      of_feed g n k m =
          elim (f == k.feed) as (λ b. (f == k.feed) ≡ b → (k.feed == g) ≡ false) [
            | true ↦ λ e. ap (λ x. x == g) (sym (eqb-true f k.feed e)) ∙ n
            | false ↦ λ e. never (ap (λ ks. is_among ks k) coming_is.keys_are ∙ fresh_far f (held_at old f).bytes bytes k e)
          ] refl
        where
          never : is_among (keys_of coming) k ≡ false → (k.feed == g) ≡ false
          never q = cc (q, m)

      pub exchanged : IsExchanged f bytes old new
      exchanged = record {
        bytes_are = ap (λ (h : HeldEntities). h.bytes) here;
        keys_are = ap (λ (h : HeldEntities). map (λ (c : EntityKey × Lists). c.0) h.parts) here ∙ keys-mapped (parts_then came (held_at mid f).parts) (entities_in f bytes);
        lists_are = λ k q.
            ap (λ g. parts_at k (held_at new g).parts) q ∙ ap (λ (h : HeldEntities). parts_at k h.parts) here
            ∙ at-mapped (parts_then came (held_at mid f).parts) k (entities_in f bytes)
            ∙ ap (λ (l : Lists). option_map (λ p. l) (payload_under k (entities_in f bytes)))
            (ap (λ g. unwrap_or (option_or (parts_come k came) (parts_at k (held_at mid g).parts)) no_lists) (sym q) ∙ lists_kept k);
        others_are = λ g n. others g n ∙ taken.far_are g (of_feed g n);
      }
