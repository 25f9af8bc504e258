-- An object's members without what stands at the key of entities are its members but for that.
use Rattle.std.proofs.Common.{◌≡◌, ℕ, List, Option, Some, None, Bool, true, false, refl, sym, ap, subst, ◌∙◌, true≢false, codes}
use Rattle.std.specs.Prelude.{⊤, option_and_then, if◌then◌else◌}
use Rattle.std.specs.Option.{option_map}
use Rattle.std.specs.Ordering.{nat_cmp, match_ordering, is_eq}
use Rattle.std.specs.declared.cmp.Ordering.{Ordering}
use Rattle.std.specs.declared.cmp.Ordering.TheVariants.{Less, Equal, Greater}
use Rattle.std.specs.Cmp.Lexicographic.{slice_cmp}
use Rattle.std.proofs.lemmas.Map.Text.{is_eq-slice_cmp}
use Rattle.std.proofs.lemmas.Slice.Eq.{bytes_eq-Decides}
use Rattle.json.specs.Json as json
use Rattle.serde_json.specs.Data.{Data, null, Items, item, Members, no_members, member, put}
use Rattle.serde_json.specs.Find.{get_member}
use Rattle.serde_json.specs.Read.{of_json, of_items, of_members}
use Rattle.serde_json.proofs.Views.{get_member-put, get_member-put_other}
use Rattle.json_entities.specs.Parts.{Entities, emptied, entity_values, is_entity, last_said}
use Rattle.feed_values.specs.Messages.{entity}
use Rattle.feed_json.specs.Unform.{array_at, first_unknown, unform}

-- ---- members that differ at that key alone
abbrev pub Alike : Members → Members → Type 0
Alike no_members no_members = ⊤
Alike no_members (member l e ns) = ⊥
Alike (member k d ms) no_members = ⊥
Alike (member k d ms) (member l e ns) = (k ≡ l) × ((is_entity k ≡ false → d ≡ e) × Alike ms ns)

same_text : (k l : List ℕ) → slice_cmp nat_cmp k l ≡ Equal → k ≡ l
same_text k l is = (bytes_eq-Decides k l).0 (sym (is_eq-slice_cmp k l) ∙ ap is_eq is)

put_alike_at : (o : Ordering) (k l : List ℕ) (d e x y : Data) (ms ns : Members) → slice_cmp nat_cmp k l ≡ o → (is_entity k ≡ false → d ≡ e) → (is_entity l ≡ false → x ≡ y) → Alike ms ns → Alike (put k d ms) (put k e ns)
    → Alike (match_ordering o (member k d (member l x ms)) (member l d ms) (member l x (put k d ms))) (match_ordering o (member k e (member l y ns)) (member l e ns) (member l y (put k e ns)))
put_alike_at Less k l d e x y ms ns is same here alike later = (refl, (same, (refl, (here, alike))))
put_alike_at Equal k l d e x y ms ns is same here alike later = (refl, ((λ h. same (ap is_entity (same_text k l is) ∙ h)), alike))
put_alike_at Greater k l d e x y ms ns is same here alike later = (refl, (here, later))

put_alike : (k : List ℕ) (d e : Data) (ms ns : Members) → (is_entity k ≡ false → d ≡ e) → Alike ms ns → Alike (put k d ms) (put k e ns)
put_alike k d e no_members no_members same a = (refl, (same, tt))
put_alike k d e no_members (member q y ns) same a = absurd a
put_alike k d e (member l x ms) no_members same a = absurd a
put_alike k d e (member l x ms) (member q y ns) same a =
    subst (λ r. Alike (put k d (member l x ms)) (put k e (member r y ns))) a.0 (put_alike_at (slice_cmp nat_cmp k l) k l d e x y ms ns refl same a.1.0 a.1.1 (put_alike k d e ms ns same a.1.1))

get_alike_at : (o : Ordering) (k l : List ℕ) (x y : Data) (a b : Option Data) → slice_cmp nat_cmp k l ≡ o → is_entity k ≡ false → (is_entity l ≡ false → x ≡ y) → a ≡ b → match_ordering o a (Some x) a ≡ match_ordering o b (Some y) b
get_alike_at Less k l x y a b is other here later = later
get_alike_at Equal k l x y a b is other here later = ap Some (here (ap is_entity (sym (same_text k l is)) ∙ other))
get_alike_at Greater k l x y a b is other here later = later

-- at each other key they have the same
pub get_alike : (k : List ℕ) (ms ns : Members) → is_entity k ≡ false → Alike ms ns → get_member k ms ≡ get_member k ns
get_alike k no_members no_members other a = refl
get_alike k no_members (member q y ns) other a = absurd a
get_alike k (member l x ms) no_members other a = absurd a
get_alike k (member l x ms) (member q y ns) other a =
    subst (λ r. get_member k (member l x ms) ≡ get_member k (member r y ns)) a.0 (get_alike_at (slice_cmp nat_cmp k l) k l x y _ _ refl other a.1.0 (get_alike k ms ns other a.1.1))

-- and the same first key that isn't known
pub unknown_alike : (known : List ℕ → Bool) (ms ns : Members) → Alike ms ns → first_unknown known ms ≡ first_unknown known ns
unknown_alike known no_members no_members a = refl
unknown_alike known no_members (member q y ns) a = absurd a
unknown_alike known (member l x ms) no_members a = absurd a
unknown_alike known (member l x ms) (member q y ns) a =
    subst (λ r. first_unknown known (member l x ms) ≡ first_unknown known (member r y ns)) a.0 (ap (λ rest. if known l then rest else Some l) (unknown_alike known ms ns a.1.1))

-- ---- members read one after the other
-- the entities that stand at the key of a snapshot's
abbrev entities_of : Option Data → Entities
entities_of o = array_at (codes "entity") (unform entity) o

-- what is said by what stands at that key
abbrev pub said_at : Members → Entities
said_at ms = entities_of (get_member (codes "entity") ms)

abbrev pub say : Data → Entities
say d = entities_of (Some d)

-- what is read of members, beside what is read of those without what stands at the key of entities, and of that
abbrev pub IsReadAs : Option Items → Option Members → Option Members → Entities → Type 0
IsReadAs None others all said = all ≡ None
IsReadAs (Some ds) None all said = all ≡ None
IsReadAs (Some ds) (Some ns) None said = ⊥
IsReadAs (Some ds) (Some ns) (Some ms) said = Alike ms ns × (said_at ms ≡ last_said say said ds)

refused : (values : Option Items) (said : Entities) → IsReadAs values None None said
refused None said = refl
refused (Some ds) said = refl

one_more : (d : Data) (said : Entities) (values : Option Items) (others all : Option Members) → IsReadAs values others all (say d) → IsReadAs (option_map (item d) values) others all said
one_more d said None others all h = h
one_more d said (Some ds) None all h = h
one_more d said (Some ds) (Some ns) None h = h
one_more d said (Some ds) (Some ns) (Some ms) h = h

key_is_entity : (k : List ℕ) → is_entity k ≡ true → k ≡ codes "entity"
key_is_entity k is = (bytes_eq-Decides k (codes "entity")).0 is

not_entity : (k : List ℕ) → is_entity k ≡ false → codes "entity" ≡ k → ⊥
not_entity k other is = true≢false (sym ((bytes_eq-Decides k (codes "entity")).1 (sym is)) ∙ other)

abbrev Reads : json.Members → Type 0
Reads ms = (f g : Members) → Alike f g → IsReadAs (of_items (entity_values ms)) (of_members (emptied ms) g) (of_members ms f) (said_at f)

module _ (k : List ℕ) (ms : json.Members) (later : Reads ms) (f g : Members) (alike : Alike f g) where
  at_entities : is_entity k ≡ true → (o : Option Data) → IsReadAs (option_and_then (λ d. option_map (item d) (of_items (entity_values ms))) o) (of_members (emptied ms) (put k null g)) (option_and_then (λ d. of_members ms (put k d f)) o) (said_at f)
  at_entities is None = refl
  at_entities is (Some d) =
      one_more d (said_at f) (of_items (entity_values ms)) (of_members (emptied ms) (put k null g)) (of_members ms (put k d f))
      (subst (IsReadAs (of_items (entity_values ms)) (of_members (emptied ms) (put k null g)) (of_members ms (put k d f)))
      (ap (λ q. entities_of (get_member q (put k d f))) (sym (key_is_entity k is)) ∙ ap entities_of (get_member-put k d f))
      (later (put k d f) (put k null g) (put_alike k d null f g (λ no. absurd (true≢false (sym is ∙ no))) alike)))

  elsewhere : is_entity k ≡ false → (o : Option Data) → IsReadAs (of_items (entity_values ms)) (option_and_then (λ d. of_members (emptied ms) (put k d g)) o) (option_and_then (λ d. of_members ms (put k d f)) o) (said_at f)
  elsewhere is None = refused (of_items (entity_values ms)) (said_at f)
  elsewhere is (Some d) =
      subst (IsReadAs (of_items (entity_values ms)) (of_members (emptied ms) (put k d g)) (of_members ms (put k d f)))
      (ap entities_of (get_member-put_other (codes "entity") k d f (not_entity k is)))
      (later (put k d f) (put k d g) (put_alike k d d f g (λ no. refl) alike))

  next_read : (j : json.Json) (b : Bool) → is_entity k ≡ b → IsReadAs (of_items (if b then json.item j (entity_values ms) else entity_values ms)) (of_members (json.member k (if b then json.null else j) (emptied ms)) g) (of_members (json.member k j ms) f) (said_at f)
  next_read j true is = at_entities is (of_json j)
  next_read j false is = elsewhere is (of_json j)

pub members_read : (ms : json.Members) → Reads ms
members_read json.no_members f g alike = (alike, refl)
members_read (json.member k j ms) f g alike = next_read k ms (members_read ms) f g alike j (is_entity k) refl
