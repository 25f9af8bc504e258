-- Entries under keys: lists that have the same keys and the same under each are the same.
use Rattle.std.specs.Prelude.{◌≡◌, ℕ, false, List, [], ◌∷◌, map, option_map, refl}
use Rattle.std.specs.declared.cmp.Ordering.TheVariants.{Less}
use Rattle.std.proofs.Common.{sym, ap, ◌∙◌, subst}
use Rattle.std.proofs.lemmas.Option.{same_Some}
use Rattle.rule_table.specs.declared.key.EntityKey.{EntityKey}
use Rattle.rule_table.specs.Groups.{Each}
use Rattle.rule_table.specs.GroupLaws.{each_weaken}
use Rattle.rule_table.specs.Order.{key_cmp, same_key}
use Rattle.rule_table.specs.Rises.{Rises, Rising}
use Rattle.engine_laws.specs.HeldFeeds.{AreApart}
use Rattle.engine_laws.proofs.Spots.{key_self}
use Rattle.touched_entities.specs.entity_index.Held.{at_key}
use Rattle.touched_entities.specs.entity_index.AtKeyProofs.{at-mapped, at_first, at_later, keys-apart}

pub same_entries : {A : Type 0} (xs ys : List (EntityKey × A)) → map (λ e. e.0) xs ≡ map (λ e. e.0) ys → AreApart xs → Each (λ e. at_key e.0 xs ≡ at_key e.0 ys) xs → xs ≡ ys
same_entries [] [] h a s = refl
same_entries [] (y ∷ ys) h a s = cc
same_entries (x ∷ xs) [] h a s = cc
same_entries {A} (x ∷ xs) (y ∷ ys) h a s =
    let key : x.0 ≡ y.0 = first x.0 y.0 (map (λ e. e.0) xs) (map (λ e. e.0) ys) h in
    both x y key (value key) (same_entries xs ys (rest x.0 y.0 (map (λ e. e.0) xs) (map (λ e. e.0) ys) h) a.1 (behind key xs a.0 s.1))
  where
    first : (k l : EntityKey) (ks ls : List EntityKey) → k ∷ ks ≡ l ∷ ls → k ≡ l
    first k l ks ls e = cc

    rest : (k l : EntityKey) (ks ls : List EntityKey) → k ∷ ks ≡ l ∷ ls → ks ≡ ls
    rest k l ks ls e = cc

    value : x.0 ≡ y.0 → x.1 ≡ y.1
    value key = same_Some x.1 y.1 (sym (at_first x xs x.0 (key_self x.0)) ∙ s.0 ∙ at_first y ys x.0 (ap (λ k. same_key k x.0) (sym key) ∙ key_self x.0))

    both : (p q : EntityKey × A) → p.0 ≡ q.0 → p.1 ≡ q.1 → xs ≡ ys → p ∷ xs ≡ q ∷ ys
    both p q k v r = ap (λ (c : EntityKey). (let d : EntityKey × A = (c, p.1) in d) ∷ xs) k ∙ ap (λ (c : A). (let d : EntityKey × A = (q.0, c) in d) ∷ xs) v ∙ ap (λ zs. q ∷ zs) r

    behind : x.0 ≡ y.0 → (ds : List (EntityKey × A)) → Each (λ d. same_key x.0 d.0 ≡ false) ds → Each (λ d. at_key d.0 (x ∷ xs) ≡ at_key d.0 (y ∷ ys)) ds → Each (λ d. at_key d.0 xs ≡ at_key d.0 ys) ds
    behind key [] p q = tt
    behind key (d ∷ ds) p q = (sym (at_later x xs d.0 p.0) ∙ q.0 ∙ at_later y ys d.0 (ap (λ k. same_key k d.0) (sym key) ∙ p.0), behind key ds p.1 q.1)

-- entries are in order as their keys are
pub rising_of : {A : Type 0} (es : List (EntityKey × A)) → Rises key_cmp (map (λ e. e.0) es) → Rising es
rising_of [] h = tt
rising_of {A} (e ∷ es) h = (each es h.0, rising_of es h.1)
  where
    each : (ds : List (EntityKey × A)) → Each (λ k. key_cmp e.0 k ≡ Less) (map (λ d. d.0) ds) → Each (λ d. key_cmp e.0 d.0 ≡ Less) ds
    each [] p = tt
    each (d ∷ ds) p = (p.0, each ds p.1)

pub keys_of_rising : {A : Type 0} (es : List (EntityKey × A)) → Rising es → Rises key_cmp (map (λ e. e.0) es)
keys_of_rising [] h = tt
keys_of_rising {A} (e ∷ es) h = (each es h.0, keys_of_rising es h.1)
  where
    each : (ds : List (EntityKey × A)) → Each (λ d. key_cmp e.0 d.0 ≡ Less) ds → Each (λ k. key_cmp e.0 k ≡ Less) (map (λ d. d.0) ds)
    each [] p = tt
    each (d ∷ ds) p = (p.0, each ds p.1)

pub map-map : {A B C : Type 0} (f : A → B) (g : B → C) (xs : List A) → map g (map f xs) ≡ map (λ x. g (f x)) xs
map-map f g [] = refl
map-map f g (x ∷ xs) = ap (λ ys. g (f x) ∷ ys) (map-map f g xs)

-- what is said of the keys of the one is said of the other's
each_key : {A B : Type 0} (P : EntityKey → Type 0) (xs : List (EntityKey × A)) (ys : List (EntityKey × B)) → map (λ e. e.0) xs ≡ map (λ e. e.0) ys → Each (λ e. P e.0) ys → Each (λ e. P e.0) xs
each_key P [] ys h all = tt
each_key P (x ∷ xs) [] h all = cc
each_key P (x ∷ xs) (y ∷ ys) h all = (subst P (sym (first x.0 y.0 (map (λ e. e.0) xs) (map (λ e. e.0) ys) h)) all.0, each_key P xs ys (rest x.0 y.0 (map (λ e. e.0) xs) (map (λ e. e.0) ys) h) all.1)
  where
    first : (k l : EntityKey) (ks ls : List EntityKey) → k ∷ ks ≡ l ∷ ls → k ≡ l
    first k l ks ls e = cc

    rest : (k l : EntityKey) (ks ls : List EntityKey) → k ∷ ks ≡ l ∷ ls → ks ≡ ls
    rest k l ks ls e = cc

-- entries whose values come of those of entities of one feed
pub lists_are : {A B : Type 0} (f : ℕ) (now : EntityKey → A → B) (parts : List (EntityKey × B)) (there : List (EntityKey × A)) → map (λ c. c.0) parts ≡ map (λ e. e.0) there → AreApart there → Each (λ e. e.0.feed ≡ f) there
    → ((k : EntityKey) → k.feed ≡ f → at_key k parts ≡ option_map (now k) (at_key k there)) → parts ≡ map {B = EntityKey × B} (λ e. (e.0, now e.0 e.1)) there
lists_are {A} {B} f now parts there keys apart own told =
    same_entries parts (map {B = EntityKey × B} (λ e. (e.0, now e.0 e.1)) there) (keys ∙ sym (map-map (λ (e : EntityKey × A). let d : EntityKey × B = (e.0, now e.0 e.1) in d) (λ c. c.0) there))
    (keys-apart there parts (sym keys) apart)
    (each_key (λ k. at_key k parts ≡ at_key k (map {B = EntityKey × B} (λ e. (e.0, now e.0 e.1)) there)) parts there keys
    (each_weaken (λ (e : EntityKey × A). e.0.feed ≡ f) (λ e. at_key e.0 parts ≡ at_key e.0 (map {B = EntityKey × B} (λ e. (e.0, now e.0 e.1)) there)) (λ e h. told e.0 h ∙ sym (at-mapped now there e.0)) there own))
