-- One walk over two lists in order.
use Rattle.std.specs.Prelude.{◌≡◌, ℕ, ◌==◌, ◌&&◌, ◌||◌, not, Bool, true, false, cond, List, [], ◌∷◌, filter, map, Some, None, unwrap_or, bytes_eq, refl}
use Rattle.std.specs.declared.cmp.Ordering.TheVariants.{Less, Equal, Greater}
use Rattle.std.specs.Ordering.{nat_cmp, ordering_then, ordering_reverse}
use Rattle.std.specs.Cmp.{IsTotalOrder}
use Rattle.std.specs.Cmp.Lexicographic.{slice_cmp}
use Rattle.std.proofs.Common.{◌∙◌, ap, eq-eqb}
use Rattle.std.proofs.lemmas.Cmp.{nat_cmp_total, nat_list_cmp_total, on_total, then_total}
use Rattle.std.proofs.lemmas.Slice.Eq.{bytes_eq-Decides}
use Rattle.std.proofs.lemmas.Bool.{and_from}
use Rattle.rule_table.specs.declared.key.EntityKey.{EntityKey}
use Rattle.rule_table.specs.declared.place.Place.{Place}
use Rattle.rule_table.specs.declared.place.Place.TheVariants as place
use Rattle.rule_table.specs.Rules.{rule_number, same_rule}
use Rattle.rule_table.specs.Order.{slot_number, same_key, same_path, same_place}
use Rattle.rule_table.specs.Asked.{feed_of, slot_of, index_of}
use Rattle.rule_table.specs.Found.{Found}
use Rattle.rule_table.specs.Groups.{Each}
use Rattle.rule_table.specs.GroupLaws.{each_weaken}
use Rattle.rule_history.specs.Standing.{Standing, Spot, same_spot, stands, was, opened, closed}
use Rattle.rule_table.specs.SameFacts.{same_facts}
use Rattle.engine_laws.specs.Order.{holder_cmp, found_cmp, Rises}
use Rattle.engine_laws.specs.Standings.{findings_of, since_in, renewed}
use Rattle.engine_laws.proofs.Ascending.{spot_equal, less_apart}
use Rattle.engine_laws.proofs.Lists.{filter-same}
use Rattle.engine_laws.proofs.Since.{renewed-same}
use Rattle.engine_laws.proofs.Sorted.{then_equal, nat_equal, text_equal}
use Rattle.engine_laws.proofs.Spots.{is_false}
use Rattle.engine_laws.specs.Walk.{WalkRenews, WalkOpens, WalkCloses}

-- ---- the order of findings is an order
within_total : IsTotalOrder (λ (k l : EntityKey). ordering_then (slice_cmp nat_cmp k.id l.id) (nat_cmp k.occurrence l.occurrence))
within_total = then_total (on_total (λ k. k.id) nat_list_cmp_total) (on_total (λ k. k.occurrence) nat_cmp_total)

holder_total : IsTotalOrder holder_cmp
holder_total = record { antisymm = back; trans = over; congr = alike }
  where
    back : (p q : Place) → holder_cmp p q ≡ ordering_reverse (holder_cmp q p)
    back (place.Head f s) (place.Head g t) = refl
    back (place.Head f s) (place.Entity l q) = refl
    back (place.Entity k p) (place.Head g t) = refl
    back (place.Entity k p) (place.Entity l q) = within_total.antisymm k l

    over : (p q r : Place) → holder_cmp p q ≡ Less → holder_cmp q r ≡ Less → holder_cmp p r ≡ Less
    over (place.Head f s) (place.Head g t) r h k = cc
    over (place.Head f s) (place.Entity l q) (place.Head g t) h k = cc
    over (place.Head f s) (place.Entity l q) (place.Entity m r) h k = refl
    over (place.Entity k p) (place.Head g t) r h i = cc
    over (place.Entity k p) (place.Entity l q) (place.Head g t) h i = cc
    over (place.Entity k p) (place.Entity l q) (place.Entity m r) h i = within_total.trans k l m h i

    alike : (p q r : Place) → holder_cmp p q ≡ Equal → holder_cmp p r ≡ holder_cmp q r
    alike (place.Head f s) (place.Entity l q) r h = cc
    alike (place.Entity k p) (place.Head g t) r h = cc
    alike (place.Head f s) (place.Head g t) (place.Head u v) h = refl
    alike (place.Head f s) (place.Head g t) (place.Entity m r) h = refl
    alike (place.Entity k p) (place.Entity l q) (place.Head u v) h = refl
    alike (place.Entity k p) (place.Entity l q) (place.Entity m r) h = within_total.congr k l m h

pub found_total : IsTotalOrder found_cmp
found_total =
    then_total (on_total (λ f. feed_of f.place) nat_cmp_total)
    (then_total (on_total (λ f. f.place) holder_total)
    (then_total (on_total (λ f. rule_number f.rule) nat_cmp_total)
    (then_total (on_total (λ f. slot_number (slot_of f.place)) nat_cmp_total) (on_total (λ f. index_of f.place) nat_cmp_total))))

equal_back : (f g : Found) → found_cmp f g ≡ Equal → found_cmp g f ≡ Equal
equal_back f g e = found_total.antisymm g f ∙ ap ordering_reverse e

turned : (f g : Found) → found_cmp f g ≡ Greater → found_cmp g f ≡ Less
turned f g h = found_total.antisymm g f ∙ ap ordering_reverse h

-- findings that compare alike are of one rule at one place
pub equal_spot : (f g : Found) → found_cmp f g ≡ Equal → same_spot f g ≡ true
equal_spot f g h =
    let a = then_equal (nat_cmp (feed_of f.place) (feed_of g.place)) _ h in
    let b = then_equal (holder_cmp f.place g.place) _ a.1 in
    let c = then_equal (nat_cmp (rule_number f.rule) (rule_number g.rule)) _ b.1 in
    let d = then_equal (nat_cmp (slot_number (slot_of f.place)) (slot_number (slot_of g.place))) _ c.1 in
    and_from (same_rule f.rule g.rule) (same_place f.place g.place) (eq-eqb (rule_number f.rule) (rule_number g.rule) (nat_equal (rule_number f.rule) (rule_number g.rule) c.0))
    (at f.place g.place a.0 b.0 d.0 d.1)
  where
    at : (p q : Place) → nat_cmp (feed_of p) (feed_of q) ≡ Equal → holder_cmp p q ≡ Equal → nat_cmp (slot_number (slot_of p)) (slot_number (slot_of q)) ≡ Equal → nat_cmp (index_of p) (index_of q) ≡ Equal → same_place p q ≡ true
    at (place.Head n s) (place.Entity l q) a b c d = cc
    at (place.Entity k p) (place.Head n s) a b c d = cc
    at (place.Head n s) (place.Head m t) a b c d = and_from (n == m) (slot_number s == slot_number t) (eq-eqb n m (nat_equal n m a)) (eq-eqb (slot_number s) (slot_number t) (nat_equal (slot_number s) (slot_number t) c))
    at (place.Entity k p) (place.Entity l q) a b c d =
        let w = then_equal (slice_cmp nat_cmp k.id l.id) (nat_cmp k.occurrence l.occurrence) b in
        and_from (same_key k l) (same_path p q)
        (and_from (k.feed == l.feed && bytes_eq k.id l.id) (k.occurrence == l.occurrence)
        (and_from (k.feed == l.feed) (bytes_eq k.id l.id) (eq-eqb k.feed l.feed (nat_equal k.feed l.feed a)) ((bytes_eq-Decides k.id l.id).1 (text_equal k.id l.id w.0)))
        (eq-eqb k.occurrence l.occurrence (nat_equal k.occurrence l.occurrence w.1)))
        (and_from (slot_number p.slot == slot_number q.slot) (p.index == q.index) (eq-eqb (slot_number p.slot) (slot_number q.slot) (nat_equal (slot_number p.slot) (slot_number q.slot) c)) (eq-eqb p.index q.index (nat_equal p.index q.index d)))

less_before : (f g : Found) → found_cmp f g ≡ Less → same_spot f g ≡ false
less_before f g h = is_false (same_spot f g) (λ e. clash (spot_equal f g e))
  where
    clash : found_cmp f g ≡ Equal → ⊥
    clash e = cc (h, e)

-- what comes before the first of a list in order comes before all of it
before_all : (f g : Found) (gs : List Found) → Rises found_cmp (g ∷ gs) → found_cmp f g ≡ Less → Each (λ x. found_cmp f x ≡ Less) (g ∷ gs)
before_all f g gs h l = (l, each_weaken (λ x. found_cmp g x ≡ Less) (λ x. found_cmp f x ≡ Less) (λ x m. found_total.trans f g x l m) gs h.0)

-- and so does what compares alike with the first, of the others
equal_before : (f g : Found) (gs : List Found) → Rises found_cmp (g ∷ gs) → found_cmp f g ≡ Equal → Each (λ x. found_cmp f x ≡ Less) gs
equal_before f g gs h e = each_weaken (λ x. found_cmp g x ≡ Less) (λ x. found_cmp f x ≡ Less) (λ x m. found_total.congr f g x e ∙ m) gs h.0

-- no finding of a list is at the spot of one that comes before all
none_at : (f : Found) (gs : List Found) → Each (λ x. found_cmp f x ≡ Less) gs → stands gs f ≡ false
none_at f [] h = refl
none_at f (g ∷ gs) h = ap (λ b. b || stands gs f) (less_before f g h.0) ∙ none_at f gs h.1

none_was : (f : Found) (gs : List Found) → Each (λ x. found_cmp f x ≡ Less) gs → was gs f ≡ false
none_was f [] h = refl
none_was f (g ∷ gs) h = ap (λ b. (b && same_facts f.facts g.facts) || was gs f) (less_before f g h.0) ∙ none_was f gs h.1

none_since : (f : Found) (xs : List Standing) → Each (λ x. found_cmp f x ≡ Less) (findings_of xs) → since_in xs f ≡ None
none_since f [] h = refl
none_since f (x ∷ xs) h = ap (λ b. cond b (Some x.since) (since_in xs f)) (less_before f x.finding h.0) ∙ none_since f xs h.1

-- ---- the walks
cons_same : {A : Type 0} {x y : A} {xs ys : List A} → x ≡ y → xs ≡ ys → x ∷ xs ≡ y ∷ ys
cons_same h k = cc

skipped : (x : Standing) (old : List Standing) (n : ℕ) (fs : List Found) → Each (λ f. found_cmp x.finding f ≡ Less) fs → renewed (x ∷ old) n fs ≡ renewed old n fs
skipped x old n fs h =
    renewed-same (x ∷ old) old n fs (each_weaken (λ f. found_cmp x.finding f ≡ Less) (λ f. since_in (x ∷ old) f ≡ since_in old f) (λ f l. ap (λ b. cond b (Some x.since) (since_in old f)) (less_apart x.finding f l)) fs h)

standing : (f : Found) (a b : ℕ) → a ≡ b → (let x : Standing = record { finding = f; since = a } in x) ≡ record { finding = f; since = b }
standing f a b e = ap (λ n. let x : Standing = record { finding = f; since = n } in x) e

pub walk_renews : WalkRenews
walk_renews = record {
  passed = λ x old n f fs h l. skipped x old n (f ∷ fs) (before_all x.finding f fs h l);
  met = λ x old n f fs h e. cons_same
      (standing f (unwrap_or (since_in (x ∷ old) f) n) x.since (ap (λ b. unwrap_or (cond b (Some x.since) (since_in old f)) n) (equal_spot f x.finding (equal_back x.finding f e))))
      (skipped x old n fs (equal_before x.finding f fs h e));
  new = λ x old n f fs h g. cons_same (standing f (unwrap_or (since_in (x ∷ old) f) n) n (ap (λ o. unwrap_or o n) (none_since f (x ∷ old) (before_all f x.finding (findings_of old) h (turned x.finding f g))))) refl;
}

unopened : (g : Found) (before : List Found) (xs : List Standing) → Each (λ f. found_cmp g f ≡ Less) (findings_of xs) → opened (g ∷ before) xs ≡ opened before xs
unopened g before [] h = refl
unopened g before (x ∷ xs) h =
    ap (λ b. cond (not ((b && same_facts x.finding.facts g.facts) || was before x.finding)) (x ∷ opened (g ∷ before) xs) (opened (g ∷ before) xs)) (less_apart g x.finding h.0)
    ∙ ap (λ ys. cond (not (was before x.finding)) (x ∷ ys) ys) (unopened g before xs h.1)

pub walk_opens : WalkOpens
walk_opens = record {
  passed = λ g before x now h l. unopened g before (x ∷ now) (before_all g x.finding (findings_of now) h l);
  met = λ g before x now hg hx e.
      ap (λ b. cond (not ((b && same_facts x.finding.facts g.facts) || was before x.finding)) (x ∷ opened (g ∷ before) now) (opened (g ∷ before) now)) (equal_spot x.finding g (equal_back g x.finding e))
      ∙ ap (λ b. cond (not (same_facts x.finding.facts g.facts || b)) (x ∷ opened (g ∷ before) now) (opened (g ∷ before) now)) (none_was x.finding before (equal_before x.finding g before hg (equal_back g x.finding e)))
      ∙ ap (λ ys. cond (not (same_facts x.finding.facts g.facts || false)) (x ∷ ys) ys) (unopened g before now (equal_before g x.finding (findings_of now) hx e))
      ∙ turn (same_facts x.finding.facts g.facts) (opened before now) (x ∷ opened before now);
  new = λ g before x now h k. ap (λ b. cond (not b) (x ∷ opened (g ∷ before) now) (opened (g ∷ before) now)) (none_was x.finding (g ∷ before) (before_all x.finding g before h (turned g x.finding k)));
}
  where
    turn : (b : Bool) (xs ys : List Standing) → cond (not (b || false)) ys xs ≡ cond b xs ys
    turn true xs ys = refl
    turn false xs ys = refl

abbrev spot_of : Found → Spot
spot_of f = record { rule = f.rule; place = f.place }

unclosed : (g : Found) (fs now : List Found) → Each (λ f. found_cmp g f ≡ Less) fs → closed fs (g ∷ now) ≡ closed fs now
unclosed g fs now h =
    ap (map spot_of)
    (filter-same (λ f. not (stands (g ∷ now) f)) (λ f. not (stands now f)) fs
    (each_weaken (λ f. found_cmp g f ≡ Less) (λ f. not (stands (g ∷ now) f) ≡ not (stands now f)) (λ f l. ap (λ b. not (b || stands now f)) (less_apart g f l)) fs h))

pub walk_closes : WalkCloses
walk_closes = record {
  passed = λ f before g now h l. unclosed g (f ∷ before) now (before_all g f before h l);
  met = λ f before g now h e.
      ap (λ b. map spot_of (cond (not (b || stands now f)) (f ∷ filter (λ x. not (stands (g ∷ now) x)) before) (filter (λ x. not (stands (g ∷ now) x)) before))) (equal_spot f g (equal_back g f e))
      ∙ unclosed g before now (equal_before g f before h e);
  gone = λ f before g now h k.
      ap (λ b. map spot_of (cond (not b) (f ∷ filter (λ x. not (stands (g ∷ now) x)) before) (filter (λ x. not (stands (g ∷ now) x)) before))) (none_at f (g ∷ now) (before_all f g now h (turned g f k)));
}
