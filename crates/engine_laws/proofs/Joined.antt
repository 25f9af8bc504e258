-- Lists renewed, and what opened and closed, header by header and entity by entity.
use Rattle.std.specs.Prelude.{◌≡◌, ℕ, zero, suc, ◌<◌, ◌≤◌, not, List, [], ◌∷◌, ◌++◌, filter, refl}
use Rattle.std.specs.List.{flat_map, list_any}
use Rattle.std.proofs.Common.{sym, ◌∙◌, ap, subst, arith}
use Rattle.std.proofs.lemmas.List.{map-append}
use Rattle.std.proofs.lemmas.List.Elements.{filter-append}
use Rattle.rule_table.specs.declared.key.EntityKey.{EntityKey}
use Rattle.rule_table.specs.Found.{Found}
use Rattle.rule_table.specs.Groups.{Each, IsOn, IsUnder}
use Rattle.rule_table.specs.GroupLaws.{each_weaken}
use Rattle.rule_table.specs.CitedLaws.{both_same}
use Rattle.rule_history.specs.History.{below, feed_limit}
use Rattle.rule_history.specs.Standing.{Standing, Spot, same_spot, same_finding, stands, was, opened, closed, spots_of}
use Rattle.engine_laws.specs.HeldFeeds.{KeyedLists, HeldFeed, AreOn, AreUnder, IsOwn, KeyedFindings, found_list, AreFoundAt, list_under, feed_list, joined, renewed_lists, opened_in, closed_in}
use Rattle.engine_laws.specs.Standings.{findings_of, since_in, renewed}
use Rattle.engine_laws.proofs.Apart.{findings-append, having-header, having-entity}
use Rattle.engine_laws.proofs.Lists.{each_of_map, filter-same}
use Rattle.engine_laws.proofs.Since.{renewed-append, renewed-same}
use Rattle.engine_laws.proofs.Spots.{having, first_since, is_some_one, since-having, any-having, was-having, spot_on, spot_under}

closed-append : (fs gs now : List Found) → closed (fs ++ gs) now ≡ closed fs now ++ closed gs now
closed-append fs gs now =
    ap spots_of (filter-append (λ f. not (stands now f)) fs gs)
    ∙ map-append (λ f. let r : Spot = record { rule = f.rule; place = f.place } in r) (filter (λ f. not (stands now f)) fs) (filter (λ f. not (stands now f)) gs)

module _ (feeds : ℕ → HeldFeed) (home : (f : ℕ) → IsOwn f (feeds f)) where
  -- ---- numbers
  pub renewed-header : (f n : ℕ) (fs : List Found) → f < feed_limit → AreOn f fs → renewed (feeds f).header n fs ≡ renewed (joined feeds) n fs
  renewed-header f n fs l on =
      renewed-same (feeds f).header (joined feeds) n fs
      (each_weaken (λ x. IsOn f x.place) (λ x. since_in (feeds f).header x ≡ since_in (joined feeds) x)
      (λ x o. since-having (feeds f).header x ∙ ap first_since (sym (having-header feeds home f (same_spot x) l (λ y e. spot_on f x y o e))) ∙ sym (since-having (joined feeds) x)) fs on)

  pub renewed-entity : (key : EntityKey) (n : ℕ) (fs : List Found) → key.feed < feed_limit → AreUnder key fs → renewed (list_under key (feeds key.feed).entities) n fs ≡ renewed (joined feeds) n fs
  renewed-entity key n fs l under =
      renewed-same (list_under key (feeds key.feed).entities) (joined feeds) n fs
      (each_weaken (λ x. IsUnder key x.place) (λ x. since_in (list_under key (feeds key.feed).entities) x ≡ since_in (joined feeds) x)
      (λ x u. since-having (list_under key (feeds key.feed).entities) x ∙ ap first_since (sym (having-entity feeds home key (same_spot x) l (λ y e. spot_under key x y u e))) ∙ sym (since-having (joined feeds) x)) fs under)

  lists-renewed : (f n : ℕ) → f < feed_limit → (keyed : KeyedFindings) → Each (λ c. AreUnder c.0 c.1) keyed → Each (λ c. c.0.feed ≡ f) keyed →
      flat_map (λ c. c.1) (renewed_lists (feeds f).entities n keyed) ≡ renewed (joined feeds) n (flat_map (λ c. c.1) keyed)
  lists-renewed f n l [] under of_feed = refl
  lists-renewed f n l (c ∷ keyed) under of_feed =
      both_same
      (subst (λ g. renewed (list_under c.0 (feeds g).entities) n c.1 ≡ renewed (joined feeds) n c.1) of_feed.0
      (renewed-entity c.0 n c.1 (subst (λ g. g < feed_limit) (sym of_feed.0) l) under.0))
      (lists-renewed f n l keyed under.1 of_feed.1)
      ∙ sym (renewed-append (joined feeds) n c.1 (flat_map (λ c. c.1) keyed))

  -- a list renewed header by header and entity by entity is the one list renewed
  pub joined_renewed : (n : ℕ) (later : ℕ → HeldFeed) (headers : ℕ → List Found) (keyed : ℕ → KeyedFindings) →
      ((f : ℕ) → f < feed_limit → AreFoundAt f (headers f) (keyed f)) →
      ((f : ℕ) → f < feed_limit → (later f).header ≡ renewed (feeds f).header n (headers f)) →
      ((f : ℕ) → f < feed_limit → (later f).entities ≡ renewed_lists (feeds f).entities n (keyed f)) →
      joined later ≡ renewed (joined feeds) n (below (λ f. found_list (headers f) (keyed f)) feed_limit)
  joined_renewed n later headers keyed own hs cs = go feed_limit (omega arith)
    where
      go : (i : ℕ) → i ≤ feed_limit → below (λ f. feed_list (later f)) i ≡ renewed (joined feeds) n (below (λ f. found_list (headers f) (keyed f)) i)
      go zero le = refl
      go (suc i) le =
          let l : i < feed_limit = omega arith in
          both_same (go i (omega arith))
          (both_same (hs i l ∙ renewed-header i n (headers i) l (own i l).head_on) (ap (flat_map (λ c. c.1)) (cs i l) ∙ lists-renewed i n l (keyed i) (own i l).under (own i l).of_feed)
          ∙ sym (renewed-append (joined feeds) n (headers i) (flat_map (λ c. c.1) (keyed i))))
          ∙ sym (renewed-append (joined feeds) n (below (λ f. found_list (headers f) (keyed f)) i) (found_list (headers i) (keyed i)))

  -- ---- what was there, and what stands
  was_in : (f : Found) (part : List Standing) → having (same_spot f) (joined feeds) ≡ having (same_spot f) part → was (findings_of (joined feeds)) f ≡ was (findings_of part) f
  was_in f part e = was-having (joined feeds) f ∙ ap (list_any (λ x. same_finding f x.finding)) e ∙ sym (was-having part f)

  stands_in : (f : Found) (part : List Standing) → having (same_spot f) (joined feeds) ≡ having (same_spot f) part → stands (findings_of (joined feeds)) f ≡ stands (findings_of part) f
  stands_in f part e = any-having (same_spot f) (joined feeds) ∙ ap is_some_one e ∙ sym (any-having (same_spot f) part)

  opened_same : (part xs : List Standing) (P : Found → Type 0) → ((f : Found) → P f → having (same_spot f) (joined feeds) ≡ having (same_spot f) part) → Each P (findings_of xs) →
      opened (findings_of (joined feeds)) xs ≡ opened (findings_of part) xs
  opened_same part xs P same all =
      filter-same (λ x. not (was (findings_of (joined feeds)) x.finding)) (λ x. not (was (findings_of part) x.finding)) xs
      (each_weaken (λ x. P x.finding) (λ x. not (was (findings_of (joined feeds)) x.finding) ≡ not (was (findings_of part) x.finding))
      (λ x p. ap not (was_in x.finding part (same x.finding p))) xs (each_of_map (λ x. x.finding) P xs all))

  closed_same : (part : List Standing) (fs : List Found) (P : Found → Type 0) → ((f : Found) → P f → having (same_spot f) (joined feeds) ≡ having (same_spot f) part) → Each P fs →
      closed fs (findings_of (joined feeds)) ≡ closed fs (findings_of part)
  closed_same part fs P same all =
      ap spots_of (filter-same (λ f. not (stands (findings_of (joined feeds)) f)) (λ f. not (stands (findings_of part) f)) fs
      (each_weaken P (λ f. not (stands (findings_of (joined feeds)) f) ≡ not (stands (findings_of part) f)) (λ f p. ap not (stands_in f part (same f p))) fs all))

  seen_header : (g : ℕ) → g < feed_limit → (f : Found) → IsOn g f.place → having (same_spot f) (joined feeds) ≡ having (same_spot f) (feeds g).header
  seen_header g l f on = having-header feeds home g (same_spot f) l (λ y e. spot_on g f y on e)

  seen_entity : (key : EntityKey) (g : ℕ) → key.feed ≡ g → g < feed_limit → (f : Found) → IsUnder key f.place → having (same_spot f) (joined feeds) ≡ having (same_spot f) (list_under key (feeds g).entities)
  seen_entity key g at l f under =
      subst (λ g. having (same_spot f) (joined feeds) ≡ having (same_spot f) (list_under key (feeds g).entities)) at
      (having-entity feeds home key (same_spot f) (subst (λ g. g < feed_limit) (sym at) l) (λ y e. spot_under key f y under e))

  opened-lists : (g : ℕ) → g < feed_limit → (new : KeyedLists) → Each (λ c. AreUnder c.0 (findings_of c.1)) new → Each (λ c. c.0.feed ≡ g) new →
      opened (findings_of (joined feeds)) (flat_map (λ c. c.1) new) ≡ flat_map (λ c. opened (findings_of (list_under c.0 (feeds g).entities)) c.1) new
  opened-lists g l [] under of_feed = refl
  opened-lists g l (c ∷ new) under of_feed =
      filter-append (λ x. not (was (findings_of (joined feeds)) x.finding)) c.1 (flat_map (λ c. c.1) new)
      ∙ both_same (opened_same (list_under c.0 (feeds g).entities) c.1 (λ x. IsUnder c.0 x.place) (seen_entity c.0 g of_feed.0 l) under.0) (opened-lists g l new under.1 of_feed.1)

  closed-lists : (g : ℕ) → g < feed_limit → (old : KeyedLists) → Each (λ c. AreUnder c.0 (findings_of c.1)) old → Each (λ c. c.0.feed ≡ g) old →
      closed (findings_of (flat_map (λ c. c.1) old)) (findings_of (joined feeds)) ≡ flat_map (λ c. closed (findings_of c.1) (findings_of (list_under c.0 (feeds g).entities))) old
  closed-lists g l [] under of_feed = refl
  closed-lists g l (c ∷ old) under of_feed =
      ap (λ fs. closed fs (findings_of (joined feeds))) (findings-append c.1 (flat_map (λ c. c.1) old))
      ∙ closed-append (findings_of c.1) (findings_of (flat_map (λ c. c.1) old)) (findings_of (joined feeds))
      ∙ both_same (closed_same (list_under c.0 (feeds g).entities) (findings_of c.1) (λ x. IsUnder c.0 x.place) (seen_entity c.0 g of_feed.0 l) under.0) (closed-lists g l old under.1 of_feed.1)

-- ---- what opened and what closed
module _ (old : ℕ → HeldFeed) (home : (f : ℕ) → IsOwn f (old f)) (new : ℕ → HeldFeed) (home' : (f : ℕ) → IsOwn f (new f)) where
  pub opened_joined : opened (findings_of (joined old)) (joined new) ≡ below (λ f. opened_in (old f) (new f)) feed_limit
  opened_joined = go feed_limit (omega arith)
    where
      go : (i : ℕ) → i ≤ feed_limit → opened (findings_of (joined old)) (below (λ f. feed_list (new f)) i) ≡ below (λ f. opened_in (old f) (new f)) i
      go zero le = refl
      go (suc i) le =
          let l : i < feed_limit = omega arith in
          filter-append (λ x. not (was (findings_of (joined old)) x.finding)) (below (λ f. feed_list (new f)) i) (feed_list (new i))
          ∙ both_same (go i (omega arith))
          (filter-append (λ x. not (was (findings_of (joined old)) x.finding)) (new i).header (flat_map (λ c. c.1) (new i).entities)
          ∙ both_same (opened_same old home (old i).header (new i).header (λ x. IsOn i x.place) (seen_header old home i l) (home' i).head_on)
          (opened-lists old home i l (new i).entities (home' i).under_keys (home' i).of_feed))

  pub closed_joined : closed (findings_of (joined old)) (findings_of (joined new)) ≡ below (λ f. closed_in (old f) (new f)) feed_limit
  closed_joined = go feed_limit (omega arith)
    where
      go : (i : ℕ) → i ≤ feed_limit → closed (findings_of (below (λ f. feed_list (old f)) i)) (findings_of (joined new)) ≡ below (λ f. closed_in (old f) (new f)) i
      go zero le = refl
      go (suc i) le =
          let l : i < feed_limit = omega arith in
          ap (λ fs. closed fs (findings_of (joined new))) (findings-append (below (λ f. feed_list (old f)) i) (feed_list (old i)))
          ∙ closed-append (findings_of (below (λ f. feed_list (old f)) i)) (findings_of (feed_list (old i))) (findings_of (joined new))
          ∙ both_same (go i (omega arith))
          (ap (λ fs. closed fs (findings_of (joined new))) (findings-append (old i).header (flat_map (λ c. c.1) (old i).entities))
          ∙ closed-append (findings_of (old i).header) (findings_of (flat_map (λ c. c.1) (old i).entities)) (findings_of (joined new))
          ∙ both_same (closed_same new home' (new i).header (findings_of (old i).header) (λ x. IsOn i x.place) (seen_header new home' i l) (home i).head_on)
          (closed-lists new home' i l (old i).entities (home i).under_keys (home i).of_feed))
