-- A part judged again under some keys is renewed under all, where it has what is found beside them.
use Rattle.std.specs.Prelude.{◌≡◌, ℕ, zero, suc, Bool, true, false, List, [], ◌++◌, Option, Some, None, option_map, unwrap_or, if◌then◌else◌, refl}
use Rattle.std.proofs.Common.{sym, ap, ◌∙◌, subst, append-nil}
use Rattle.rule_table.specs.declared.key.EntityKey.{EntityKey}
use Rattle.rule_table.specs.Found.{Found}
use Rattle.rule_history.specs.Standing.{Standing, Spot}
use Rattle.engine_laws.specs.Order.{found_cmp, Rises}
use Rattle.engine_laws.specs.Standings.{findings_of, renewed}
use Rattle.engine_laws.proofs.Next.{renewed-itself}
use Rattle.engine_laws.proofs.Unchanged.{opened-same, closed-same}
use Rattle.touched_entities.specs.part_laws.Touched.{is_among}
use Rattle.touched_entities.specs.entity_index.Held.{HeldEntities}
use Rattle.touched_entities.specs.entity_index.Lists.{Lists, no_lists, list_of, with_list}
use Rattle.touched_entities.specs.Again.{FindPart, IsPassed, found_under, list_renewed, list_under, lists_at, renewed_under, told_renewed}
use Rattle.touched_entities.specs.Told.{FeedTold, Told, no_told, plus, told_at, told_between}

-- a list put back where it was
pub put_back : (part : ℕ) (o : Option Lists) → option_map (λ l. with_list l part (list_of (unwrap_or o no_lists) part)) o ≡ o
put_back part None = refl
put_back zero (Some l) = refl
put_back (suc zero) (Some l) = refl
put_back (suc (suc zero)) (Some l) = refl
put_back (suc (suc (suc n))) (Some l) = refl

-- nothing is told between a list and itself
pub told_none : (xs : List Standing) → told_between xs xs ≡ no_told
told_none xs = both (opened-same xs) (closed-same (findings_of xs))
  where
    both : {a b : List Standing} {c d : List Spot} → a ≡ b → c ≡ d → (let x : Told = record { opened = a; closed = c } in x) ≡ (let y : Told = record { opened = b; closed = d } in y)
    both p q = cc

pub plus_none : (a : Told) → plus a no_told ≡ a
plus_none a =
    ap (λ (xs : List Standing). let x : Told = record { opened = xs; closed = a.closed ++ [] } in x) (append-nil a.opened)
    ∙ ap (λ (xs : List Spot). let x : Told = record { opened = a.opened; closed = xs } in x) (append-nil a.closed)

module _ (part n : ℕ) (find all : FindPart) (keys : List EntityKey) (old new : List HeldEntities) (before after : List FeedTold)
    (passed : IsPassed part n find keys old new before after) (rises : (k : EntityKey) → Rises found_cmp (found_under all old k))
    (same : (k : EntityKey) → is_among keys k ≡ true → found_under find old k ≡ found_under all old k)
    (stays : (k : EntityKey) → is_among keys k ≡ false → findings_of (list_under old k part) ≡ found_under all old k) where
  itself : (k : EntityKey) → is_among keys k ≡ false → list_renewed part n all old k ≡ list_under old k part
  itself k h =
      ap (renewed (list_under old k part) n) (sym (stays k h))
      ∙ renewed-itself (list_under old k part) n (subst (Rises found_cmp) (sym (stays k h)) (rises k))

  pub lists_all : (k : EntityKey) → lists_at new k ≡ renewed_under part n all old k
  lists_all k = passed.lists_are k ∙ either (is_among keys k) refl
    where
      either : (b : Bool) → is_among keys k ≡ b → (if b then renewed_under part n find old k else lists_at old k) ≡ renewed_under part n all old k
      either true h = ap (λ (fs : List Found). option_map (λ l. with_list l part (renewed (list_under old k part) n fs)) (lists_at old k)) (same k h)
      either false h = sym (ap (λ (xs : List Standing). option_map (λ l. with_list l part xs) (lists_at old k)) (itself k h) ∙ put_back part (lists_at old k))

  pub told_all : (k : EntityKey) → told_at after k ≡ plus (told_at before k) (told_renewed part n all old k)
  told_all k = passed.told_are k ∙ either (is_among keys k) refl
    where
      either : (b : Bool) → is_among keys k ≡ b → (if b then plus (told_at before k) (told_renewed part n find old k) else told_at before k) ≡ plus (told_at before k) (told_renewed part n all old k)
      either true h = ap (λ (fs : List Found). plus (told_at before k) (told_between (list_under old k part) (renewed (list_under old k part) n fs))) (same k h)
      either false h =
          sym (ap (λ (xs : List Standing). plus (told_at before k) (told_between (list_under old k part) xs)) (itself k h)
          ∙ ap (plus (told_at before k)) (told_none (list_under old k part)) ∙ plus_none (told_at before k))
