-- One more trip that is remembered.
use Rattle.std.proofs.Common.{◌≡◌, Bool, true, false, cond, Option, Some, Result, Ok, Err, String, Global, refl, sym, ap, subst, ◌∙◌}
use Rattle.std.specs.Prelude.{IfSome, OnOk, OnErr, bytes_eq}
use Rattle.std.specs.BTreeMap.{BTreeMap, get_by_text}
use Rattle.std.proofs.lemmas.Slice.Eq.{bytes_eq-Decides}
use Rattle.timetable.specs.Maps.{Text}
use Rattle.timetable.specs.Timetables.{Tables}
use Rattle.timetable_agree.specs.Alike.{same_trip}
use Rattle.timetable_agree.specs.Compared.{AreCompared}

pub one_more : (a b : Tables) (old new : Text → Option Bool) (id : Text) (same : Bool) → AreCompared a b old → same ≡ same_trip a b id
    → ((other : Text) → new other ≡ cond (bytes_eq id other) (Some same) (old other)) → AreCompared a b new
one_more a b old new id same known is put other =
    subst (λ o. IfSome o (λ s. s ≡ same_trip a b other)) (sym (put other)) (either (bytes_eq id other) refl)
  where
    either : (t : Bool) → bytes_eq id other ≡ t → IfSome (cond t (Some same) (old other)) (λ s. s ≡ same_trip a b other)
    either true e = is ∙ ap (same_trip a b) ((bytes_eq-Decides id other).0 e)
    either false e = known other

pub remembered_is : (a b : Tables) (known : Text → Option Bool) (id : Text) (same : Bool) → AreCompared a b known → Some same ≡ known id → same ≡ same_trip a b id
remembered_is a b known id same h e = subst (λ o. IfSome o (λ s. s ≡ same_trip a b id)) (sym e) (h id)

-- after an insertion, whether it was refused or not
pub after_insert : {A E P Q : Type 0} (r : Result A E) (R : Type 0) → OnOk r P → OnErr r Q → (P → R) → (Q → R) → R
after_insert (Ok x) R p q f g = f p
after_insert (Err e) R p q f g = g q

pub unchanged : (a b : Tables) (m n : BTreeMap (String Global) Bool) → AreCompared a b (get_by_text m) → n.entries ≡ m.entries → AreCompared a b (get_by_text n)
unchanged a b m n known same id = subst (λ o. IfSome o (λ s. s ≡ same_trip a b id)) (sym (looked_up m n id same)) (known id)
  where
    looked_up : (m n : BTreeMap (String Global) Bool) (id : Text) → n.entries ≡ m.entries → get_by_text n id ≡ get_by_text m id
    looked_up m n id same = rw same refl

-- what is said of two timetables is said of the same two
pub kept : {T : Type 0} (f : T → T → Bool) (a b c d : T) → a ≡ b → c ≡ d → f a c ≡ f b d
kept f a b c d p q = ap (λ x. f x c) p ∙ ap (f b) q
