use Rattle.std.proofs.Common.{◌≡◌, List, [], ◌∷◌, Bool, true, false, Option, Some, cond, refl, Global, sym, ap, ◌∙◌}
use Rattle.std.proofs.lemmas.Slice.Eq.{bytes_eq-Decides}
use Rattle.std.specs.List.{find}
use Rattle.std.specs.Rc.{rc_str_bytes}
use Rattle.std.specs.Str.{bytes_eq}
use Rattle.std.specs.declared.rc.RcStr.{RcStr}
use Rattle.schedule_rows.proofs.shared_ids.SharedIds.shared.Goals as goal

-- what is found passes the test
passes : {X : Type 0} (p : X → Bool) (xs : List X) (x : X) → find p xs ≡ Some x → p x ≡ true
passes p [] x is = cc is
passes {X} p (y ∷ ys) x is = by (p y) refl is (passes p ys x)
  where
    by : (b : Bool) → p y ≡ b → cond b (Some y) (find p ys) ≡ Some x → (find p ys ≡ Some x → p x ≡ true) → p x ≡ true
    by true passed same rest = ap p (sym (some_one same)) ∙ passed
      where
        some_one : Some y ≡ Some x → y ≡ x
        some_one e = cc e
    by false out same rest = rest same

pub returns-in-Some : goal.returns-in-Some
returns-in-Some c =
    let text = c.in-Some.text.now in
    let test = λ (key : RcStr Global). bytes_eq c.as_str.result.now (rc_str_bytes key) in
    let found : test text ≡ true = passes test c.args.self.now.texts.keys text (sym c.in-Some.ensures.key) in
    c.in_ok-text.ensures.cases ∙ sym ((bytes_eq-Decides _ _).0 found) ∙ c.as_str.ensures
