-- The timestamps of an entity in the place of others.
use Rattle.std.specs.Prelude.{◌≡◌, ℕ, ◌==◌, Bool, true, false, not, ◌&&◌, ◌||◌, Option, Some, None, option_map, pos, refl}
use Rattle.std.proofs.Common.{sym, ap, ◌∙◌, arith}
use Rattle.std.proofs.lemmas.Bool.Decides.{nat_tests}
use Rattle.std.proofs.lemmas.Bool.{eqb-true}
use Rattle.std.proofs.Math.Bool.{and-false, and-true}
use Rattle.feed_values.specs.Schema.{Value}
use Rattle.feed_values.specs.Messages.{entity}
use Rattle.rule_table.specs.declared.key.EntityKey.{EntityKey}
use Rattle.rule_table.specs.Order.{same_key}
use Rattle.rule_table.proofs.SameKeys.{key_is}
use Rattle.history_rules.specs.Stamps.{Stamp, stamp_of, same_stamp}
use Rattle.row_changes.specs.declared.stamps.Times.{Times}
use Rattle.row_changes.specs.Given.{gives_time, is_time, is_given_under}
use Rattle.row_changes.specs.Times.{is_at, are_given, is_stamp}
use Rattle.row_changes.specs.Updated.{exchanged}

pub eq-turned : (a b : ℕ) → (a == b) ≡ (b == a)
eq-turned a b = grind (arith, nat_tests)

-- a timestamp of 64 bits, as a value and as it is held
pub at-time : (n : ℕ) (o : Option ℕ) → is_at n o ≡ is_time n (option_map pos o)
at-time n None = refl
at-time n (Some m) = refl

module _ (key : EntityKey) (s : Stamp) where
  abbrev is_here : Bool
  is_here = same_key key s.key && s.at.feed == s.key.feed

  -- a stamp of a key is of its feed and has the timestamp
  stamp-parts : (t : Option ℕ) → is_stamp key t s ≡ (is_here && is_at s.at.stamp t)
  stamp-parts None = sym (and-false is_here)
  stamp-parts (Some n) = each (same_key key s.key) refl
    where
      swap : (a b : Bool) → (a && b && true) ≡ (a && b)
      swap true true = refl
      swap true false = refl
      swap false b = refl

      each : (b : Bool) → same_key key s.key ≡ b → (key.feed == s.at.feed && n == s.at.stamp && b) ≡ ((b && s.at.feed == s.key.feed) && n == s.at.stamp)
      each true e = swap (key.feed == s.at.feed) (n == s.at.stamp) ∙ ap (λ x. x && n == s.at.stamp) (eq-turned key.feed s.at.feed ∙ ap (λ k. s.at.feed == k.feed) (key_is key s.key e))
      each false e = and-false (key.feed == s.at.feed && n == s.at.stamp)

  -- a timestamp that stays isn't taken out, and one that was there isn't put in
  pub kept-stays : (t : ℕ) (kept : Times) → are_given kept t ≡ true → (is_stamp key (Some t) s && not (are_given kept s.at.stamp)) ≡ false
  kept-stays t kept h = each (t == s.at.stamp) refl
    where
      none : (a b c : Bool) → ((a && false && b) && c) ≡ false
      none true b c = refl
      none false b c = refl

      each : (b : Bool) → (t == s.at.stamp) ≡ b → ((key.feed == s.at.feed && b && same_key key s.key) && not (are_given kept s.at.stamp)) ≡ false
      each true e = ap (λ n. (key.feed == s.at.feed && true && same_key key s.key) && not (are_given kept n)) (sym (eqb-true t s.at.stamp e)) ∙ ap (λ b. (key.feed == s.at.feed && true && same_key key s.key) && not b) h ∙ and-false _
      each false e = none (key.feed == s.at.feed) (same_key key s.key) (not (are_given kept s.at.stamp))

  pub other-moves : (t : ℕ) (kept : Times) → are_given kept t ≡ false → (is_stamp key (Some t) s && not (are_given kept s.at.stamp)) ≡ same_stamp (stamp_of key.feed t key) s
  other-moves t kept h = each (t == s.at.stamp) refl
    where
      none : (a b c : Bool) → ((a && false && b) && c) ≡ (a && false && b)
      none true b c = refl
      none false b c = refl

      each : (b : Bool) → (t == s.at.stamp) ≡ b → ((key.feed == s.at.feed && b && same_key key s.key) && not (are_given kept s.at.stamp)) ≡ (key.feed == s.at.feed && b && same_key key s.key)
      each true e = ap (λ n. (key.feed == s.at.feed && true && same_key key s.key) && not (are_given kept n)) (sym (eqb-true t s.at.stamp e)) ∙ ap (λ b. (key.feed == s.at.feed && true && same_key key s.key) && not b) h ∙ and-true _
      each false e = none (key.feed == s.at.feed) (same_key key s.key) (not (are_given kept s.at.stamp))

  -- ---- two taken out and two put in
  moved : (k f h a b c d : Bool) → ((k && f && d && not (a || b)) || ((k && f && c && not (a || b)) || (not (k && f && b && not (c || d)) && (not (k && f && a && not (c || d)) && h)))) ≡ exchanged (k && (f && (a || b))) (k && (f && (c || d))) h
  moved false f true a b c d = refl
  moved false f false a b c d = refl
  moved true false true a b c d = refl
  moved true false false a b c d = refl
  moved true true true true true true true = refl
  moved true true true true true true false = refl
  moved true true true true true false true = refl
  moved true true true true true false false = refl
  moved true true true true false true true = refl
  moved true true true true false true false = refl
  moved true true true true false false true = refl
  moved true true true true false false false = refl
  moved true true true false true true true = refl
  moved true true true false true true false = refl
  moved true true true false true false true = refl
  moved true true true false true false false = refl
  moved true true true false false true true = refl
  moved true true true false false true false = refl
  moved true true true false false false true = refl
  moved true true true false false false false = refl
  moved true true false true true true true = refl
  moved true true false true true true false = refl
  moved true true false true true false true = refl
  moved true true false true true false false = refl
  moved true true false true false true true = refl
  moved true true false true false true false = refl
  moved true true false true false false true = refl
  moved true true false true false false false = refl
  moved true true false false true true true = refl
  moved true true false false true true false = refl
  moved true true false false true false true = refl
  moved true true false false true false false = refl
  moved true true false false false true true = refl
  moved true true false false false true false = refl
  moved true true false false false false true = refl
  moved true true false false false false false = refl

  taken : (t : Option ℕ) (w h m : Bool) → m ≡ (not (is_stamp key t s && w) && h) → m ≡ (not (is_here && is_at s.at.stamp t && w) && h)
  taken t w h m e = e ∙ ap (λ b. not (b && w) && h) (stamp-parts t)

  put : (t : Option ℕ) (w h m : Bool) → m ≡ ((is_stamp key t s && w) || h) → m ≡ ((is_here && is_at s.at.stamp t && w) || h)
  put t w h m e = e ∙ ap (λ b. (b && w) || h) (stamp-parts t)

  pub stamps-moved : (was now : Times) (o n : Option (Value entity)) (h one two three four : Bool) → ((t : ℕ) → are_given was t ≡ gives_time o t) → ((t : ℕ) → are_given now t ≡ gives_time n t) →
      one ≡ (not (is_stamp key was.update s && not (are_given now s.at.stamp)) && h) → two ≡ (not (is_stamp key was.vehicle s && not (are_given now s.at.stamp)) && one) →
      three ≡ ((is_stamp key now.update s && not (are_given was s.at.stamp)) || two) → four ≡ ((is_stamp key now.vehicle s && not (are_given was s.at.stamp)) || three) → four ≡ exchanged (is_given_under key o s) (is_given_under key n s) h
  stamps-moved was now o n h one two three four tw tn e f g i =
      let t = s.at.stamp in
      let gone = not (are_given was t) in
      let left = not (are_given now t) in
      let k = same_key key s.key in
      let of = s.at.feed == s.key.feed in
      put now.vehicle gone three four i
      ∙ ap (λ x. (is_here && is_at t now.vehicle && gone) || x) (put now.update gone two three g
      ∙ ap (λ x. (is_here && is_at t now.update && gone) || x) (taken was.vehicle left one two f ∙ ap (λ x. not (is_here && is_at t was.vehicle && left) && x) (taken was.update left h one e)))
      ∙ moved k of h (is_at t was.update) (is_at t was.vehicle) (is_at t now.update) (is_at t now.vehicle)
      ∙ ap (λ b. exchanged (k && (of && b)) (k && (of && are_given now t)) h) (tw t) ∙ ap (λ b. exchanged (is_given_under key o s) (k && (of && b)) h) (tn t)
