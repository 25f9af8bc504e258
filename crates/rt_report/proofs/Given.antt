-- Tokens that are given one after the other, and the text that they print.
use Rattle.std.proofs.Common.{◌≡◌, ◌++◌, ℕ, List, [], ◌∷◌, map, refl, ap, ◌∙◌, append_assoc, Result, Ok, Err, OnOk}
use Rattle.json.specs.Print.{print}
use Rattle.json.specs.Token.{Token}
use Rattle.json.specs.Token as token
use Rattle.json.specs.Tree.{items_tokens}
use Rattle.json.specs.Written.{Written, Writes}
use Rattle.serde_json.specs.Data.{Data, string}
use Rattle.serde_json.specs.View.{items_of}
use Rattle.serde_json.specs.Written.{compact_text, items_outline}
use Rattle.serde_json.proofs.Texts.{print-outline}
use Rattle.rule_table.specs.declared.fact.Fact.{Fact}
use Rattle.rt_report.specs.Findings.{fact_data}
use Rattle.rt_report.specs.Tokens.{Adds, fact_tokens, tokens_of}

-- some, and then others
pub then : {a b c : Written} {xs ys : List Token} → Adds a b xs → Adds b c ys → Adds a c (xs ++ ys)
then {a = a} {xs = xs} {ys = ys} h k = record {
  before_is = k.before_is ∙ h.before_is;
  tokens_are = k.tokens_are ∙ ap (λ ts. ts ++ ys) h.tokens_are ∙ append_assoc a.tokens xs ys;
}

-- one that was given
pub one : {E : Type 0} {a b : Written} {t : Token} → Writes {E = E} (Ok tt) a b t → Adds a b (t ∷ [])
one w = record { before_is = w.room.0; tokens_are = w.ok }

-- and one at the end
pub last : {E A : Type 0} (r : Result (Unit {0}) E) (a b : Written) (t : Token) → Writes r a b t → (Adds a b (t ∷ []) → A) → OnOk r A
last (Ok x) a b t w f = f (record { before_is = w.room.0; tokens_are = w.ok })
last (Err e) a b t w f = tt

-- or some at the end
pub ending : {E A B : Type 0} (r : Result (Unit {0}) E) → OnOk r A → (A → B) → OnOk r B
ending (Ok x) a f = f a
ending (Err e) a f = tt

-- a value's tokens, in a writer that began with nothing, are its text
pub text_is : (d : Data) (first second : Written) (bytes : List ℕ) → first.before ≡ [] → first.tokens ≡ [] → Adds first second (tokens_of d) → bytes ≡ second.before ++ print second.tokens → bytes ≡ compact_text d
text_is d first second bytes before tokens adds text =
    text ∙ ap (λ b. b ++ print second.tokens) (adds.before_is ∙ before) ∙ ap print (adds.tokens_are ∙ ap (λ ts. ts ++ tokens_of d) tokens) ∙ print-outline d

-- ---- items
-- the keys of an ask
pub key_items : (texts : List (List ℕ)) → map token.string texts ++ token.end_array ∷ [] ≡ items_tokens (items_outline (items_of (map string texts)))
key_items [] = refl
key_items (t ∷ ts) = ap (λ rest. token.string t ∷ rest) (key_items ts)

-- facts
pub fact_items : (facts : List Fact) → fact_tokens facts ++ token.end_array ∷ [] ≡ items_tokens (items_outline (items_of (map fact_data facts)))
fact_items [] = refl
fact_items (f ∷ fs) = append_assoc (tokens_of (fact_data f)) (fact_tokens fs) (token.end_array ∷ []) ∙ ap (λ rest. tokens_of (fact_data f) ++ rest) (fact_items fs)
