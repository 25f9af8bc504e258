-- The text of a read fault, written in pieces.
use Rattle.std.proofs.Common.{◌≡◌, ℕ, List, ◌∷◌, ◌++◌, codes, ap, sym, subst, ◌∙◌, append_assoc, Result, Ok, Err, OnOk, OnErr}
use Rattle.std.specs.declared.option.Option.{Option}
use Rattle.std.specs.Io.KnownBytes.{append_known}
use Rattle.rt_outside.specs.Sink.{AppendsPrefix}
use Rattle.rt_outside.proofs.Appends.{append_known-both}
use Rattle.run_base.specs.Faults.{read_fault_text}

-- the pieces up to the slash, and those behind it
pub in_folder : (folder file : List ℕ) → (codes "read fault: " ++ folder ++ codes "/") ++ (file ++ codes "\n") ≡ read_fault_text (folder ++ 47 ∷ file)
in_folder folder file =
    append_assoc (codes "read fault: " ++ folder) (codes "/") (file ++ codes "\n") ∙ append_assoc (codes "read fault: ") folder (codes "/" ++ (file ++ codes "\n"))
    ∙ ap (λ rest. codes "read fault: " ++ rest) (sym (append_assoc folder (47 ∷ file) (codes "\n")))
    ∙ sym (append_assoc (codes "read fault: ") (folder ++ 47 ∷ file) (codes "\n"))

-- a prefix of an equal text was appended
pub on_err : {T E : Type 0} (r : Result T E) (old new : Option (List ℕ)) (a b : List ℕ) → a ≡ b → AppendsPrefix old new a → OnErr r (AppendsPrefix old new b)
on_err (Ok x) old new a b same p = tt
on_err (Err e) old new a b same p = subst (AppendsPrefix old new) same p

pub on_err_same : {T E : Type 0} (r : Result T E) (old new : Option (List ℕ)) (a b : List ℕ) → a ≡ b → OnErr r (AppendsPrefix old new a) → OnErr r (AppendsPrefix old new b)
on_err_same r old new a b same p = subst (λ text. OnErr r (AppendsPrefix old new text)) same p

-- both pieces of an equal text were appended
pub on_ok : {T E : Type 0} (r : Result T E) (old mid new : Option (List ℕ)) (a b c : List ℕ) → a ++ b ≡ c → mid ≡ append_known old a →
    OnOk r (new ≡ append_known mid b) → OnOk r (new ≡ append_known old c)
on_ok (Ok x) old mid new a b c same first second = append_known-both old mid new a b first second ∙ ap (append_known old) same
on_ok (Err e) old mid new a b c same first second = tt
