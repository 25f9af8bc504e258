-- Entries by text, and the finite map that they make.
use Rattle.std.proofs.Common.{◌≡◌, ℕ, length, List, [], ◌∷◌, ◌++◌, Option, Some, None, String, Global, string_bytes, string_eq, cond, Bool, true, false, is_some, option_map, refl, sym, ap, subst, ◌∙◌, append_assoc}
use Rattle.std.proofs.lemmas.Cmp.{nat_list_cmp_total}
use Rattle.std.proofs.lemmas.Map.Text.{hash_map_updates_text, is_eq-slice_cmp}
use Rattle.std.specs.FinMap.{IsAntisymmetric, empty, get, get-empty, insert, nat_cmp-IsAntisymmetric, slice_cmp-IsAntisymmetric}
use Rattle.std.proofs.lemmas.Map.Keys.{IsDistinct-head, IsDistinct-tail}
use Rattle.std.specs.List.{AllByRecursion, IsDistinct}
use Rattle.std.specs.Map.{keys_of, lookup}
use Rattle.std.specs.String.{string_eq_equiv}
use Rattle.indexmap.proofs.CallerLemmas.{insert_entry-new}
use Rattle.std.specs.Str.{bytes_eq}
use Rattle.indexmap.specs.IndexMap.{IndexMap, UpdatesBy, insert_entry}
use Rattle.schedule_tables.specs.Maps.{ByText, Text, table_of, text_cmp}
use Rattle.schedule_tables.proofs.KeyedLemmas.{IsKeyed, from_entries-keyed, lookup-keyed}

abbrev pub has_text : Text → String Global → Bool
has_text q k = bytes_eq q (string_bytes k)

pub text_cmp-IsAntisymmetric : IsAntisymmetric text_cmp
text_cmp-IsAntisymmetric = slice_cmp-IsAntisymmetric nat_cmp-IsAntisymmetric

by_text : IsKeyed text_cmp (λ k. string_bytes k) has_text
by_text = record { total = nat_list_cmp_total; same = text_cmp-IsAntisymmetric; tests = λ q k. is_eq-slice_cmp q (string_bytes k) }

-- the map has at a text what a scan of the entries finds
pub get_text : {V : Type 0} (es : List (String Global × V)) (q : Text) → lookup (has_text q) es ≡ get (table_of es) q
get_text es q = lookup-keyed text_cmp (λ k. string_bytes k) has_text by_text es q

-- a write at a text is an insert
pub update_text : {V S : Type 0} (m n : IndexMap (String Global) V S) (bs : Text) (w : V) → UpdatesBy string_eq (has_text bs) m n (Some w) → table_of n.entries ≡ insert (table_of m.entries) bs w
update_text m n bs w h = from_entries-keyed text_cmp (λ k. string_bytes k) has_text by_text m.entries n.entries bs w (λ q.
    hash_map_updates_text bs m n (Some w) h q ∙ ap (λ b. cond b (Some w) (lookup (has_text q) m.entries)) (sym (is_eq-slice_cmp bs q)))

-- whether a text is there, by a scan of the entries
pub is_some-get : {V : Type 0} (es : List (String Global × V)) (q : Text) (m : ByText V) (there : Bool) → table_of es ≡ m → there ≡ is_some (lookup (has_text q) es) → is_some (get m q) ≡ there
is_some-get es q m there view scanned = sym (scanned ∙ ap is_some (get_text es q ∙ ap (λ t. get t q) view))

pub none_of : {X : Type 0} (o : Option X) → is_some o ≡ false → o ≡ None
none_of None h = refl
none_of (Some x) h = cc h

-- a group that has grown is put back under its id
pub put_back : {V : Type 0} (m : ByText V) (q : Text) (v : V) (more : Option V) (now : ByText V) (new : Bool) → more ≡ cond new (Some v) None → insert m q v ≡ now
    → option_map (insert m q) more ≡ cond new (Some now) None
put_back m q v more now true grown same = rw grown (ap Some same)
put_back m q v more now false grown same = rw grown refl

at_middle : {V : Type 0} (P : String Global → Type 0) (xs rest : List (String Global × V)) (e : String Global × V) → AllByRecursion P (keys_of (xs ++ e ∷ rest)) → P e.0
at_middle P [] rest e all = all.0
at_middle P (x ∷ xs) rest e all = at_middle P xs rest e all.1

-- of distinct keys none stands before itself
absent_before : {V : Type 0} (xs rest : List (String Global × V)) (e : String Global × V) → IsDistinct string_eq (keys_of (xs ++ e ∷ rest)) → lookup (string_eq e.0) xs ≡ None
absent_before [] rest e distinct = refl
absent_before (x ∷ xs) rest e distinct =
    let others = IsDistinct-head string_eq x.0 (keys_of (xs ++ e ∷ rest)) distinct in
    let apart : string_eq x.0 e.0 ≡ false = at_middle (λ k. string_eq x.0 k ≡ false) xs rest e others in
    let laws = string_eq_equiv in
    rw (laws.symm e.0 x.0 ∙ apart) (absent_before xs rest e (IsDistinct-tail string_eq x.0 (keys_of (xs ++ e ∷ rest)) distinct))

-- the entries of a map go over to another one by one
pub moved_over : {V S : Type 0} (m n : IndexMap (String Global) V S) (all rest : List (String Global × V)) (k : String Global) (v : V) → IsDistinct string_eq (keys_of all)
    → m.entries ++ (k, v) ∷ rest ≡ all → n.entries ≡ insert_entry string_eq m.entries k v → n.entries ++ rest ≡ all
moved_over m n all rest k v distinct split is =
    let none = absent_before m.entries rest (k, v) (subst (λ es. IsDistinct string_eq (keys_of es)) (sym split) distinct) in
    ap (λ es. es ++ rest) (is ∙ insert_entry-new string_eq m k v none) ∙ append_assoc m.entries ((k, v) ∷ []) rest ∙ split

-- a map with an entry isn't empty
pub entry_there : {V : Type 0} (e : String Global × V) (es : List (String Global × V)) → table_of (e ∷ es) ≡ empty → ⊥
entry_there e es h =
    let q = string_bytes e.0 in
    let found : get (table_of (e ∷ es)) q ≡ Some e.1 = sym (get_text (e ∷ es) q) ∙ ap (λ b. cond b (Some e.1) (lookup (has_text q) es)) (string_eq_equiv.refl e.0) in
    let none : get (table_of (e ∷ es)) q ≡ None = ap (λ m. get m q) h ∙ get-empty text_cmp q in
    let clash : Some e.1 ≡ None = sym found ∙ none in cc

-- a map without entries only is empty
pub entries_there : {V : Type 0} (es : List (String Global × V)) → (length es ≡ 0 → ⊥) → table_of es ≡ empty → ⊥
entries_there [] some h = some refl
entries_there (e ∷ es) some h = entry_there e es h
