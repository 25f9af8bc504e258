-- The text of a form is the join of its pieces, and an array's that of its items.
use Rattle.std.proofs.Common.{◌≡◌, ◌<◌, ◌+◌, ℕ, List, [], ◌∷◌, ◌++◌, map, length, drop, get_or, suc, codes, refl, sym, ap, subst, ◌∙◌, append_assoc, add-one, Result, Ok, Err, OnOk}
use Rattle.std.proofs.Math.Seq.{drop-cons, drop-length}
use Rattle.std.specs.Prelude.{Bool, true, false}
use Rattle.json.specs.Print.{escape_byte}
use Rattle.serde_json.specs.Data.{Data}
use Rattle.serde_json.specs.View.{items_of}
use Rattle.serde_json.specs.Written.{compact_text, items_text}
use Rattle.rt_wire.specs.Fields.{WireField}
use Rattle.feed_values.specs.Schema.{Value}
use Rattle.feed_values.specs.Messages.{feed_message, feed_header, entity}
use Rattle.feed_json.specs.Form.{form, unknown_form}
use Rattle.feed_json.specs.Pieces.{array_from, entity_piece, header_piece, unknown_piece, end_piece, pieces}

-- ---- a snapshot, whose arrays are written whole

abbrev entities_text : List (Value entity) → List ℕ
entities_text [] = []
entities_text (e ∷ es) = codes "\"entity\":[" ++ (items_text false (items_of (map (form entity) (e ∷ es))) ++ codes ",")

abbrev unknown_text : List WireField → List ℕ
unknown_text [] = []
unknown_text (f ∷ fs) = codes ",\"unknown\":[" ++ items_text false (items_of (map unknown_form (f ∷ fs)))

abbrev whole_text : Value feed_header → List (Value entity) → List WireField → List ℕ
whole_text header es fs =
    codes "{" ++ (entities_text es ++ (codes "\"header\":" ++ (compact_text (form feed_header header) ++ (unknown_text fs ++ codes "}"))))

by_arrays : (header : Value feed_header) (es : List (Value entity)) (fs : List WireField)
    → compact_text (form feed_message (header, (es, fs))) ≡ whole_text header es fs
unfolding escape_byte
by_arrays header [] [] = refl
by_arrays header [] (f ∷ fs) = refl
by_arrays header (e ∷ es) [] =
    ap (λ t. codes "{\"entity\":[" ++ t)
    (sym (append_assoc (items_text false (items_of (map (form entity) (e ∷ es)))) (codes ",") (codes "\"header\":" ++ (compact_text (form feed_header header) ++ codes "}"))))
by_arrays header (e ∷ es) (f ∷ fs) =
    ap (λ t. codes "{\"entity\":[" ++ t)
    (sym (append_assoc (items_text false (items_of (map (form entity) (e ∷ es)))) (codes ",")
    (codes "\"header\":" ++ (compact_text (form feed_header header) ++ (unknown_text (f ∷ fs) ++ codes "}")))))

-- ---- the same, item by item

-- the items behind the first one
behind : {A : Type 0} (write : A → Data) (item : Bool → A → List ℕ) (end : Bool → List ℕ) (rest : List ℕ)
    → ((x : A) → item true x ≡ codes "," ++ compact_text (write x)) → end true ≡ codes "]" ++ rest → (xs : List A)
    → items_text true (items_of (map write xs)) ++ rest ≡ array_from item end true xs
behind write item end rest items closes [] = sym closes
behind write item end rest items closes (x ∷ xs) =
    let t = compact_text (write x) in
    let u = items_text true (items_of (map write xs)) in
    append_assoc (codes ",") (t ++ u) rest ∙ ap (λ s. codes "," ++ s) (append_assoc t u rest) ∙ sym (append_assoc (codes ",") t (u ++ rest))
    ∙ ap (λ s. (codes "," ++ t) ++ s) (behind write item end rest items closes xs)
    ∙ ap (λ s. s ++ array_from item end true xs) (sym (items x))

left_one : (o f u c k : List ℕ) → (o ++ ((f ++ u) ++ c)) ++ k ≡ o ++ (f ++ (u ++ (c ++ k)))
left_one o f u c k = append_assoc o ((f ++ u) ++ c) k ∙ ap (λ t. o ++ t) (append_assoc (f ++ u) c k ∙ append_assoc f u (c ++ k))

right_one : (o f u r k : List ℕ) → ((o ++ f) ++ (u ++ r)) ++ k ≡ o ++ (f ++ (u ++ (r ++ k)))
right_one o f u r k = append_assoc (o ++ f) (u ++ r) k ∙ append_assoc o f ((u ++ r) ++ k) ∙ ap (λ t. o ++ (f ++ t)) (append_assoc u r k)

entities_are : (header : Value feed_header) (rest : List ℕ) (es : List (Value entity))
    → entities_text es ++ (codes "\"header\":" ++ (compact_text (form feed_header header) ++ rest)) ≡ array_from entity_piece (header_piece header) false es ++ rest
entities_are header rest [] = refl
entities_are header rest (e ∷ es) =
    let h = codes "\"header\":" ++ compact_text (form feed_header header) in
    let o = codes "\"entity\":[" in
    let f = compact_text (form entity e) in
    let u = items_text true (items_of (map (form entity) es)) in
    left_one o f u (codes ",") (codes "\"header\":" ++ (compact_text (form feed_header header) ++ rest))
    ∙ sym (right_one o f u (codes "," ++ h) rest)
    ∙ ap (λ t. ((o ++ f) ++ t) ++ rest) (behind (form entity) entity_piece (header_piece header) (codes "," ++ h) (λ x. refl) refl es)

unknown_are : (fs : List WireField) → unknown_text fs ++ codes "}" ≡ array_from unknown_piece end_piece false fs
unknown_are [] = refl
unknown_are (f ∷ fs) =
    let o = codes ",\"unknown\":[" in
    let t = compact_text (unknown_form f) in
    let u = items_text true (items_of (map unknown_form fs)) in
    append_assoc o (t ++ u) (codes "}") ∙ ap (λ s. o ++ s) (append_assoc t u (codes "}")) ∙ sym (append_assoc o t (u ++ codes "}"))
    ∙ ap (λ s. (o ++ t) ++ s) (behind unknown_form unknown_piece end_piece (codes "}") (λ x. refl) refl fs)

-- The text of a form is its pieces.
pub form_pieces : (v : Value feed_message) → compact_text (form feed_message v) ≡ pieces v
form_pieces v =
    by_arrays v.0 v.1.0 v.1.1
    ∙ ap (λ t. codes "{" ++ t) (entities_are v.0 (unknown_text v.1.1 ++ codes "}") v.1.0
    ∙ ap (λ t. array_from entity_piece (header_piece v.0) false v.1.0 ++ t) (unknown_are v.1.1))

-- ---- pieces that are appended one by one

-- what stands before a piece, and the piece
pub pushed_on : {T E : Type 0} (r : Result T E) (old mid new before text piece : List ℕ) → mid ≡ old ++ before → text ≡ piece
    → OnOk r (new ≡ mid ++ text) → OnOk r (new ≡ old ++ (before ++ piece))
pushed_on (Ok x) old mid new before text piece first is next =
    next ∙ ap (λ t. t ++ text) first ∙ append_assoc old before text ∙ ap (λ t. old ++ (before ++ t)) is
pushed_on (Err e) old mid new before text piece first is next = tt

-- the items from number i on stand in the text that is left
abbrev pub LeftFrom : {X A : Type 0} → (X → A) → (Bool → A → List ℕ) → (Bool → List ℕ) → List ℕ → List ℕ → List X → ℕ → Bool → Type 0
LeftFrom value item end before text xs i later =
    text ++ array_from item end later (map value (drop i xs)) ≡ before ++ array_from item end false (map value xs)

more : {X A : Type 0} (value : X → A) (item : Bool → A → List ℕ) (end : Bool → List ℕ) (before old new : List ℕ) (xs : List X) (i : ℕ) (x : X) (later : Bool)
    → i < length xs → x ≡ get_or xs i x → LeftFrom value item end before old xs i later
    → new ≡ old ++ item later (value x) → LeftFrom value item end before new xs (suc i) true
more value item end before old new xs i x later in_range is left added =
    let rest : List ℕ = array_from item end true (map value (drop (suc i) xs)) in
    ap (λ t. t ++ rest) added
    ∙ append_assoc old (item later (value x)) rest
    ∙ ap (λ y. old ++ (item later (value y) ++ rest)) is
    ∙ sym (ap (λ ys. old ++ array_from item end later (map value ys)) (drop-cons xs i x in_range))
    ∙ left

-- one item more
pub next_item : {X A : Type 0} (value : X → A) (item : Bool → A → List ℕ) (end : Bool → List ℕ) (before old new : List ℕ) (xs : List X) (i : ℕ) (x : X) (later : Bool)
    → i < length xs → x ≡ get_or xs i x → LeftFrom value item end before old xs i later
    → new ≡ old ++ item later (value x) → LeftFrom value item end before new xs (i + 1) true
next_item value item end before old new xs i x later in_range is left added =
    subst (λ j. LeftFrom value item end before new xs j true) (sym (add-one i)) (more value item end before old new xs i x later in_range is left added)

-- no item is left
pub last_item : {X A : Type 0} (value : X → A) (item : Bool → A → List ℕ) (end : Bool → List ℕ) (before text new : List ℕ) (xs : List X) (later : Bool)
    → LeftFrom value item end before text xs (length xs) later → new ≡ text ++ end later → new ≡ before ++ array_from item end false (map value xs)
last_item value item end before text new xs later left ended =
    ended ∙ sym (ap (λ ys. text ++ array_from item end later (map value ys)) (drop-length xs)) ∙ left

-- the whole text
pub all_pieces : (v : Value feed_message) (a b c : List ℕ) → a ≡ codes "{" → b ≡ a ++ array_from entity_piece (header_piece v.0) false v.1.0
    → c ≡ b ++ array_from unknown_piece end_piece false v.1.1 → c ≡ compact_text (form feed_message v)
all_pieces v a b c first entities unknown =
    unknown ∙ ap (λ t. t ++ array_from unknown_piece end_piece false v.1.1) (entities ∙ ap (λ t. t ++ array_from entity_piece (header_piece v.0) false v.1.0) first)
    ∙ append_assoc (codes "{") (array_from entity_piece (header_piece v.0) false v.1.0) (array_from unknown_piece end_piece false v.1.1)
    ∙ sym (form_pieces v)
