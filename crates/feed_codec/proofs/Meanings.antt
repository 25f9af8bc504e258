-- A message that takes its fields one by one comes to what they mean together.
use Rattle.std.proofs.Common.{◌≡◌, ℕ, ◌≤◌, pos, Bool, true, false, not, cond, eqb, ◌||◌, List, [], ◌∷◌, ◌++◌, map, Option, Some, None, refl, sym, ap, ◌∙◌, append_assoc, arith, inl, inr, ◌⊎◌}
use Rattle.std.specs.Option.{option_map, is_some, unwrap_or}
use Rattle.std.specs.List.{filter, flat_map}
use Rattle.std.proofs.lemmas.Bool.{ne_eqb, eqb-true, cases_lt}
use Rattle.std.proofs.lemmas.List.{append-nil, map_push}
use Rattle.std.proofs.lemmas.List.Elements.{filter-append}
use Rattle.std.proofs.lemmas.List.Concat.{flat_map-append}
use Rattle.rt_wire.specs.Fields.{WireField}
use Rattle.rt_wire.specs.Fields as wire
use Rattle.feed_values.specs.Schema as schema
use Rattle.feed_values.specs.Schema.{Schema, Presence, Needed, Optional, Value, Held, held, present, blank, Rises}
use Rattle.feed_values.specs.Meaning.{fields, scalar_in, payload_in, in_slot, option_case, given, last_of, is_of_slot, joined, slots_of, meaning}
use Rattle.feed_codec.specs.Merging.{merged_scalar, merged_text, merged_message, merged_repeated, kept, taken_in, merged, with_fields}

-- ---- lists

given_step : {A : Type 0} (o : Option A) (p q : List A) → option_case o (p ++ q) (λ y. y ∷ (p ++ q)) ≡ option_case o p (λ y. y ∷ p) ++ q
given_step None p q = refl
given_step (Some x) p q = refl

pub given-append : {A : Type 0} (give : WireField → Option A) (l m : List WireField) → given give (l ++ m) ≡ given give l ++ given give m
given-append give [] m = refl
given-append give (r ∷ l) m = rw (given-append give l m) (given_step (give r) (given give l) (given give m))

pub given-none : {A : Type 0} (give : WireField → Option A) (l : List WireField) (r : WireField) → give r ≡ None → given give (l ++ r ∷ []) ≡ given give l
given-none give l r e = given-append give l (r ∷ []) ∙ rw (e, append-nil) refl

pub given-some : {A : Type 0} (give : WireField → Option A) (l : List WireField) (r : WireField) (x : A) → give r ≡ Some x → given give (l ++ r ∷ []) ≡ given give l ++ x ∷ []
given-some give l r x e = given-append give l (r ∷ []) ∙ rw e refl

pub last_of-push : {A : Type 0} (xs : List A) (x : A) → last_of (xs ++ x ∷ []) ≡ Some x
last_of-push [] x = refl
last_of-push (y ∷ xs) x = rw (last_of-push xs x) refl

filter_push : (p : WireField → Bool) (l : List WireField) (r : WireField) → filter p (l ++ r ∷ []) ≡ filter p l ++ cond (p r) (r ∷ []) []
filter_push p l r = filter-append p l (r ∷ [])

-- ---- a field that a slot does not take

pub not_first : (a b : Bool) → (a || b) ≡ false → (a ≡ false) × (b ≡ false)
not_first true b e = absurd cc
not_first false b e = (refl, e)

pub none_given : {A : Type 0} (o : Option A) → is_some o ≡ false → o ≡ None
none_given None e = refl
none_given (Some x) e = absurd cc

pub true_false : true ≡ false → ⊥
true_false e = cc

pub unaffected : (k s : Schema) (l : List WireField) (r : WireField) → is_of_slot s r ≡ false → is_of_slot k r ≡ true → slots_of k s (l ++ r ∷ []) ≡ slots_of k s l
unaffected k schema.end l r e h = filter_push (λ r. not (is_of_slot k r)) l r ∙ rw (h, append-nil) refl
unaffected k (schema.scalar n name presence t rest) l r e h =
    let p = not_first (is_some (in_slot (scalar_in t) n r)) (is_of_slot rest r) e in
    rw (given-none (in_slot (scalar_in t) n) l r (none_given _ p.0), unaffected k rest l r p.1 h) refl
unaffected k (schema.text n name presence rest) l r e h =
    let p = not_first (is_some (in_slot payload_in n r)) (is_of_slot rest r) e in
    rw (given-none (in_slot payload_in n) l r (none_given _ p.0), unaffected k rest l r p.1 h) refl
unaffected k (schema.message n name presence m rest) l r e h =
    let p = not_first (is_some (in_slot payload_in n r)) (is_of_slot rest r) e in
    rw (given-none (in_slot payload_in n) l r (none_given _ p.0), unaffected k rest l r p.1 h) refl
unaffected k (schema.repeated n name m rest) l r e h =
    let p = not_first (is_some (in_slot payload_in n r)) (is_of_slot rest r) e in
    rw (given-none (in_slot payload_in n) l r (none_given _ p.0), unaffected k rest l r p.1 h) refl

pub is_kept : (k s : Schema) (l : List WireField) (r : WireField) → is_of_slot s r ≡ false → is_of_slot k r ≡ false → slots_of k s (l ++ r ∷ []) ≡ kept s r (slots_of k s l)
is_kept k schema.end l r e h = filter_push (λ r. not (is_of_slot k r)) l r ∙ rw h refl
is_kept k (schema.scalar n name presence t rest) l r e h =
    let p = not_first (is_some (in_slot (scalar_in t) n r)) (is_of_slot rest r) e in
    rw (given-none (in_slot (scalar_in t) n) l r (none_given _ p.0), is_kept k rest l r p.1 h) refl
is_kept k (schema.text n name presence rest) l r e h =
    let p = not_first (is_some (in_slot payload_in n r)) (is_of_slot rest r) e in
    rw (given-none (in_slot payload_in n) l r (none_given _ p.0), is_kept k rest l r p.1 h) refl
is_kept k (schema.message n name presence m rest) l r e h =
    let p = not_first (is_some (in_slot payload_in n r)) (is_of_slot rest r) e in
    rw (given-none (in_slot payload_in n) l r (none_given _ p.0), is_kept k rest l r p.1 h) refl
is_kept k (schema.repeated n name m rest) l r e h =
    let p = not_first (is_some (in_slot payload_in n r)) (is_of_slot rest r) e in
    rw (given-none (in_slot payload_in n) l r (none_given _ p.0), is_kept k rest l r p.1 h) refl

-- ---- a slot of a number

off : {A B C D : Type 0} (b : Bool) (o : Option A) (f : A → B) (h : B → C) (g : D → C) (q : Option D) → is_some (cond b o None) ≡ false → q ≡ None → cond b (option_map h (option_map f o)) (option_map g q) ≡ None
off true None f h g q e k = refl
off true (Some x) f h g q e k = absurd cc
off false o f h g q e k = rw k refl

abbrev step : (m : Schema) → WireField → Value m → Value m
step m q w = option_case (merged m q w) (kept m q w) (λ x. x)

abbrev more : (m : Schema) → List WireField → Value m → Value m
more m = taken_in (step m)

pub no_slot : (s : Schema) (r : WireField) (v : Value s) → is_of_slot s r ≡ false → merged s r v ≡ None
no_slot schema.end r v e = refl
no_slot (schema.scalar n name presence t rest) r v e =
    let p = not_first (is_some (in_slot (scalar_in t) n r)) (is_of_slot rest r) e in
    off (eqb r.number n) (scalar_in t r.value) (λ z. held presence (pos 0) (Some z)) (λ c. (c, v.1)) (λ w. (v.0, w)) (merged rest r v.1) p.0 (no_slot rest r v.1 p.1)
no_slot (schema.text n name presence rest) r v e =
    let p = not_first (is_some (in_slot payload_in n r)) (is_of_slot rest r) e in
    off (eqb r.number n) (payload_in r.value) (λ x. held presence [] (Some x)) (λ c. (c, v.1)) (λ w. (v.0, w)) (merged rest r v.1) p.0 (no_slot rest r v.1 p.1)
no_slot (schema.message n name presence m rest) r v e =
    let p = not_first (is_some (in_slot payload_in n r)) (is_of_slot rest r) e in
    off (eqb r.number n) (payload_in r.value) (λ x. held presence (blank m) (Some (more m (fields x) (unwrap_or (present presence v.0) (blank m))))) (λ c. (c, v.1)) (λ w. (v.0, w)) (merged rest r v.1) p.0 (no_slot rest r v.1 p.1)
no_slot (schema.repeated n name m rest) r v e =
    let p = not_first (is_some (in_slot payload_in n r)) (is_of_slot rest r) e in
    off (eqb r.number n) (payload_in r.value) (λ x. v.0 ++ more m (fields x) (blank m) ∷ []) (λ c. (c, v.1)) (λ w. (v.0, w)) (merged rest r v.1) p.0 (no_slot rest r v.1 p.1)

-- ---- a field that a slot takes

-- no slot above its number takes it
pub apart : (s : Schema) (low : ℕ) (r : WireField) → Rises low s → r.number ≤ low → is_of_slot s r ≡ false
apart schema.end low r h le = refl
apart (schema.scalar n name presence t rest) low r h le = rw (ne_eqb r.number n (omega (arith, h.0))) (apart rest n r h.1 (omega (arith, h.0)))
apart (schema.text n name presence rest) low r h le = rw (ne_eqb r.number n (omega (arith, h.0))) (apart rest n r h.1 (omega (arith, h.0)))
apart (schema.message n name presence m rest) low r h le = rw (ne_eqb r.number n (omega (arith, h.0))) (apart rest n r h.2 (omega (arith, h.0)))
apart (schema.repeated n name m rest) low r h le = rw (ne_eqb r.number n (omega (arith, h.0))) (apart rest n r h.2 (omega (arith, h.0)))

meaning_none : (k s : Schema) → slots_of k s [] ≡ blank s
meaning_none k schema.end = refl
meaning_none k (schema.scalar n name presence t rest) = rw (meaning_none k rest) refl
meaning_none k (schema.text n name presence rest) = rw (meaning_none k rest) refl
meaning_none k (schema.message n name presence m rest) = rw (meaning_none k rest) refl
meaning_none k (schema.repeated n name m rest) = rw (meaning_none k rest) refl

-- The field is of the slot at hand: `give` gives x, and the slot then holds c.
taken_here : {A B C D : Type 0} (b : Bool) (o : Option A) (x : A) (f : A → B) (h : B → C) (g : D → C) (q : Option D) (c : B) (d : C) → b ≡ true → o ≡ Some x → f x ≡ c → h c ≡ d → cond b (option_map h (option_map f o)) (option_map g q) ≡ Some d
taken_here b o x f h g q c d e k l n = rw (e, k, l, n) refl

-- The field is of a later slot.
taken_later : {B C D : Type 0} (b : Bool) (o : Option B) (h : B → C) (g : D → C) (q : Option D) (w : D) (d : C) → b ≡ false → q ≡ Some w → g w ≡ d → cond b (option_map h o) (option_map g q) ≡ Some d
taken_later b o h g q w d e k l = rw (e, k, l) refl

which_in : {A : Type 0} (b : Bool) (o : Option A) (later : Bool) → (is_some (cond b o None) || later) ≡ true → ((x : A) × (b ≡ true) × (o ≡ Some x)) ⊎ ((cond b o None ≡ None) × (later ≡ true))
which_in true None later e = inr (refl, e)
which_in true (Some x) later e = inl (x, refl, refl)
which_in false o later e = inr (refl, e)

at_most : (a b : ℕ) → eqb a b ≡ true → a ≤ b
at_most a b e = omega (arith, eqb-true a b e)

beyond : (s : Schema) (n : ℕ) (r : WireField) → Rises n s → is_of_slot s r ≡ true → eqb r.number n ≡ false
beyond s n r h e = elim (cases_lt n r.number) [
  | inl lt ↦ ne_eqb r.number n (omega arith)
  | inr le ↦ absurd (true_false (sym e ∙ apart s n r h le))
]

-- ---- the law, where it is known of the slots

abbrev Takes : Schema → Type 0
Takes m = (l : List WireField) (r : WireField) → is_of_slot m r ≡ true → merged m r (slots_of m m l) ≡ Some (slots_of m m (l ++ r ∷ []))

one_more : (m : Schema) (t : Takes m) (l : List WireField) (r : WireField) (b : Bool) → is_of_slot m r ≡ b → step m r (slots_of m m l) ≡ slots_of m m (l ++ r ∷ [])
one_more m t l r true e = ap (λ o. option_case o (kept m r (slots_of m m l)) (λ x. x)) (t l r e)
one_more m t l r false e = ap (λ o. option_case o (kept m r (slots_of m m l)) (λ x. x)) (no_slot m r (slots_of m m l) e) ∙ sym (is_kept m m l r e e)

whole : (m : Schema) (t : Takes m) (l2 l1 : List WireField) → more m l2 (slots_of m m l1) ≡ slots_of m m (l1 ++ l2)
whole m t [] l1 = ap (λ (l : List WireField). slots_of m m l) (sym (append-nil l1))
whole m t (r ∷ l2) l1 =
    ap (λ v. more m l2 v) (one_more m t l1 r (is_of_slot m r) refl) ∙ whole m t l2 (l1 ++ r ∷ []) ∙ ap (λ (l : List WireField). slots_of m m l) (append_assoc l1 (r ∷ []) l2)

joined_is : (m : Schema) (ps : List (List ℕ)) (x : List ℕ) → joined (slots_of m m) (ps ++ x ∷ []) ≡ Some (slots_of m m (flat_map fields (ps ++ x ∷ [])))
joined_is m [] x = refl
joined_is m (p ∷ ps) x = refl

start : (m : Schema) (presence : Presence) (ps : List (List ℕ)) → unwrap_or (present presence (held presence (blank m) (joined (slots_of m m) ps))) (blank m) ≡ slots_of m m (flat_map fields ps)
start m (Needed which) [] = sym (meaning_none m m)
start m (Needed which) (p ∷ ps) = refl
start m Optional [] = sym (meaning_none m m)
start m Optional (p ∷ ps) = refl

joined_more : (m : Schema) (t : Takes m) (presence : Presence) (ps : List (List ℕ)) (x : List ℕ) → held presence (blank m) (Some (more m (fields x) (unwrap_or (present presence (held presence (blank m) (joined (slots_of m m) ps))) (blank m)))) ≡ held presence (blank m) (joined (slots_of m m) (ps ++ x ∷ []))
joined_more m t presence ps x =
    ap (λ v. held presence (blank m) (Some v)) (ap (λ v. more m (fields x) v) (start m presence ps) ∙ whole m t (fields x) (flat_map fields ps)
    ∙ ap (λ (l : List WireField). slots_of m m l) (sym (flat_map-append fields ps (x ∷ []) ∙ ap (λ (l : List WireField). flat_map fields ps ++ l) (append-nil (fields x)))))
    ∙ ap (λ o. held presence (blank m) o) (sym (joined_is m ps x))

pub at_here : {A : Type 0} (give : wire.WireValue → Option A) (n : ℕ) (r : WireField) (x : A) → eqb r.number n ≡ true → give r.value ≡ Some x → in_slot give n r ≡ Some x
at_here give n r x e g = rw (e, g) refl

-- what a slot is given with one more field of it, and with one more that is none of it
one_given : {A : Type 0} (give : wire.WireValue → Option A) (n : ℕ) (l : List WireField) (r : WireField) (x : A) → eqb r.number n ≡ true → give r.value ≡ Some x → given (in_slot give n) (l ++ r ∷ []) ≡ given (in_slot give n) l ++ x ∷ []
one_given give n l r x e g = given-some (in_slot give n) l r x (at_here give n r x e g)

pub takes : (k s : Schema) (low : ℕ) (l : List WireField) (r : WireField) → Rises low s → is_of_slot s r ≡ true → is_of_slot k r ≡ true → merged s r (slots_of k s l) ≡ Some (slots_of k s (l ++ r ∷ []))
takes k schema.end low l r h e hk = absurd (true_false (sym e))
takes k (schema.scalar n name presence t rest) low l r h e hk =
    let give = scalar_in t in
    let v = slots_of k (schema.scalar n name presence t rest) l in
    let w = slots_of k (schema.scalar n name presence t rest) (l ++ r ∷ []) in
    elim (which_in (eqb r.number n) (give r.value) (is_of_slot rest r) e) [
      | inl p ↦ taken_here (eqb r.number n) (give r.value) p.0 (λ z. held presence (pos 0) (Some z)) (λ c. (c, v.1)) (λ u. (v.0, u)) (merged rest r v.1) w.0 w p.1 p.2
          (ap (λ o. held presence (pos 0) o) (sym (ap last_of (one_given give n l r p.0 p.1 p.2) ∙ last_of-push (given (in_slot give n) l) p.0)))
          (ap (λ u. (w.0, u)) (sym (unaffected k rest l r (apart rest n r h.1 (at_most r.number n p.1)) hk)))
      | inr p ↦ taken_later (eqb r.number n) (merged_scalar presence t r.value) (λ c. (c, v.1)) (λ u. (v.0, u)) (merged rest r v.1) w.1 w (beyond rest n r h.1 p.1) (takes k rest n l r h.1 p.1 hk)
          (ap (λ g. (held presence (pos 0) (last_of g), w.1)) (sym (given-none (in_slot give n) l r p.0)))
    ]
takes k (schema.text n name presence rest) low l r h e hk =
    let v = slots_of k (schema.text n name presence rest) l in
    let w = slots_of k (schema.text n name presence rest) (l ++ r ∷ []) in
    elim (which_in (eqb r.number n) (payload_in r.value) (is_of_slot rest r) e) [
      | inl p ↦ taken_here (eqb r.number n) (payload_in r.value) p.0 (λ x. held presence [] (Some x)) (λ c. (c, v.1)) (λ u. (v.0, u)) (merged rest r v.1) w.0 w p.1 p.2
          (ap (λ o. held presence [] o) (sym (ap last_of (one_given payload_in n l r p.0 p.1 p.2) ∙ last_of-push (given (in_slot payload_in n) l) p.0)))
          (ap (λ u. (w.0, u)) (sym (unaffected k rest l r (apart rest n r h.1 (at_most r.number n p.1)) hk)))
      | inr p ↦ taken_later (eqb r.number n) (merged_text presence r.value) (λ c. (c, v.1)) (λ u. (v.0, u)) (merged rest r v.1) w.1 w (beyond rest n r h.1 p.1) (takes k rest n l r h.1 p.1 hk)
          (ap (λ g. (held presence [] (last_of g), w.1)) (sym (given-none (in_slot payload_in n) l r p.0)))
    ]
takes k (schema.message n name presence m rest) low l r h e hk =
    let v = slots_of k (schema.message n name presence m rest) l in
    let w = slots_of k (schema.message n name presence m rest) (l ++ r ∷ []) in
    let t : Takes m = λ a q f. takes m m 0 a q h.1 f f in
    elim (which_in (eqb r.number n) (payload_in r.value) (is_of_slot rest r) e) [
      | inl p ↦ taken_here (eqb r.number n) (payload_in r.value) p.0 (λ x. held presence (blank m) (Some (more m (fields x) (unwrap_or (present presence v.0) (blank m))))) (λ c. (c, v.1)) (λ u. (v.0, u)) (merged rest r v.1) w.0 w p.1 p.2
          (joined_more m t presence (given (in_slot payload_in n) l) p.0 ∙ ap (λ g. held presence (blank m) (joined (slots_of m m) g)) (sym (one_given payload_in n l r p.0 p.1 p.2)))
          (ap (λ u. (w.0, u)) (sym (unaffected k rest l r (apart rest n r h.2 (at_most r.number n p.1)) hk)))
      | inr p ↦ taken_later (eqb r.number n) (merged_message presence (more m) (blank m) r.value v.0) (λ c. (c, v.1)) (λ u. (v.0, u)) (merged rest r v.1) w.1 w (beyond rest n r h.2 p.1) (takes k rest n l r h.2 p.1 hk)
          (ap (λ g. (held presence (blank m) (joined (slots_of m m) g), w.1)) (sym (given-none (in_slot payload_in n) l r p.0)))
    ]
takes k (schema.repeated n name m rest) low l r h e hk =
    let v = slots_of k (schema.repeated n name m rest) l in
    let w = slots_of k (schema.repeated n name m rest) (l ++ r ∷ []) in
    let t : Takes m = λ a q f. takes m m 0 a q h.1 f f in
    elim (which_in (eqb r.number n) (payload_in r.value) (is_of_slot rest r) e) [
      | inl p ↦ taken_here (eqb r.number n) (payload_in r.value) p.0 (λ x. v.0 ++ more m (fields x) (blank m) ∷ []) (λ c. (c, v.1)) (λ u. (v.0, u)) (merged rest r v.1) w.0 w p.1 p.2
          (ap (λ u. v.0 ++ more m (fields p.0) u ∷ []) (sym (meaning_none m m)) ∙ ap (λ u. v.0 ++ u ∷ []) (whole m t (fields p.0) [])
          ∙ sym (ap (map (λ x. slots_of m m (fields x))) (one_given payload_in n l r p.0 p.1 p.2) ∙ map_push (λ x. slots_of m m (fields x)) (given (in_slot payload_in n) l) p.0))
          (ap (λ u. (w.0, u)) (sym (unaffected k rest l r (apart rest n r h.2 (at_most r.number n p.1)) hk)))
      | inr p ↦ taken_later (eqb r.number n) (merged_repeated (more m) (blank m) r.value v.0) (λ c. (c, v.1)) (λ u. (v.0, u)) (merged rest r v.1) w.1 w (beyond rest n r h.2 p.1) (takes k rest n l r h.2 p.1 hk)
          (ap (λ g. (map (λ x. slots_of m m (fields x)) g, w.1)) (sym (given-none (in_slot payload_in n) l r p.0)))
    ]

-- Taking the fields of a list one by one comes to what the list means.
pub taken_all : (s : Schema) → Rises 0 s → (l : List WireField) → with_fields s l (blank s) ≡ meaning s l
unfolding with_fields meaning
taken_all s h l = ap (λ v. more s l v) (sym (meaning_none s s)) ∙ whole s (λ a q f. takes s s 0 a q h f f) l []
