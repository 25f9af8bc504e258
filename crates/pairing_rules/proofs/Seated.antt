-- Rows at their seats, before and after one is put in or taken out, and the first seat of a kind or of a pair.
use Rattle.std.proofs.Common.{◌≡◌, ◌&&◌, ◌||◌, ℕ, Bool, true, false, cond, List, [], ◌∷◌, Option, Some, None, is_some, refl, sym, ◌∙◌, ap}
use Rattle.std.specs.Prelude.{map}
use Rattle.std.specs.declared.cmp.Ordering.TheVariants.{Less, Equal, Greater}
use Rattle.std.specs.declared.alloc.Global.{Global}
use Rattle.std.specs.declared.rc.Rc.{Rc}
use Rattle.std.specs.Ordering.{match_ordering, is_eq, is_le}
use Rattle.std.specs.Cmp.{Equal-is, tied_itself}
use Rattle.std.proofs.lemmas.Cmp.{on_total}
use Rattle.std.specs.List.{filter, find, list_any, AllByRecursion}
use Rattle.std.specs.List.Sorted.{IsStrictlySortedBy}
use Rattle.std.specs.Map.{keys_of, lookup, remove_entry}
use Rattle.std.specs.BTreeMap.{is_at, insert_entry}
use Rattle.std.specs.BTreeSet.{insert_key}
use Rattle.std.specs.Set.{remove_key}
use Rattle.rule_table.specs.declared.kind.Kind.{Kind}
use Rattle.rule_table.specs.Kinds.{kind_cmp, same_kind, kinds_total}
use Rattle.rule_table.specs.Pairs.{PairRow, is_of, is_id, any_row, has_pair}
use Rattle.pairing_rules.specs.declared.held.Held.{Held}
use Rattle.pairing_rules.specs.declared.seat.Seat.{Seat}
use Rattle.pairing_rules.specs.Numbers.{Numbers, AreApart, is_number, numbered}
use Rattle.pairing_rules.specs.Rows.{row_cmp, held_row}
use Rattle.pairing_rules.specs.Seats.{seat_in, seat_of, seat_cmp, low_seat, is_pair, row_at, rows_of, AreSeated}
use Rattle.pairing_rules.proofs.Order.{rows_total, exact_rows, seats_total, exact_seats, turned-kind, kind-le, kind-less, pair_cmp, pairs_total, pair-le, pair-less, pair-eq}
use Rattle.pairing_rules.proofs.Lists.{find-some, find-none, any-find, any-same, all-then, cut}
use Rattle.pairing_rules.proofs.Places.{front-cut, cut-same, find-and}
use Rattle.pairing_rules.proofs.InOrder.{insert-twice, insert-swap, remove-none, remove-new, remove-other, sorted-in-order, all-in-order, any-in-order}
use Rattle.pairing_rules.proofs.Numbering.{seat-made, seat-parts, seat-apart, number-id, numbered-is}

-- ---- the first seat at or after one
module _ {K V : Type 0} where
  keys-filter : (p : K → Bool) (es : List (K × V)) → keys_of (filter (λ e. p e.0) es) ≡ filter p (keys_of es)
  keys-filter p [] = refl
  keys-filter p (e ∷ es) = each (p e.0) (keys-filter p es)
    where
      each : (b : Bool) → keys_of (filter (λ e. p e.0) es) ≡ filter p (keys_of es) → keys_of (cond b (e ∷ filter (λ e. p e.0) es) (filter (λ e. p e.0) es)) ≡ cond b (e.0 ∷ filter p (keys_of es)) (filter p (keys_of es))
      each true h = ap (λ xs. e.0 ∷ xs) h
      each false h = h

  -- the first item of a range without an end
  pub next-none : (p : K → Bool) (es s : List (K × V)) → s ≡ filter (λ e. p e.0 && true) es → s ≡ [] → None ≡ find p (keys_of es)
  next-none p es s e h = sym (find-none (λ x. p x && true) (keys_of es) (sym (keys-filter (λ x. p x && true) es) ∙ ap keys_of (sym e ∙ h))) ∙ find-and p (keys_of es)

  pub next-some : (p : K → Bool) (es s t : List (K × V)) (x : K × V) → s ≡ filter (λ e. p e.0 && true) es → s ≡ x ∷ t → Some x.0 ≡ find p (keys_of es)
  next-some p es s t x e h = sym (find-some (λ x. p x && true) (keys_of es) x.0 (keys_of t) (sym (keys-filter (λ x. p x && true) es) ∙ ap keys_of (sym e ∙ h))) ∙ find-and p (keys_of es)

pub kind-front : (k : Kind) (keys : List Seat) → IsStrictlySortedBy seat_cmp keys → is_some (cut (λ s. same_kind s.kind k) (find (λ s. is_le (seat_cmp (low_seat k None None) s)) keys)) ≡ list_any (λ s. same_kind s.kind k) keys
kind-front k keys o =
    ap is_some (cut-same (λ s. same_kind s.kind k) (λ s. is_eq (kind_cmp k s.kind)) (λ s. sym (turned-kind k s.kind)) _
    ∙ front-cut {R = seat_cmp} {P = λ a b. kind_cmp a.kind b.kind} (on_total (λ s. s.kind) kinds_total) kind-less (low_seat k None None) (kind-le k) keys o)
    ∙ sym (any-find (λ s. is_eq (kind_cmp k s.kind)) keys) ∙ any-same (λ s. is_eq (kind_cmp k s.kind)) (λ s. same_kind s.kind k) (λ s. turned-kind k s.kind) keys

pub pair-front : (k : Kind) (t v : ℕ) (keys : List Seat) → IsStrictlySortedBy seat_cmp keys → is_some (cut (is_pair k t v) (find (λ s. is_le (seat_cmp (low_seat k (Some t) (Some v)) s)) keys)) ≡ list_any (is_pair k t v) keys
pair-front k t v keys o =
    ap is_some (cut-same (is_pair k t v) (λ s. is_eq (pair_cmp (low_seat k (Some t) (Some v)) s)) (λ s. sym (pair-eq k t v s)) _
    ∙ front-cut {R = seat_cmp} {P = pair_cmp} pairs_total pair-less (low_seat k (Some t) (Some v)) (pair-le k t v) keys o)
    ∙ sym (any-find (λ s. is_eq (pair_cmp (low_seat k (Some t) (Some v)) s)) keys) ∙ any-same (λ s. is_eq (pair_cmp (low_seat k (Some t) (Some v)) s)) (is_pair k t v) (pair-eq k t v) keys

-- ---- rows at seats
abbrev pub SeatedIn : Numbers → Numbers → Numbers → Seat × Rc Held Global → Type 0
SeatedIn ids trips vehicles e = seat_in ids trips vehicles (row_at e) ≡ Some e.0

-- what the rows answer, from what the seats do
any-row-at : (p : PairRow → Bool) (q : Seat → Bool) (es : List (Seat × Rc Held Global)) → AllByRecursion (λ e. p (row_at e) ≡ q e.0) es → list_any p (map row_at es) ≡ list_any q (keys_of es)
any-row-at p q [] a = refl
any-row-at p q (e ∷ es) a = ap (λ b. b || list_any p (map row_at es)) a.0 ∙ ap (λ b. q e.0 || b) (any-row-at p q es a.1)

all-each : {A : Type 0} (P : A → Type 0) → ((x : A) → P x) → (xs : List A) → AllByRecursion P xs
all-each P h [] = tt
all-each P h (x ∷ xs) = (h x, all-each P h xs)

pub kind-asked : (k : Kind) (es : List (Seat × Rc Held Global)) → list_any (λ s. same_kind s.kind k) (keys_of es) ≡ any_row (rows_of es) k
kind-asked k es = sym (any-in-order (is_of k) (map row_at es) ∙ any-row-at (is_of k) (λ s. same_kind s.kind k) es (all-each _ (λ e. refl) es))

module _ (ids trips vehicles : Numbers) (last_id last_trip last_vehicle : ℕ) (a : AreApart ids last_id) (b : AreApart trips last_trip) (c : AreApart vehicles last_vehicle) where
  pub pair-asked : (trip vehicle : List ℕ) (n m : ℕ) → trips trip ≡ Some n → vehicles vehicle ≡ Some m → (k : Kind) (es : List (Seat × Rc Held Global)) → AreSeated ids trips vehicles es
      → list_any (is_pair k n m) (keys_of es) ≡ has_pair (rows_of es) k trip vehicle
  pair-asked trip vehicle n m h g k es i =
      sym (any-in-order (λ r. is_of k r && is_id trip r.trip && is_id vehicle r.vehicle) (map row_at es) ∙ any-row-at _ (is_pair k n m) es (all-then (SeatedIn ids trips vehicles) _ each es i))
    where
      each : (e : Seat × Rc Held Global) → SeatedIn ids trips vehicles e → (is_of k (row_at e) && is_id trip (row_at e).trip && is_id vehicle (row_at e).vehicle) ≡ is_pair k n m e.0
      each e s =
          let x = seat-parts ids trips vehicles (row_at e) e.0 s in
          ap (λ y. is_of k (row_at e) && y && is_id vehicle (row_at e).vehicle) (sym (number-id trips last_trip b trip n h (row_at e).trip) ∙ ap (is_number n) (numbered-is trips (row_at e).trip e.0.trip x.1))
          ∙ ap (λ y. is_of k (row_at e) && is_number n e.0.trip && y) (sym (number-id vehicles last_vehicle c vehicle m g (row_at e).vehicle) ∙ ap (is_number m) (numbered-is vehicles (row_at e).vehicle e.0.vehicle x.2))

  one-row : (r q : PairRow) (s : Seat) → seat_in ids trips vehicles r ≡ Some s → seat_in ids trips vehicles q ≡ Some s → r ≡ q
  one-row r q s h g = seat-apart ids trips vehicles last_id last_trip last_vehicle a b c r q s h g

  inside : (s t : Seat) → Some s ≡ Some t → s ≡ t
  inside s t h = cc

  -- rows at seats that are apart are apart
  other-row : (r q : PairRow) (s t : Seat) → seat_in ids trips vehicles r ≡ Some s → seat_in ids trips vehicles q ≡ Some t → is_eq (seat_cmp s t) ≡ false → is_at (row_cmp r) q ≡ false
  other-row r q s t h g f = each (is_at (row_cmp r) q) refl
    where
      each : (x : Bool) → is_at (row_cmp r) q ≡ x → x ≡ false
      each true e =
          let same : r ≡ q = exact_rows r q ((Equal-is (row_cmp r q)).0 e) in
          let seats : s ≡ t = inside s t (sym h ∙ ap (seat_in ids trips vehicles) same ∙ g) in
          let tied : is_eq (seat_cmp s t) ≡ true = ap (λ x. is_eq (seat_cmp x t)) seats ∙ ap is_eq (tied_itself seats_total t) in cc
      each false e = refl

  pub rows-insert : (s : Seat) (h : Rc Held Global) → SeatedIn ids trips vehicles (s, h) → (es : List (Seat × Rc Held Global)) → AreSeated ids trips vehicles es
      → rows_of (insert_entry seat_cmp es s h) ≡ insert_key row_cmp (rows_of es) (row_at (s, h))
  rows-insert s h i [] t = refl
  rows-insert s h i (e ∷ es) t =
      elim (seat_cmp s e.0) as (λ o. seat_cmp s e.0 ≡ o → rows_of (match_ordering o ((s, h) ∷ e ∷ es) ((e.0, h) ∷ es) (e ∷ insert_entry seat_cmp es s h)) ≡ insert_key row_cmp (rows_of (e ∷ es)) (row_at (s, h))) [
        | Less ↦ λ _. refl
        | Equal ↦ λ q.
            let same : s ≡ e.0 = exact_seats s e.0 q in
            ap (λ z. insert_key row_cmp (rows_of es) (row_at (z, h))) (sym same) ∙ sym (insert-twice rows_total exact_rows (row_at (s, h)) (rows_of es))
            ∙ ap (λ r. insert_key row_cmp (insert_key row_cmp (rows_of es) r) (row_at (s, h))) (one-row (row_at (s, h)) (row_at e) s i (t.0 ∙ ap Some (sym same)))
        | Greater ↦ λ _. ap (λ rows. insert_key row_cmp rows (row_at e)) (rows-insert s h i es t.1) ∙ insert-swap rows_total exact_rows (row_at e) (row_at (s, h)) (rows_of es)
      ] refl

  later : (s : Seat) (es : List (Seat × Rc Held Global)) → AllByRecursion (λ z. seat_cmp s z ≡ Less) (keys_of es) → (r : PairRow) → seat_in ids trips vehicles r ≡ Some s → AreSeated ids trips vehicles es
      → AllByRecursion (λ q. is_at (row_cmp r) q ≡ false) (map row_at es)
  later s [] l r h t = tt
  later s (e ∷ es) l r h t = (other-row r (row_at e) s e.0 h t.0 (ap is_eq l.0), later s es l.1 r h t.1)

  pub rows-remove : (s : Seat) (r : PairRow) → seat_in ids trips vehicles r ≡ Some s → (es : List (Seat × Rc Held Global)) → AreSeated ids trips vehicles es → IsStrictlySortedBy seat_cmp (keys_of es)
      → rows_of (remove_entry (is_at (seat_cmp s)) es) ≡ remove_key (is_at (row_cmp r)) (rows_of es)
  unfolding IsStrictlySortedBy
  rows-remove s r i [] t o = refl
  rows-remove s r i (e ∷ es) t o =
      elim (is_eq (seat_cmp s e.0)) as (λ x. is_eq (seat_cmp s e.0) ≡ x → rows_of (cond x es (e ∷ remove_entry (is_at (seat_cmp s)) es)) ≡ remove_key (is_at (row_cmp r)) (rows_of (e ∷ es))) [
        | true ↦ λ q.
            let same : s ≡ e.0 = exact_seats s e.0 ((Equal-is (seat_cmp s e.0)).0 q) in
            let row : row_at e ≡ r = one-row (row_at e) r e.0 t.0 (i ∙ ap Some same) in
            sym (ap (λ x. remove_key (is_at (row_cmp r)) (insert_key row_cmp (rows_of es) x)) row
            ∙ remove-new rows_total exact_rows r (rows_of es) (all-in-order (λ x. is_at (row_cmp r) x ≡ false) (map row_at es) (later e.0 es o.0 r (i ∙ ap Some same) t.1)))
        | false ↦ λ q.
            ap (λ rows. insert_key row_cmp rows (row_at e)) (rows-remove s r i es t.1 o.1)
            ∙ sym (remove-other rows_total exact_rows r (row_at e) (other-row r (row_at e) s e.0 i t.0 q) (rows_of es) (sorted-in-order (map row_at es)))
      ] refl

  -- a row without a seat isn't there
  pub rows-without : (r : PairRow) → seat_in ids trips vehicles r ≡ None → (es : List (Seat × Rc Held Global)) → AreSeated ids trips vehicles es → rows_of es ≡ remove_key (is_at (row_cmp r)) (rows_of es)
  rows-without r h es t = sym (remove-none rows_total exact_rows (is_at (row_cmp r)) (rows_of es) (all-in-order (λ x. is_at (row_cmp r) x ≡ false) (map row_at es) (all es t)))
    where
      apart : (e : Seat × Rc Held Global) → SeatedIn ids trips vehicles e → (x : Bool) → is_at (row_cmp r) (row_at e) ≡ x → x ≡ false
      apart e i true q = let same : r ≡ row_at e = exact_rows r (row_at e) ((Equal-is (row_cmp r (row_at e))).0 q) in let g : None ≡ Some e.0 = sym h ∙ ap (seat_in ids trips vehicles) same ∙ i in cc
      apart e i false q = refl

      all : (es : List (Seat × Rc Held Global)) → AreSeated ids trips vehicles es → AllByRecursion (λ x. is_at (row_cmp r) x ≡ false) (map row_at es)
      all [] t = tt
      all (e ∷ es) t = (apart e t.0 (is_at (row_cmp r) (row_at e)) refl, all es t.1)

  pub seated-insert : (s : Seat) (h : Rc Held Global) → SeatedIn ids trips vehicles (s, h) → (es : List (Seat × Rc Held Global)) → AreSeated ids trips vehicles es → AreSeated ids trips vehicles (insert_entry seat_cmp es s h)
  seated-insert s h i [] t = (i, tt)
  seated-insert s h i (e ∷ es) t =
      elim (seat_cmp s e.0) as (λ o. seat_cmp s e.0 ≡ o → AreSeated ids trips vehicles (match_ordering o ((s, h) ∷ e ∷ es) ((e.0, h) ∷ es) (e ∷ insert_entry seat_cmp es s h))) [
        | Less ↦ λ _. (i, t)
        | Equal ↦ λ q. let same : s ≡ e.0 = exact_seats s e.0 q in (ap (λ z. seat_in ids trips vehicles (row_at (z, h))) (sym same) ∙ i ∙ ap Some same, t.1)
        | Greater ↦ λ _. (t.0, seated-insert s h i es t.1)
      ] refl

  pub seated-remove : (test : Seat → Bool) (es : List (Seat × Rc Held Global)) → AreSeated ids trips vehicles es → AreSeated ids trips vehicles (remove_entry test es)
  seated-remove test [] t = tt
  seated-remove test (e ∷ es) t = elim (test e.0) as (λ x. AreSeated ids trips vehicles (cond x es (e ∷ remove_entry test es))) [ true ↦ t.1 | false ↦ (t.0, seated-remove test es t.1) ]

  -- what is found at a row's seat is that row
  pub seated-found : (s : Seat) (h : Rc Held Global) (r : PairRow) → seat_in ids trips vehicles r ≡ Some s → (es : List (Seat × Rc Held Global)) → AreSeated ids trips vehicles es → lookup (is_at (seat_cmp s)) es ≡ Some h → row_at (s, h) ≡ r
  seated-found s h r i [] t f = cc
  seated-found s h r i (e ∷ es) t f =
      elim (is_eq (seat_cmp s e.0)) as (λ x. is_eq (seat_cmp s e.0) ≡ x → cond x (Some e.1) (lookup (is_at (seat_cmp s)) es) ≡ Some h → row_at (s, h) ≡ r) [
        | true ↦ λ q g.
            let same : s ≡ e.0 = exact_seats s e.0 ((Equal-is (seat_cmp s e.0)).0 q) in
            let value : e.1 ≡ h = cc in
            ap (λ z. row_at (z, h)) same ∙ ap (λ z. row_at (e.0, z)) (sym value) ∙ one-row (row_at e) r e.0 t.0 (i ∙ ap Some same)
        | false ↦ λ q g. seated-found s h r i es t.1 g
      ] refl f

-- a row that is held at the seat of its numbers
module _ (ids trips vehicles : Numbers) (r : PairRow) (s : Seat) (h : Rc Held Global) (i : ℕ) (t v : Option ℕ) (at : s ≡ seat_of r i t v) (held : held_row r.kind h.value ≡ r) where
  pub row-held : row_at (s, h) ≡ r
  row-held = ap (λ z. held_row z.kind h.value) at ∙ held

  pub seated-new : ids r.key.id ≡ Some i → numbered trips r.trip ≡ Some t → numbered vehicles r.vehicle ≡ Some v → SeatedIn ids trips vehicles (s, h)
  seated-new e f g = ap (seat_in ids trips vehicles) row-held ∙ seat-made ids trips vehicles r i t v e f g ∙ ap Some (sym at)
