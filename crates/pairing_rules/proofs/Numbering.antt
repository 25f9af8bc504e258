-- Numbers of texts.
use Rattle.std.proofs.Common.{◌≡◌, ◌<◌, ◌≤◌, ◌+◌, ◌^◌, ℕ, Bool, true, false, cond, List, Option, Some, None, is_some, ◌==◌, refl, sym, ◌∙◌, ap, subst, arith}
use Rattle.std.specs.Prelude.{String, bytes_eq, string_bytes, option_map, option_and_then}
use Rattle.std.specs.BTreeMap.{BTreeMap, get_by_text, Updates}
use Rattle.std.specs.String.{string_cmp}
use Rattle.std.proofs.lemmas.Map.Text.{btree_map_updates_text}
use Rattle.std.proofs.lemmas.Bool.Decides.{nat_tests}
use Rattle.std.proofs.lemmas.Slice.Eq.{bytes_eq-Decides}
use Rattle.pairing_rules.specs.Numbers.{Numbers, AreApart, number_of, is_number, is_named, numbered}
use Rattle.pairing_rules.specs.declared.seat.Seat.{Seat}
use Rattle.pairing_rules.specs.Seats.{seat_in, seat_of}
use Rattle.rule_table.specs.Pairs.{PairRow, is_id}

-- what is found by a text after a change at one
pub found_after : {Y : Type 0} (m n : BTreeMap (String Y) ℕ) (k : String Y) (w : ℕ) → Updates string_cmp m n k (Some w)
    → (other : List ℕ) → get_by_text n other ≡ cond (bytes_eq (string_bytes k) other) (Some w) (get_by_text m other)
found_after m n k w = btree_map_updates_text (string_bytes k) m n (Some w)

-- ids that have the number of an id are that id
pub number-id : (number : Numbers) (next : ℕ) → AreApart number next → (text : List ℕ) (n : ℕ) → number text ≡ Some n → (id : Option (List ℕ)) → is_number n (number_of number id) ≡ is_id text id
number-id number next a text n h None = refl
number-id number next a text n h (Some id) = each (number id) refl
  where
    each : (m : Option ℕ) → number id ≡ m → is_number n m ≡ bytes_eq id text
    each None e = other (bytes_eq id text) refl
      where
        other : (b : Bool) → bytes_eq id text ≡ b → false ≡ b
        other true f = let same : id ≡ text = (bytes_eq-Decides id text).0 f in let g : number id ≡ Some n = ap number same ∙ h in cc
        other false f = refl
    each (Some m) e = same (m == n) (bytes_eq id text) refl refl
      where
        same : (b c : Bool) → (m == n) ≡ b → bytes_eq id text ≡ c → b ≡ c
        same true true f g = refl
        same false false f g = refl
        same true false f g =
            let s : m ≡ n = grind (arith, nat_tests) in let t : id ≡ text = a.apart id text n (e ∙ ap Some s) h in let u : bytes_eq id text ≡ true = (bytes_eq-Decides id text).1 t in cc
        same false true f g =
            let t : id ≡ text = (bytes_eq-Decides id text).0 g in let u : Some m ≡ Some n = sym e ∙ ap number t ∙ h in let s : m ≡ n = cc in let v : (m == n) ≡ true = grind (arith, nat_tests) in cc

-- what has a number keeps it
pub number-kept : (number new : Numbers) → ((other : List ℕ) (n : ℕ) → number other ≡ Some n → new other ≡ Some n) → (id : Option (List ℕ)) → is_named number id ≡ true → number_of new id ≡ number_of number id
number-kept number new kept None h = refl
number-kept number new kept (Some id) h = each (number id) refl h
  where
    each : (m : Option ℕ) → number id ≡ m → is_some m ≡ true → new id ≡ number id
    each None e g = cc
    each (Some n) e g = kept id n e ∙ sym e

pub named-kept : (number new : Numbers) → ((other : List ℕ) (n : ℕ) → number other ≡ Some n → new other ≡ Some n) → (id : Option (List ℕ)) → is_named number id ≡ true → is_named new id ≡ true
named-kept number new kept None h = refl
named-kept number new kept (Some id) h = each (number id) refl h
  where
    each : (m : Option ℕ) → number id ≡ m → is_some m ≡ true → is_some (new id) ≡ true
    each None e g = cc
    each (Some n) e g = ap is_some (kept id n e)

-- an id without a number is the id of nothing that has one
pub unnamed : (number : Numbers) (text : List ℕ) → number text ≡ None → (id : Option (List ℕ)) → is_named number id ≡ true → is_id text id ≡ false
unnamed number text none None h = refl
unnamed number text none (Some id) h = each (bytes_eq id text) refl
  where
    each : (b : Bool) → bytes_eq id text ≡ b → b ≡ false
    each true e = let same : id ≡ text = (bytes_eq-Decides id text).0 e in let f : is_some (number id) ≡ false = ap is_some (ap number same ∙ none) in cc
    each false e = refl

-- ---- seats
pub numbered-named : (number : Numbers) (id : Option (List ℕ)) (n : Option ℕ) → is_named number id ≡ true → number_of number id ≡ n → numbered number id ≡ Some n
numbered-named number None n h e = ap Some e
numbered-named number (Some id) n h e = each (number id) h e
  where
    each : (m : Option ℕ) → is_some m ≡ true → m ≡ n → option_map Some m ≡ Some n
    each None h e = cc
    each (Some x) h e = ap Some e

pub numbered-is : (number : Numbers) (id : Option (List ℕ)) (n : Option ℕ) → numbered number id ≡ Some n → number_of number id ≡ n
numbered-is number None n h = cc
numbered-is number (Some id) n h = each (number id) h
  where
    each : (m : Option ℕ) → option_map Some m ≡ Some n → m ≡ n
    each None h = cc
    each (Some x) h = cc

numbered-kept : (number new : Numbers) → ((other : List ℕ) (n : ℕ) → number other ≡ Some n → new other ≡ Some n) → (id : Option (List ℕ)) (n : Option ℕ) → numbered number id ≡ Some n → numbered new id ≡ Some n
numbered-kept number new kept None n h = h
numbered-kept number new kept (Some id) n h = each (number id) refl h
  where
    each : (m : Option ℕ) → number id ≡ m → option_map Some m ≡ Some n → option_map Some (new id) ≡ Some n
    each None e g = cc
    each (Some x) e g = ap (option_map Some) (kept id x e) ∙ g

numbered-apart : (number : Numbers) (next : ℕ) → AreApart number next → (a b : Option (List ℕ)) (n : Option ℕ) → numbered number a ≡ Some n → numbered number b ≡ Some n → a ≡ b
numbered-apart number next o None None n h g = refl
numbered-apart number next o None (Some b) n h g = each (number b) (g ∙ sym h)
  where
    each : (m : Option ℕ) → option_map Some m ≡ Some None → None ≡ Some b
    each None e = cc
    each (Some x) e = cc
numbered-apart number next o (Some a) None n h g = each (number a) (h ∙ sym g)
  where
    each : (m : Option ℕ) → option_map Some m ≡ Some None → Some a ≡ None
    each None e = cc
    each (Some x) e = cc
numbered-apart number next o (Some a) (Some b) n h g = each (number a) (number b) refl refl h g
  where
    each : (x y : Option ℕ) → number a ≡ x → number b ≡ y → option_map Some x ≡ Some n → option_map Some y ≡ Some n → Some a ≡ Some b
    each None y e f h g = cc
    each (Some x) None e f h g = cc
    each (Some x) (Some y) e f h g = let s : x ≡ y = cc in ap Some (o.apart a b x e (f ∙ ap Some (sym s)))

module _ (ids trips vehicles : Numbers) where
  -- what a seat says of its row
  pub seat-parts : (r : PairRow) (s : Seat) → seat_in ids trips vehicles r ≡ Some s → (ids r.key.id ≡ Some s.id) × (numbered trips r.trip ≡ Some s.trip) × (numbered vehicles r.vehicle ≡ Some s.vehicle) × (seat_of r s.id s.trip s.vehicle ≡ s)
  seat-parts r s h = each (ids r.key.id) (numbered trips r.trip) (numbered vehicles r.vehicle) h
    where
      each : (i : Option ℕ) (t v : Option (Option ℕ)) → option_and_then (λ id. option_and_then (λ trip. option_map (seat_of r id trip) v) t) i ≡ Some s → (i ≡ Some s.id) × (t ≡ Some s.trip) × (v ≡ Some s.vehicle) × (seat_of r s.id s.trip s.vehicle ≡ s)
      each None t v h = cc
      each (Some i) None v h = cc
      each (Some i) (Some t) None h = cc
      each (Some i) (Some t) (Some v) h = let e : seat_of r i t v ≡ s = cc in subst (λ z. (Some i ≡ Some z.id) × (Some t ≡ Some z.trip) × (Some v ≡ Some z.vehicle) × (seat_of r z.id z.trip z.vehicle ≡ z)) e (refl, refl, refl, refl)

  pub seat-made : (r : PairRow) (i : ℕ) (t v : Option ℕ) → ids r.key.id ≡ Some i → numbered trips r.trip ≡ Some t → numbered vehicles r.vehicle ≡ Some v → seat_in ids trips vehicles r ≡ Some (seat_of r i t v)
  seat-made r i t v e f g =
      ap (option_and_then (λ id. option_and_then (λ trip. option_map (seat_of r id trip) (numbered vehicles r.vehicle)) (numbered trips r.trip))) e
      ∙ ap (option_and_then (λ trip. option_map (seat_of r i trip) (numbered vehicles r.vehicle))) f ∙ ap (option_map (seat_of r i t)) g

  -- rows with one seat are one
  pub seat-apart : (last_id last_trip last_vehicle : ℕ) → AreApart ids last_id → AreApart trips last_trip → AreApart vehicles last_vehicle
      → (r q : PairRow) (s : Seat) → seat_in ids trips vehicles r ≡ Some s → seat_in ids trips vehicles q ≡ Some s → r ≡ q
  seat-apart last_id last_trip last_vehicle a b c r q s h g =
      let x = seat-parts r s h in
      let y = seat-parts q s g in
      let same = x.3 ∙ sym y.3 in
      make (ap (λ z. z.kind) same) (ap (λ z. z.feed) same) (a.apart r.key.id q.key.id s.id x.0 y.0) (ap (λ z. z.occurrence) same)
      (numbered-apart trips last_trip b r.trip q.trip s.trip x.1 y.1) (numbered-apart vehicles last_vehicle c r.vehicle q.vehicle s.vehicle x.2 y.2)
    where
      make : r.kind ≡ q.kind → r.key.feed ≡ q.key.feed → r.key.id ≡ q.key.id → r.key.occurrence ≡ q.key.occurrence → r.trip ≡ q.trip → r.vehicle ≡ q.vehicle → r ≡ q
      make k f i o t v =
          ap (λ x. let z : PairRow = record { kind = x; key = r.key; trip = r.trip; vehicle = r.vehicle } in z) k
          ∙ ap (λ x. let z : PairRow = record { kind = q.kind; key = record { feed = x; id = r.key.id; occurrence = r.key.occurrence }; trip = r.trip; vehicle = r.vehicle } in z) f
          ∙ ap (λ x. let z : PairRow = record { kind = q.kind; key = record { feed = q.key.feed; id = x; occurrence = r.key.occurrence }; trip = r.trip; vehicle = r.vehicle } in z) i
          ∙ ap (λ x. let z : PairRow = record { kind = q.kind; key = record { feed = q.key.feed; id = q.key.id; occurrence = x }; trip = r.trip; vehicle = r.vehicle } in z) o
          ∙ ap (λ x. let z : PairRow = record { kind = q.kind; key = q.key; trip = x; vehicle = r.vehicle } in z) t
          ∙ ap (λ x. let z : PairRow = record { kind = q.kind; key = q.key; trip = q.trip; vehicle = x } in z) v

-- a row keeps its seat
pub seat-kept : (ids ids' trips trips' vehicles vehicles' : Numbers)
    → ((other : List ℕ) (n : ℕ) → ids other ≡ Some n → ids' other ≡ Some n) → ((other : List ℕ) (n : ℕ) → trips other ≡ Some n → trips' other ≡ Some n) → ((other : List ℕ) (n : ℕ) → vehicles other ≡ Some n → vehicles' other ≡ Some n)
    → (r : PairRow) (s : Seat) → seat_in ids trips vehicles r ≡ Some s → seat_in ids' trips' vehicles' r ≡ Some s
seat-kept ids ids' trips trips' vehicles vehicles' a b c r s h =
    let x = seat-parts ids trips vehicles r s h in
    seat-made ids' trips' vehicles' r s.id s.trip s.vehicle (a r.key.id s.id x.0) (numbered-kept trips trips' b r.trip s.trip x.1) (numbered-kept vehicles vehicles' c r.vehicle s.vehicle x.2) ∙ ap Some x.3
