-- Rows by number, before and after a row is put in or taken out.
use Rattle.std.proofs.Common.{◌≡◌, ◌&&◌, ℕ, Bool, true, false, cond, List, [], ◌∷◌, Option, Some, None, refl, sym, ◌∙◌, ap}
use Rattle.std.specs.Prelude.{map, option_map}
use Rattle.std.specs.declared.cmp.Ordering.{Ordering}
use Rattle.std.specs.declared.cmp.Ordering.TheVariants.{Less, Equal, Greater}
use Rattle.std.specs.Ordering.{nat_cmp, ordering_then, is_eq}
use Rattle.std.specs.Cmp.{Equal-is}
use Rattle.std.specs.Cmp.Lexicographic.{slice_cmp}
use Rattle.std.specs.List.{filter, AllByRecursion}
use Rattle.std.specs.List.Sorted.{IsStrictlySortedBy}
use Rattle.std.specs.BTreeMap.{is_at}
use Rattle.std.specs.BTreeSet.{BTreeSet, insert_key}
use Rattle.std.specs.Set.{remove_key}
use Rattle.rule_table.specs.declared.kind.Kind.{Kind}
use Rattle.rule_table.specs.Kinds.{same_kind}
use Rattle.rule_table.specs.Order.{key_cmp}
use Rattle.rule_table.specs.Pairs.{PairRow, is_of}
use Rattle.pairing_rules.specs.declared.entry.Entry.{Entry}
use Rattle.pairing_rules.specs.Numbers.{Numbers, is_number, numbered, where_given, where_missing}
use Rattle.pairing_rules.specs.Rows.{row_cmp, id_cmp}
use Rattle.pairing_rules.specs.Slots.{Seen, seen_at, seen_cmp, shown}
use Rattle.pairing_rules.specs.Index.{belongs, AreUnder}
use Rattle.pairing_rules.proofs.Order.{rows_total, exact_rows, same-kinds, parts}
use Rattle.pairing_rules.proofs.Lists.{filter-insert, filter-remove, map-insert, map-remove, filter-same}

abbrev unwrap : Option (Option ℕ) → Option ℕ
unwrap None = None
unwrap (Some m) = m

absorb : (a b c : Ordering) → ordering_then a (ordering_then (ordering_then a b) c) ≡ ordering_then (ordering_then a b) c
absorb Less b c = refl
absorb Equal b c = refl
absorb Greater b c = refl

-- rows of one kind compare as they are seen
shown-cmp : (k : Kind) (r y : PairRow) → same_kind r.kind k ≡ true → same_kind y.kind k ≡ true → row_cmp r y ≡ seen_cmp (shown r) (shown y)
shown-cmp k r y h g =
    let rest = ordering_then (key_cmp r.key y.key) (ordering_then (id_cmp r.trip y.trip) (id_cmp r.vehicle y.vehicle)) in
    let same = same-kinds r.kind y.kind k h g in
    ap (λ o. ordering_then o rest) same
    ∙ sym (absorb (nat_cmp r.key.feed y.key.feed) (ordering_then (slice_cmp nat_cmp r.key.id y.key.id) (nat_cmp r.key.occurrence y.key.occurrence)) (ordering_then (id_cmp r.trip y.trip) (id_cmp r.vehicle y.vehicle)))
    ∙ ap (λ o. ordering_then (nat_cmp r.key.feed y.key.feed) (ordering_then o rest)) (sym same)

module _ (number : PairRow → Option ℕ) (n : ℕ) (k : Kind) (r : PairRow) (rows : List PairRow) where
  abbrev here : PairRow → Bool
  here = belongs number n k

  kind-here : (x : PairRow) → here x ≡ true → same_kind x.kind k ≡ true
  kind-here x h = (parts (is_number n (number x)) (is_of k x) h).1

  rows-put : IsStrictlySortedBy row_cmp rows → map shown (filter here (insert_key row_cmp rows r)) ≡ cond (here r) (insert_key seen_cmp (map shown (filter here rows)) (shown r)) (map shown (filter here rows))
  rows-put s = ap (map shown) (filter-insert rows_total here r (λ x t. ap here (sym (exact_rows r x t))) rows s) ∙ each (here r) refl
    where
      each : (b : Bool) → here r ≡ b → map shown (cond b (insert_key row_cmp (filter here rows) r) (filter here rows)) ≡ cond b (insert_key seen_cmp (map shown (filter here rows)) (shown r)) (map shown (filter here rows))
      each true h = map-insert shown here row_cmp seen_cmp r (λ x t. shown-cmp k r x (kind-here r h) (kind-here x t)) rows
      each false h = refl

  rows-taken : map shown (filter here (remove_key (is_at (row_cmp r)) rows)) ≡ cond (here r) (remove_key (is_at (seen_cmp (shown r))) (map shown (filter here rows))) (map shown (filter here rows))
  rows-taken = ap (map shown) (filter-remove here (is_at (row_cmp r)) (here r) (λ x t. ap here (sym (exact_rows r x ((Equal-is (row_cmp r x)).0 t)))) rows) ∙ each (here r) refl
    where
      each : (b : Bool) → here r ≡ b → map shown (cond b (remove_key (is_at (row_cmp r)) (filter here rows)) (filter here rows)) ≡ cond b (remove_key (is_at (seen_cmp (shown r))) (map shown (filter here rows))) (map shown (filter here rows))
      each true h = map-remove shown here (is_at (row_cmp r)) (is_at (seen_cmp (shown r))) (λ x t. ap is_eq (shown-cmp k r x (kind-here r h) (kind-here x t))) rows
      each false h = refl

-- a row was put in, and rows that were there keep their numbers
pub under-put : (number number' : PairRow → Option ℕ) (s t : BTreeSet Entry) (rows : List PairRow) (r : PairRow) → IsStrictlySortedBy row_cmp rows
    → AllByRecursion (λ x. number' x ≡ number x) rows
    → ((n : ℕ) (k : Kind) → seen_at t n k ≡ cond (belongs number' n k r) (insert_key seen_cmp (seen_at s n k) (shown r)) (seen_at s n k))
    → AreUnder number s rows → AreUnder number' t (insert_key row_cmp rows r)
under-put number number' s t rows r o same put under = λ n k.
    put n k ∙ ap (λ xs. cond (belongs number' n k r) (insert_key seen_cmp xs (shown r)) xs) (under n k ∙ ap (map shown) (filter-same (belongs number n k) (belongs number' n k) rows (all n k rows same)))
    ∙ sym (rows-put number' n k r rows o)
  where
    all : (n : ℕ) (k : Kind) (xs : List PairRow) → AllByRecursion (λ x. number' x ≡ number x) xs → AllByRecursion (λ x. belongs number n k x ≡ belongs number' n k x) xs
    all n k [] a = tt
    all n k (x ∷ xs) a = (ap (λ y. is_number n y && is_of k x) (sym a.0), all n k xs a.1)

-- a row was taken out
pub under-taken : (number : PairRow → Option ℕ) (s t : BTreeSet Entry) (rows : List PairRow) (r : PairRow)
    → ((n : ℕ) (k : Kind) → seen_at t n k ≡ cond (belongs number n k r) (remove_key (is_at (seen_cmp (shown r))) (seen_at s n k)) (seen_at s n k))
    → AreUnder number s rows → AreUnder number t (remove_key (is_at (row_cmp r)) rows)
under-taken number s t rows r taken under = λ n k.
    taken n k ∙ ap (λ xs. cond (belongs number n k r) (remove_key (is_at (seen_cmp (shown r))) xs) xs) (under n k) ∙ sym (rows-taken number n k r rows)

-- what was put in or taken out is the row
pub put-as : (n : ℕ) (k : Kind) (x x' : Option ℕ) (h r : PairRow) (old : List Seen) → x ≡ x' → h ≡ r
    → cond (is_number n x && same_kind h.kind k) (insert_key seen_cmp old (shown h)) old ≡ cond (is_number n x' && same_kind r.kind k) (insert_key seen_cmp old (shown r)) old
put-as n k x x' h r old e g =
    ap (λ z. cond (is_number n z && same_kind h.kind k) (insert_key seen_cmp old (shown h)) old) e
    ∙ ap (λ z. cond (is_number n x' && same_kind z.kind k) (insert_key seen_cmp old (shown z)) old) g

pub taken-as : (n : ℕ) (k : Kind) (x x' : Option ℕ) (h r : PairRow) (old : List Seen) → x ≡ x' → h ≡ r
    → cond (is_number n x && same_kind h.kind k) (remove_key (is_at (seen_cmp (shown h))) old) old ≡ cond (is_number n x' && same_kind r.kind k) (remove_key (is_at (seen_cmp (shown r))) old) old
taken-as n k x x' h r old e g =
    ap (λ z. cond (is_number n z && same_kind h.kind k) (remove_key (is_at (seen_cmp (shown h))) old) old) e
    ∙ ap (λ z. cond (is_number n x' && same_kind z.kind k) (remove_key (is_at (seen_cmp (shown z))) old) old) g

-- what a number beside tells of an id
pub given-beside : (vehicles : Numbers) (id : Option (List ℕ)) (m n : Option ℕ) → numbered vehicles id ≡ Some m → where_given m n ≡ where_given id n
given-beside vehicles None m n h = ap (λ x. where_given (unwrap x) n) (sym h)
given-beside vehicles (Some id) m n h = each (vehicles id) h
  where
    each : (o : Option ℕ) → option_map Some o ≡ Some m → where_given m n ≡ n
    each None h = cc
    each (Some x) h = ap (λ y. where_given (unwrap y) n) (sym h)

pub missing-beside : (vehicles : Numbers) (id : Option (List ℕ)) (m n : Option ℕ) → numbered vehicles id ≡ Some m → where_missing m n ≡ where_missing id n
missing-beside vehicles None m n h = ap (λ x. where_missing (unwrap x) n) (sym h)
missing-beside vehicles (Some id) m n h = each (vehicles id) h
  where
    each : (o : Option ℕ) → option_map Some o ≡ Some m → where_missing m n ≡ None
    each None h = cc
    each (Some x) h = ap (λ y. where_missing (unwrap y) n) (sym h)
