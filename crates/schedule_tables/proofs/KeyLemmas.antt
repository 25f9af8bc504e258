-- Tables that go by an id keep to their keys.
use Rattle.std.proofs.Common.{◌≡◌, ◌&&◌, ◌++◌, List, [], ◌∷◌, map, filter, find, unwrap_or, Bool, true, false, cond, Option, Some, None, option_map, Result, refl, sym, ap, ◌∙◌}
use Rattle.std.proofs.lemmas.Cmp.{int_cmp_total, nat_list_cmp_total}
use Rattle.std.proofs.lemmas.Map.Text.{is_eq-slice_cmp}
use Rattle.std.specs.FinMap.{empty, get, get-empty, get-insert, insert, int_cmp-IsAntisymmetric}
use Rattle.std.proofs.lemmas.List.{append-nil, map-append}
use Rattle.std.proofs.lemmas.List.Elements.{filter-append}
use Rattle.std.proofs.lemmas.List.Folds.{find-append}
use Rattle.std.specs.Option.{option_and_then, option_or}
use Rattle.std.specs.Ordering.{eq_by_cmp, int_cmp, int_eq}
use Rattle.std.specs.Str.{bytes_eq}
use Rattle.schedule_rows.specs.Cells.{Cells}
use Rattle.schedule_tables.specs.Formats.{by_id, day_key, listing, only, only_key}
use Rattle.schedule_tables.specs.Groups.{exceptions}
use Rattle.schedule_tables.specs.Laws.{HoldsEach, Keys, ListsEach, never_same, row_keys}
use Rattle.schedule_tables.specs.Maps.{ByText, Grouping, Text, grown, put_under, text_cmp}
use Rattle.schedule_tables.specs.Tables.{Format}
use Rattle.schedule_rows.specs.declared.cell_fault.CellFault.{CellFault}
use Rattle.schedule_rows.specs.declared.file.File.{File}
use Rattle.schedule_rows.specs.declared.row.Row.{Row}
use Rattle.schedule_tables.proofs.KeyedLemmas.{one_key}
use Rattle.schedule_tables.proofs.LawLemmas.{Keeps}
use Rattle.schedule_tables.proofs.MapLemmas.{text_cmp-IsAntisymmetric}

-- the table with a row of a new key
pub record Holds {R T V : Type 0} (format : Format R T) (keys : Keys R T V) (table : T) (row : R) : Type 0 where
  pub more : T
  pub added : format.added table row ≡ Some more
  pub held : (other : R) → keys.held more other ≡ cond (keys.same other row) (Some (keys.record_of row)) (keys.held table other)

-- what a format has to do with its keys
pub record KeepsKeys {R T V : Type 0} (format : Format R T) (keys : Keys R T V) : Type 0 where
  pub empty : (row : R) → keys.held format.empty row ≡ None
  pub fresh : (table : T) (row : R) → keys.held table row ≡ None → Holds format keys table row
  pub repeated : (table : T) (row : R) (v : V) → keys.held table row ≡ Some v → format.added table row ≡ None
  pub alike : (a b x : R) → keys.same a b ≡ true → keys.same a x ≡ keys.same b x

pub find-alike : {R : Type 0} (p q : R → Bool) → ((x : R) → p x ≡ q x) → (xs : List R) → find p xs ≡ find q xs
find-alike p q h [] = refl
find-alike p q h (x ∷ xs) = rw (h x, find-alike p q h xs) refl

pub or_none : {X : Type 0} (o : Option X) → option_or o None ≡ o
or_none None = refl
or_none (Some x) = refl

-- after a row of a new key the table holds one row more
holds_more : {R T V : Type 0} (format : Format R T) (keys : Keys R T V) → KeepsKeys format keys → (table : T) (done : List R) (row : R) → HoldsEach keys table done
    → find (keys.same row) done ≡ None → (holds : Holds format keys table row) → HoldsEach keys holds.more (done ++ row ∷ [])
holds_more format keys keeps table done row says new holds other = holds.held other ∙ by (keys.same other row) refl ∙ ap (option_map keys.record_of) (sym (find-append (keys.same other) done (row ∷ [])))
  where
    by : (b : Bool) → keys.same other row ≡ b
        → cond b (Some (keys.record_of row)) (keys.held table other) ≡ option_map keys.record_of (option_or (find (keys.same other) done) (cond (keys.same other row) (Some row) None))
    by true is = rw (is, find-alike (keys.same other) (keys.same row) (λ x. keeps.alike other row x is) done, new) refl
    by false is = rw is (says other ∙ ap (option_map keys.record_of) (sym (or_none (find (keys.same other) done))))

keeps_each : {R T V : Type 0} (format : Format R T) (keys : Keys R T V) → KeepsKeys format keys → Keeps format keys.same (HoldsEach keys)
keeps_each format keys keeps = record {
  empty = keeps.empty;
  fresh = λ table done row says new.
      let holds = keeps.fresh table row (says row ∙ ap (option_map keys.record_of) new) in
      record { more = holds.more; added = holds.added; says = holds_more format keys keeps table done row says new holds };
  repeated = λ table done row earlier says there. keeps.repeated table row (keys.record_of earlier) (says row ∙ ap (option_map keys.record_of) there);
}

-- the group with an item of a new key
pub record Grows {I G V : Type 0} (grouping : Grouping I G) (keys : Keys I G V) (group : G) (item : I) : Type 0 where
  pub more : G
  pub grown : grouping.more group item ≡ Some more
  pub held : (other : I) → keys.held more other ≡ cond (keys.same other item) (Some (keys.record_of item)) (keys.held group other)

-- what a grouping has to do with the keys of its items
pub record KeepsItems {I G V : Type 0} (grouping : Grouping I G) (keys : Keys I G V) : Type 0 where
  pub first : (item other : I) → keys.held (grouping.first item) other ≡ cond (keys.same other item) (Some (keys.record_of item)) None
  pub fresh : (group : G) (item : I) → keys.held group item ≡ None → Grows grouping keys group item
  pub repeated : (group : G) (item : I) (v : V) → keys.held group item ≡ Some v → grouping.more group item ≡ None
  pub alike : (a b x : I) → keys.same a b ≡ true → keys.same a x ≡ keys.same b x

pub both_true : (a b : Bool) → a && b ≡ true → (a ≡ true) × (b ≡ true)
both_true true b h = (refl, h)
both_true false b h = cc h

pub one_text : (a b : Text) → bytes_eq a b ≡ true → a ≡ b
one_text a b is = one_key text_cmp text_cmp-IsAntisymmetric a b (is_eq-slice_cmp a b ∙ is)

-- what is held after an insert under an id
held_insert : {I G V : Type 0} (keys : Keys I G V) (groups : ByText G) (id : Text) (group : G) (other : Row I)
    → (row_keys keys).held (insert groups id group) other ≡ cond (bytes_eq other.id id) (keys.held group other.item) ((row_keys keys).held groups other)
held_insert keys groups id group other =
    ap (option_and_then (λ g. keys.held g other.item)) (get-insert nat_list_cmp_total groups id group other.id)
    ∙ by (eq_by_cmp text_cmp other.id id)
    ∙ ap (λ b. cond b (keys.held group other.item) ((row_keys keys).held groups other)) (is_eq-slice_cmp other.id id)
  where
    by : (b : Bool) → option_and_then (λ g. keys.held g other.item) (cond b (Some group) (get groups other.id)) ≡ cond b (keys.held group other.item) ((row_keys keys).held groups other)
    by true = refl
    by false = refl

-- a group that an item was added to, put back under its id
held_more : {I G V : Type 0} (keys : Keys I G V) (groups : ByText G) (row : Row I) (group : G)
    → ((other : I) → keys.held group other ≡ cond (keys.same other row.item) (Some (keys.record_of row.item)) (option_and_then (λ g. keys.held g other) (get groups row.id)))
    → (other : Row I) → (row_keys keys).held (insert groups row.id group) other ≡ cond ((row_keys keys).same other row) (Some (keys.record_of row.item)) ((row_keys keys).held groups other)
held_more keys groups row group holds other = held_insert keys groups row.id group other ∙ by (bytes_eq other.id row.id) refl
  where
    by : (b : Bool) → bytes_eq other.id row.id ≡ b
        → cond b (keys.held group other.item) ((row_keys keys).held groups other) ≡ cond (b && keys.same other.item row.item) (Some (keys.record_of row.item)) ((row_keys keys).held groups other)
    by true is = holds other.item ∙ ap (λ id. cond (keys.same other.item row.item) (Some (keys.record_of row.item)) (option_and_then (λ g. keys.held g other.item) (get groups id))) (sym (one_text other.id row.id is))
    by false is = refl

-- rows that are put under their ids
pub keyed_by_id : {I G V : Type 0} (source : File) (row_of : Cells → Result (Row I) CellFault) (grouping : Grouping I G) (keys : Keys I G V) → KeepsItems grouping keys
    → KeepsKeys (by_id source row_of grouping) (row_keys keys)
keyed_by_id {I} {G} {V} source row_of grouping keys keeps = record {
  empty = λ row. ap (option_and_then (λ g. keys.held g row.item)) (get-empty text_cmp row.id);
  fresh = λ groups row free. fresh groups row (get groups row.id) refl free;
  repeated = λ groups row v there. repeated groups row v (get groups row.id) refl there;
  alike = λ a b x same. let parts = both_true (bytes_eq a.id b.id) (keys.same a.item b.item) same in
      rw (one_text a.id b.id parts.0, keeps.alike a.item b.item x.item parts.1) refl;
}
  where
    fresh : (groups : ByText G) (row : Row I) (o : Option G) → get groups row.id ≡ o → option_and_then (λ g. keys.held g row.item) o ≡ None
        → Holds (by_id source row_of grouping) (row_keys keys) groups row
    fresh groups row None is free = record {
      more = insert groups row.id (grouping.first row.item);
      added = rw is refl;
      held = held_more keys groups row (grouping.first row.item) (λ other. rw is (keeps.first row.item other));
    }
    fresh groups row (Some group) is free =
        let grows = keeps.fresh group row.item free in
        record {
          more = insert groups row.id grows.more;
          added = rw is (rw grows.grown refl);
          held = held_more keys groups row grows.more (λ other. rw is (grows.held other));
        }

    repeated : (groups : ByText G) (row : Row I) (v : V) (o : Option G) → get groups row.id ≡ o → option_and_then (λ g. keys.held g row.item) o ≡ Some v
        → put_under grouping groups row.id row.item ≡ None
    repeated groups row v None is there = cc there
    repeated groups row v (Some group) is there = rw is (rw (keeps.repeated group row.item v there) refl)

-- the table holds under each key what the rows say
pub keeps_by_id : {I G V : Type 0} (source : File) (row_of : Cells → Result (Row I) CellFault) (grouping : Grouping I G) (keys : Keys I G V) → KeepsItems grouping keys
    → Keeps (by_id source row_of grouping) (row_keys keys).same (HoldsEach (row_keys keys))
keeps_by_id source row_of grouping keys keeps = keeps_each (by_id source row_of grouping) (row_keys keys) (keyed_by_id source row_of grouping keys keeps)

-- an id has one row
pub keeps_only : {I : Type 0} → KeepsItems {I = I} only only_key
keeps_only = record {
  first = λ item other. refl;
  fresh = λ group item free. cc free;
  repeated = λ group item v there. refl;
  alike = λ a b x same. refl;
}

-- a service has one exception on each day
pub keeps_days : KeepsItems exceptions day_key
keeps_days = record {
  first = λ item other. get-insert int_cmp_total empty item.day.number item.added other.day.number ∙ ap (cond (eq_by_cmp int_cmp other.day.number item.day.number) (Some item.added)) (get-empty int_cmp other.day.number);
  fresh = λ days item free. record {
    more = insert days item.day.number item.added;
    grown = rw free refl;
    held = λ other. get-insert int_cmp_total days item.day.number item.added other.day.number;
  };
  repeated = λ days item v there. rw there refl;
  alike = λ a b x same. ap (λ n. int_eq n x.day.number) (one_key int_cmp int_cmp-IsAntisymmetric a.day.number b.day.number same);
}

-- what is listed under an id, and then one item more
listed_more : {I : Type 0} (groups : ByText (List I)) (id : Text) (item : I) → put_under listing groups id item ≡ Some (insert groups id (unwrap_or (get groups id) [] ++ item ∷ []))
listed_more groups id item = by (get groups id)
  where
    by : (o : Option _) → option_map (insert groups id) (grown listing o item) ≡ Some (insert groups id (unwrap_or o [] ++ item ∷ []))
    by None = refl
    by (Some items) = refl

-- rows without a key are listed under their ids
pub keeps_lists : {I : Type 0} (source : File) (row_of : Cells → Result (Row I) CellFault) → Keeps (by_id source row_of listing) never_same ListsEach
keeps_lists {I} source row_of = record {
  empty = λ id. ap (λ o. unwrap_or o []) (get-empty text_cmp id);
  fresh = λ groups done row says new. record {
    more = insert groups row.id (unwrap_or (get groups row.id) [] ++ row.item ∷ []);
    added = listed_more groups row.id row.item;
    says = λ id. says_more groups done row id says;
  };
  repeated = λ groups done row earlier says there. cc (sym (never_found done) ∙ there);
}
  where
    never_found : (rows : List (Row I)) → find (λ r. false) rows ≡ None
    never_found [] = refl
    never_found (r ∷ rs) = never_found rs

    says_more : (groups : ByText (List I)) (done : List (Row I)) (row : Row I) (id : Text) → ListsEach groups done
        → unwrap_or (get (insert groups row.id (unwrap_or (get groups row.id) [] ++ row.item ∷ [])) id) [] ≡ map (λ r. r.item) (filter (λ r. bytes_eq id r.id) (done ++ row ∷ []))
    says_more groups done row id says =
        ap (λ o. unwrap_or o []) (get-insert nat_list_cmp_total groups row.id (unwrap_or (get groups row.id) [] ++ row.item ∷ []) id)
        ∙ ap (λ b. unwrap_or (cond b (Some (unwrap_or (get groups row.id) [] ++ row.item ∷ [])) (get groups id)) []) (is_eq-slice_cmp id row.id)
        ∙ by (bytes_eq id row.id) refl
        ∙ ap (map (λ r. r.item)) (sym (filter-append (λ r. bytes_eq id r.id) done (row ∷ [])))
      where
        by : (b : Bool) → bytes_eq id row.id ≡ b → unwrap_or (cond b (Some (unwrap_or (get groups row.id) [] ++ row.item ∷ [])) (get groups id)) []
            ≡ map (λ r. r.item) (filter (λ r. bytes_eq id r.id) done ++ filter (λ r. bytes_eq id r.id) (row ∷ []))
        by true is = rw is (
            ap (λ q. unwrap_or (get groups q) [] ++ row.item ∷ []) (sym (one_text id row.id is))
            ∙ ap (λ items. items ++ row.item ∷ []) (says id)
            ∙ sym (map-append (λ r. r.item) (filter (λ r. bytes_eq id r.id) done) (row ∷ [])))
        by false is = rw is (says id ∙ ap (map (λ r. r.item)) (sym (append-nil (filter (λ r. bytes_eq id r.id) done))))
