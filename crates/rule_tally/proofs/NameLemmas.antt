-- Names with marks.
use Rattle.std.proofs.Common.{◌≡◌, Bool, List, [], ◌∷◌, cond, length, String, string_bytes, string_cmp, refl, sym, ap, ◌∙◌}
use Rattle.std.specs.BTreeMap.{insert_entry}
use Rattle.std.specs.List.{count_by, filter}
use Rattle.std.specs.Map.{values_of}
use Rattle.std.specs.Ordering.{match_ordering}
use Rattle.std.specs.declared.alloc.Global.{Global}
use Rattle.std.specs.declared.cmp.Ordering.{Ordering}
use Rattle.std.specs.declared.cmp.Ordering.TheVariants.{Equal, Greater, Less}
use Rattle.std.proofs.lemmas.List.Sums.{length-filter, sum_by-cons}
use Rattle.rule_tally.specs.Names.{by_text, is_marked, with_mark}

-- an entry goes in by the bytes of its key
inserted : (es : List (String Global × Bool)) (e : String Global × Bool) (k : String Global) (v : Bool) (o : Ordering)
    → by_text (insert_entry string_cmp es k v) ≡ with_mark (by_text es) (string_bytes k) v
    → by_text (match_ordering o ((k, v) ∷ e ∷ es) ((e.0, v) ∷ es) (e ∷ insert_entry string_cmp es k v))
    ≡ match_ordering o ((string_bytes k, v) ∷ by_text (e ∷ es)) ((string_bytes e.0, v) ∷ by_text es) ((string_bytes e.0, e.1) ∷ with_mark (by_text es) (string_bytes k) v)
inserted es e k v Less h = refl
inserted es e k v Equal h = refl
inserted es e k v Greater h = ap (λ rest. (string_bytes e.0, e.1) ∷ rest) h

pub by_text-insert : (es : List (String Global × Bool)) (k : String Global) (v : Bool) → by_text (insert_entry string_cmp es k v) ≡ with_mark (by_text es) (string_bytes k) v
by_text-insert [] k v = refl
by_text-insert (e ∷ es) k v = inserted es e k v (string_cmp k e.0) (by_text-insert es k v)

-- the marks among the values
marks_counted : (es : List (String Global × Bool)) → count_by (λ mark. mark) (values_of es) ≡ count_by is_marked (by_text es)
marks_counted [] = refl
marks_counted (e ∷ es) =
    let rest = marks_counted es in
    sum_by-cons (λ (mark : Bool). cond mark 1 0) e.1 (values_of es) ∙ rw rest (sym (sum_by-cons (λ entry. cond (is_marked entry) 1 0) (string_bytes e.0, e.1) (by_text es)))

pub marks-length : (es : List (String Global × Bool)) → length (filter (λ mark. mark) (values_of es)) ≡ count_by is_marked (by_text es)
marks-length es = length-filter (λ mark. mark) (values_of es) ∙ marks_counted es
