-- What is printed of a finding is read back as the same tree.
use Rattle.std.proofs.Common.{◌≡◌, ◌≤◌, ◌<◌, inl, inr, true, int_le, ◌^◌, ℕ, max, ℤ, pos, negsuc, List, [], ◌∷◌, ◌++◌, map, Option, Some, refl, sym, ap, ◌∙◌, subst, arith, append-nil}
use Rattle.std.specs.Prelude.{option_map, option_and_then}
use Rattle.std.specs.Fmt.{digits}
use Rattle.json.specs.Token.{Token}
use Rattle.json.specs.Lex.{tokens}
use Rattle.json.specs.Json as json
use Rattle.json.specs.Print.{IsNumber}
use Rattle.json.specs.Tree as tree
use Rattle.json.specs.Tree.{json_tokens, HasNumbers, ItemsHaveNumbers, MembersHaveNumbers}
use Rattle.json.specs.Word.{after_number}
use Rattle.json.proofs.Printed.Decimals.{IsNumber-decimal, IsNumber-signed_decimal}
use Rattle.json.proofs.Printed.Tokens.{tokens-print}
use Rattle.json.proofs.Printed.Trees.{value-json_tokens, ArePrintable-json_tokens}
use Rattle.serde_json.specs.Data.{Data, number, string, array, item}
use Rattle.serde_json.specs.Find.{of_integer}
use Rattle.serde_json.specs.Read.{of_json, of_items, read, max_depth}
use Rattle.serde_json.specs.View.{items_of}
use Rattle.serde_json.specs.Written.{compact_text, number_text, outline, items_outline}
use Rattle.serde_json.proofs.Numbers.{number_of-decimal, number_of-negative}
use Rattle.serde_json.proofs.Texts.{print-outline}
use Rattle.std.proofs.Math.Nat.{eq-or-lt_of_le}
use Rattle.std.proofs.lemmas.Bool.{and_parts, leb-true}
use Rattle.feed_values.specs.declared.cell_value.CellValue.{CellValue}
use Rattle.feed_values.specs.declared.cell_value.CellValue.TheVariants as value
use Rattle.rule_table.specs.declared.fact.Fact.{Fact}
use Rattle.rule_table.specs.declared.place.Place.{Place}
use Rattle.rule_table.specs.declared.place.Place.TheVariants as place
use Rattle.rule_table.specs.Asked.{in_range}
use Rattle.rule_table.specs.Found.{Found}
use Rattle.rule_table.specs.Rules.{level, rule_name}
use Rattle.feed_values.specs.Cells.{path_text}
use Rattle.snapshot_lines.specs.Lines.{count}
use Rattle.rt_report.specs.declared.finding.LineKind.{LineKind}
use Rattle.rt_report.specs.Findings.{ask_keys, cell_data, entity_finding, fact_data, facts_data, finding_at, finding_data, line_name, texts_data}
use Rattle.rt_report.specs.Tokens.{head_finding}
use Rattle.report_verify.specs.Verdicts.{AreFactsWithin, IsPlaceWithin, IsWithin}

-- a value whose outline is read as it
pub record IsReadBack (d : Data) (most : ℕ) : Type 0 where
  pub numbers : HasNumbers (outline d)
  pub back : of_json (outline d) ≡ Some d
  pub shallow : tree.depth (outline d) ≤ most

whole : Option (json.Json × List Token) → Option Data
whole o = option_and_then of_json (option_and_then (λ p. json.if_last p.0 p.1) o)

pub text_read : (d : Data) → IsReadBack d max_depth → read (compact_text d) ≡ Some d
unfolding whole
text_read d h =
    let ts = json_tokens (outline d) in
    let same : tokens (compact_text d) ≡ ts ++ [] = ap tokens (sym (print-outline d)) ∙ tokens-print ts (ArePrintable-json_tokens (outline d) h.numbers) ∙ sym (append-nil ts) in
    ap whole (ap (json.value max_depth) same ∙ value-json_tokens (outline d) max_depth [] h.shallow) ∙ h.back

pub count_back : (n : ℕ) → n < 2 ^ 64 → IsReadBack (count n) 0
count_back n h = record { numbers = IsNumber-decimal n h; back = ap (option_map number) (number_of-decimal n h); shallow = omega arith }

lowest : IsNumber (number_text (of_integer (negsuc 9223372036854775807)))
unfolding after_number digits
lowest = refl

le_most : (n : ℕ) → n < 2 ^ 63 → n ≤ 9223372036854775807
le_most n h = omega arith

negative_number : (n : ℕ) → n < 2 ^ 63 → IsNumber (number_text (of_integer (negsuc n)))
negative_number n h = elim (eq-or-lt_of_le (le_most n h)) [ inl e ↦ subst (λ m. IsNumber (number_text (of_integer (negsuc m)))) (sym e) lowest | inr l ↦ IsNumber-signed_decimal (negsuc n) (omega arith) ]

pos_bound : (n : ℕ) → in_range (value.Number (pos n)) ≡ true → n < 2 ^ 64
pos_bound n h = let most : n ≤ 18446744073709551615 = leb-true _ _ (and_parts (int_le (negsuc 9223372036854775807) (pos n)) (int_le (pos n) (pos 18446744073709551615)) h).1 in omega arith

neg_bound : (n : ℕ) → in_range (value.Number (negsuc n)) ≡ true → n < 2 ^ 63
neg_bound n h = let most : n ≤ 9223372036854775807 = leb-true _ _ (and_parts (int_le (negsuc 9223372036854775807) (negsuc n)) (int_le (negsuc n) (pos 18446744073709551615)) h).0 in omega arith

-- a number from -2^63 to 2^64 - 1
pub integer_back : (z : ℤ) → in_range (value.Number z) ≡ true → IsReadBack (number (of_integer z)) 0
integer_back (pos n) h = count_back n (pos_bound n h)
integer_back (negsuc n) h = record { numbers = negative_number n (neg_bound n h); back = ap (option_map number) (number_of-negative n (neg_bound n h)); shallow = omega arith }

-- ---- texts
string_items : (ts : List (List ℕ)) → ItemsHaveNumbers (items_outline (items_of (map string ts)))
string_items [] = tt
string_items (t ∷ ts) = (tt, string_items ts)

string_back : (ts : List (List ℕ)) → of_items (items_outline (items_of (map string ts))) ≡ Some (items_of (map string ts))
string_back [] = refl
string_back (t ∷ ts) = ap (option_map (item (string t))) (string_back ts)

string_depth : (ts : List (List ℕ)) → tree.items_depth (items_outline (items_of (map string ts))) ≡ 0
string_depth [] = refl
string_depth (t ∷ ts) = ap (max 0) (string_depth ts)

pub texts_back : (ts : List (List ℕ)) → IsReadBack (texts_data ts) 1
texts_back ts = record { numbers = string_items ts; back = ap (option_map array) (string_back ts); shallow = omega (arith, string_depth ts) }

-- ---- facts
cell_back : (v : CellValue) → in_range v ≡ true → IsReadBack (cell_data v) 0
cell_back value.Missing h = record { numbers = tt; back = refl; shallow = omega arith }
cell_back (value.Number z) h = integer_back z h
cell_back (value.Text text) h = record { numbers = tt; back = refl; shallow = omega arith }

fact_back : (f : Fact) → in_range f.value ≡ true → IsReadBack (fact_data f) 2
fact_back f h =
    let keys = texts_back (ask_keys f.ask) in
    let cell = cell_back f.value h in
    record { numbers = (tt, (keys.numbers, (cell.numbers, tt))); back = rw (keys.back, cell.back) refl; shallow = omega (arith, keys.shallow, cell.shallow) }

fact_items : (fs : List Fact) → AreFactsWithin fs → ItemsHaveNumbers (items_outline (items_of (map fact_data fs)))
fact_items [] h = tt
fact_items (f ∷ fs) h = ((fact_back f h.0.1).numbers, fact_items fs h.1)

fact_items_back : (fs : List Fact) → AreFactsWithin fs → of_items (items_outline (items_of (map fact_data fs))) ≡ Some (items_of (map fact_data fs))
fact_items_back [] h = refl
fact_items_back (f ∷ fs) h = rw ((fact_back f h.0.1).back, fact_items_back fs h.1) refl

fact_depth : (fs : List Fact) → AreFactsWithin fs → tree.items_depth (items_outline (items_of (map fact_data fs))) ≤ 2
fact_depth [] h = omega arith
fact_depth (f ∷ fs) h = omega (arith, (fact_back f h.0.1).shallow, fact_depth fs h.1)

facts_back : (fs : List Fact) → AreFactsWithin fs → IsReadBack (facts_data fs) 3
facts_back fs h = record { numbers = fact_items fs h; back = ap (option_map array) (fact_items_back fs h); shallow = omega (arith, fact_depth fs h) }

-- ---- a finding
pub entity_back : (facts : Data) (feed : ℕ) (id weight name : List ℕ) (occurrence : ℕ) (path rule : List ℕ) (since : ℕ) → feed < 2 ^ 64 → occurrence < 2 ^ 64 → since < 2 ^ 64 → IsReadBack facts 3
    → IsReadBack (entity_finding facts feed id weight name occurrence path rule since) max_depth
entity_back facts feed id weight name occurrence path rule since f o s h =
    let number_f = number_of-decimal feed f in
    let number_o = number_of-decimal occurrence o in
    let number_s = number_of-decimal since s in
    record {
      numbers = (h.numbers, ((count_back feed f).numbers, (tt, (tt, (tt, ((count_back occurrence o).numbers, (tt, (tt, ((count_back since s).numbers, tt)))))))));
      back = rw (h.back, number_f, number_o, number_s) refl;
      shallow = omega (arith, h.shallow);
    }

pub head_back : (facts : Data) (feed : ℕ) (weight name path rule : List ℕ) (since : ℕ) → feed < 2 ^ 64 → since < 2 ^ 64 → IsReadBack facts 3
    → IsReadBack (head_finding facts feed weight name path rule since) max_depth
head_back facts feed weight name path rule since f s h =
    let number_f = number_of-decimal feed f in
    let number_s = number_of-decimal since s in
    record {
      numbers = (h.numbers, ((count_back feed f).numbers, (tt, (tt, (tt, (tt, ((count_back since s).numbers, tt)))))));
      back = rw (h.back, number_f, number_s) refl;
      shallow = omega (arith, h.shallow);
    }

finding_back : (kind : LineKind) (f : Found) (since : ℕ) (at : Place) → IsPlaceWithin at → AreFactsWithin f.facts → since < 2 ^ 64 → IsReadBack (finding_at kind f since at) max_depth
finding_back kind f since (place.Head feed slot) h facts small =
    head_back (facts_data f.facts) feed (level f.rule) (line_name kind) (path_text slot 0) (rule_name f.rule) since (omega (arith, h)) small (facts_back f.facts facts)
finding_back kind f since (place.Entity key path) h facts small =
    entity_back (facts_data f.facts) key.feed key.id (level f.rule) (line_name kind) key.occurrence (path_text path.slot path.index) (rule_name f.rule) since (omega (arith, h.0)) (omega (arith, h.1)) small (facts_back f.facts facts)

-- the text of a finding is read as its tree
pub finding_read : (kind : LineKind) (f : Found) (since : ℕ) → IsWithin f since → read (compact_text (finding_data kind f since)) ≡ Some (finding_data kind f since)
finding_read kind f since h = text_read (finding_data kind f since) (finding_back kind f since f.place h.place h.facts h.number)
