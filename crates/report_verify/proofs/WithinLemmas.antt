-- What is read of a tree is within bounds.
use Rattle.std.proofs.Common.{◌≡◌, ◌<◌, ◌^◌, ℕ, List, [], ◌∷◌, Bool, true, false, cond, Option, Some, None, IfSome, codes, refl, subst}
use Rattle.std.specs.List.{list_all}
use Rattle.std.specs.Prelude.{option_map, option_and_then, is_none}
use Rattle.serde_json.specs.Data.{Data, Items, no_items, item}
use Rattle.serde_json.specs.Find.{as_array, as_number, as_u64, get}
use Rattle.feed_values.specs.declared.cell_value.CellValue.{CellValue}
use Rattle.feed_values.specs.declared.path.Path.{Path}
use Rattle.rule_table.specs.declared.ask.Ask.{Ask}
use Rattle.rule_table.specs.declared.fact.Fact.{Fact}
use Rattle.rule_table.specs.declared.place.Place.{Place}
use Rattle.rule_table.specs.declared.place.Place.TheVariants as place
use Rattle.rule_table.specs.declared.rule.RuleId.{RuleId}
use Rattle.rule_table.specs.Asked.{in_range}
use Rattle.rt_words.specs.Numbers.{below}
use Rattle.finding_names.specs.Asks.{ask_of}
use Rattle.finding_names.specs.AskNames.{ask_name_of}
use Rattle.finding_names.specs.Laws.{IsAskWithin, IsPathWithin}
use Rattle.finding_names.specs.Paths.{path_named}
use Rattle.finding_names.proofs.WithinLemmas.{ask_within, below_within, if_all, if_map, if_then, path_within}
use Rattle.rt_report.specs.declared.finding.LineKind.{LineKind}
use Rattle.report_verify.specs.declared.said.Said.{Said}
use Rattle.report_verify.specs.Said.{all_of, answered, at_entity, bounded, cell_at, cell_of, count_at, fact_of, facts_at, feed_at, found_of, kind_at, occurrence_at, path_at, place_of, placed, rule_at, said_at, said_of, text_at, texts_at}
use Rattle.report_verify.specs.Verdicts.{AreFactsWithin, IsPlaceWithin, IsWithin}

-- where what is there says nothing
if_any : {A : Type 0} (o : Option A) → IfSome o (λ _. Unit {0})
if_any None = tt
if_any (Some x) = tt

-- ---- numbers
count_within : (key : List ℕ) (d : Data) → IfSome (count_at key d) (λ n. n < 2 ^ 64)
count_within key d =
    let o = option_and_then as_u64 (option_and_then as_number (get key d)) in
    if_then (λ n. n < 2 ^ 64) (λ _. Unit {0}) (below (2 ^ 64)) o (λ n _. below_within (2 ^ 64) n) (if_any o)

feed_within : (d : Data) → IfSome (feed_at d) (λ n. n < 2 ^ 8)
feed_within d = if_then (λ n. n < 2 ^ 8) (λ _. Unit {0}) (below (2 ^ 8)) (count_at (codes "feed") d) (λ n _. below_within (2 ^ 8) n) (if_any (count_at (codes "feed") d))

occurrence_within : (d : Data) → IfSome (occurrence_at d) (λ n. n < 2 ^ 32)
occurrence_within d =
    if_then (λ n. n < 2 ^ 32) (λ _. Unit {0}) (below (2 ^ 32)) (count_at (codes "occurrence") d) (λ n _. below_within (2 ^ 32) n) (if_any (count_at (codes "occurrence") d))

path_at_within : (d : Data) → IfSome (path_at d) IsPathWithin
path_at_within d = if_then IsPathWithin (λ _. Unit {0}) path_named (text_at (codes "path") d) (λ text _. path_within text) (if_any (text_at (codes "path") d))

-- ---- a place
placed_within : (feed : ℕ) (path : Path) (d : Data) → feed < 2 ^ 8 → IsPathWithin path → IfSome (placed feed path d) IsPlaceWithin
placed_within feed path d small within = by (is_none (get (codes "id") d))
  where
    at : (n : ℕ) → n < 2 ^ 32 → IfSome (at_entity feed path d n) IsPlaceWithin
    at n h =
        if_map IsPlaceWithin (λ id. place.Entity (record { feed = feed; id = id; occurrence = n }) path) (text_at (codes "id") d)
        (if_all (λ id. IsPlaceWithin (place.Entity (record { feed = feed; id = id; occurrence = n }) path)) (text_at (codes "id") d) (λ id. (small, h, within)))

    by : (b : Bool) → IfSome (cond b (Some (place.Head feed path.slot)) (option_and_then (at_entity feed path d) (occurrence_at d))) IsPlaceWithin
    by true = small
    by false = if_then IsPlaceWithin (λ n. n < 2 ^ 32) (at_entity feed path d) (occurrence_at d) at (occurrence_within d)

place_within : (d : Data) → IfSome (place_of d) IsPlaceWithin
place_within d =
    if_then IsPlaceWithin (λ n. n < 2 ^ 8) (λ feed. option_and_then (λ path. placed feed path d) (path_at d)) (feed_at d)
    (λ feed small. if_then IsPlaceWithin IsPathWithin (λ path. placed feed path d) (path_at d) (λ path within. placed_within feed path d small within) (path_at_within d))
    (feed_within d)

-- ---- facts
bounded_within : (v : CellValue) → IfSome (bounded v) (λ w. in_range w ≡ true)
bounded_within v = by (in_range v) refl
  where
    by : (b : Bool) → in_range v ≡ b → IfSome (cond b (Some v) None) (λ w. in_range w ≡ true)
    by true e = e
    by false e = tt

cell_within : (d : Data) → IfSome (cell_at d) (λ v. in_range v ≡ true)
cell_within d =
    let o = option_and_then cell_of (get (codes "value") d) in
    if_then (λ v. in_range v ≡ true) (λ _. Unit {0}) bounded o (λ v _. bounded_within v) (if_any o)

abbrev IsFactWithin : Fact → Type 0
IsFactWithin f = IsAskWithin f.ask × (in_range f.value ≡ true)

answered_within : (d : Data) (a : Ask) → IsAskWithin a → IfSome (answered d a) IsFactWithin
answered_within d a h = if_map IsFactWithin (λ v. record { ask = a; value = v }) (cell_at d) (weaker (cell_at d) (cell_within d))
  where
    weaker : (o : Option CellValue) → IfSome o (λ v. in_range v ≡ true) → IfSome o (λ v. IsFactWithin (record { ask = a; value = v }))
    weaker None k = tt
    weaker (Some v) k = (h, k)

fact_within : (d : Data) → IfSome (fact_of d) IsFactWithin
fact_within d =
    if_then IsFactWithin (λ _. Unit {0}) (λ n. option_and_then (λ keys. option_and_then (answered d) (ask_of n keys)) (texts_at d)) (option_and_then ask_name_of (text_at (codes "ask") d))
    (λ n _. if_then IsFactWithin (λ _. Unit {0}) (λ keys. option_and_then (answered d) (ask_of n keys)) (texts_at d)
    (λ keys _. if_then IsFactWithin IsAskWithin (answered d) (ask_of n keys) (λ a h. answered_within d a h) (ask_within n keys)) (if_any (texts_at d)))
    (if_any (option_and_then ask_name_of (text_at (codes "ask") d)))

all_within : (ds : Items) → IfSome (all_of fact_of ds) AreFactsWithin
all_within no_items = tt
all_within (item d ds) =
    if_then AreFactsWithin IsFactWithin (λ f. option_map (λ rest. f ∷ rest) (all_of fact_of ds)) (fact_of d) (λ f h. more f h (all_of fact_of ds) (all_within ds)) (fact_within d)
  where
    more : (f : Fact) → IsFactWithin f → (o : Option (List Fact)) → IfSome o AreFactsWithin → IfSome (option_map (λ rest. f ∷ rest) o) AreFactsWithin
    more f h None k = tt
    more f h (Some fs) k = (h, k)

pub facts_within : (d : Data) → IfSome (facts_at d) AreFactsWithin
facts_within d =
    let o = option_and_then as_array (get (codes "facts") d) in
    if_then AreFactsWithin (λ _. Unit {0}) (all_of fact_of) o (λ ds _. all_within ds) (if_any o)

-- ---- a finding
abbrev IsSaidWithin : Said → Type 0
IsSaidWithin said = IsWithin (found_of said) said.since

said_at_within : (kind : LineKind) (rule : RuleId) (since : ℕ) (d : Data) (at : Place) → since < 2 ^ 64 → IsPlaceWithin at → IfSome (said_at kind rule since d at) IsSaidWithin
said_at_within kind rule since d at small within =
    if_map IsSaidWithin (λ facts. record { kind = kind; rule = rule; place = at; facts = facts; since = since }) (facts_at d) (weaker (facts_at d) (facts_within d))
  where
    weaker : (o : Option (List Fact)) → IfSome o AreFactsWithin → IfSome o (λ facts. IsSaidWithin (record { kind = kind; rule = rule; place = at; facts = facts; since = since }))
    weaker None k = tt
    weaker (Some facts) k = record { place = within; facts = k; number = small }

pub said_within : (d : Data) → IfSome (said_of d) (λ said. IsWithin (found_of said) said.since)
said_within d =
    if_then IsSaidWithin (λ _. Unit {0}) (λ kind. option_and_then (λ rule. option_and_then (λ since. option_and_then (said_at kind rule since d) (place_of d)) (count_at (codes "since") d)) (rule_at d)) (kind_at d)
    (λ kind _. if_then IsSaidWithin (λ _. Unit {0}) (λ rule. option_and_then (λ since. option_and_then (said_at kind rule since d) (place_of d)) (count_at (codes "since") d)) (rule_at d)
    (λ rule _. if_then IsSaidWithin (λ n. n < 2 ^ 64) (λ since. option_and_then (said_at kind rule since d) (place_of d)) (count_at (codes "since") d)
    (λ since small. if_then IsSaidWithin IsPlaceWithin (said_at kind rule since d) (place_of d) (λ at within. said_at_within kind rule since d at small within) (place_within d))
    (count_within (codes "since") d)) (if_any (rule_at d))) (if_any (kind_at d))

facts_in_range : (fs : List Fact) → AreFactsWithin fs → list_all (λ f. in_range f.value) fs ≡ true
facts_in_range [] h = refl
facts_in_range (f ∷ fs) h = rw (h.0.1, facts_in_range fs h.1) refl

-- so what was said can be printed again
pub said_in_range : (d : Data) (said : Said) → said_of d ≡ Some said → list_all (λ f. in_range f.value) said.facts ≡ true
said_in_range d said e =
    let P : Option Said → Type 0 = λ o. IfSome o IsSaidWithin in
    let within : IsSaidWithin said = subst P e (said_within d) in
    facts_in_range said.facts within.facts
