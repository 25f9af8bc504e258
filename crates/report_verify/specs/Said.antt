-- What a JSON tree says of a finding, where it has the members of a finding's line. (This profile.)
use Rattle.std.specs.Prelude.{ℕ, ◌^◌, List, [], ◌∷◌, bytes_eq, codes, Option, Some, None, is_none, option_map, option_and_then, if◌then◌else◌}
use Rattle.serde_json.specs.Data.{Data, null, boolean, number, string, array, object, Items, no_items, item}
use Rattle.serde_json.specs.Find.{as_array, as_integer, as_number, as_str, as_u64, get}
use Rattle.feed_values.specs.declared.cell_value.CellValue.{CellValue}
use Rattle.feed_values.specs.declared.cell_value.CellValue.TheVariants as value
use Rattle.feed_values.specs.declared.path.Path.{Path}
use Rattle.rule_table.specs.declared.ask.Ask.{Ask}
use Rattle.rule_table.specs.declared.fact.Fact.{Fact}
use Rattle.rule_table.specs.declared.place.Place.{Place}
use Rattle.rule_table.specs.declared.place.Place.TheVariants as place
use Rattle.rule_table.specs.declared.rule.RuleId.{RuleId}
use Rattle.rule_table.specs.Asked.{in_range}
use Rattle.rule_table.specs.Found.{Found}
use Rattle.rt_words.specs.Numbers.{below}
use Rattle.finding_names.specs.Asks.{ask_of}
use Rattle.finding_names.specs.AskNames.{ask_name_of}
use Rattle.finding_names.specs.Names.{rule_named}
use Rattle.finding_names.specs.Paths.{path_named}
use Rattle.rt_report.specs.declared.finding.LineKind.{LineKind}
use Rattle.rt_report.specs.declared.finding.LineKind.TheVariants as line
use Rattle.report_verify.specs.declared.said.Said.{Said}

-- ---- members
abbrev pub text_at : List ℕ → Data → Option (List ℕ)
text_at key d = option_and_then as_str (get key d)

-- a whole number of 64 bits
abbrev pub count_at : List ℕ → Data → Option ℕ
count_at key d = option_and_then (below (2 ^ 64)) (option_and_then as_u64 (option_and_then as_number (get key d)))

-- ---- facts
-- nothing, a whole number or a text
abbrev pub cell_of : Data → Option CellValue
cell_of null = Some value.Missing
cell_of (boolean b) = None
cell_of (number n) = option_map value.Number (as_integer n)
cell_of (string text) = Some (value.Text text)
cell_of (array ds) = None
cell_of (object ms) = None

-- within the bounds of all answers
abbrev pub bounded : CellValue → Option CellValue
bounded v = if in_range v then Some v else None

abbrev pub cell_at : Data → Option CellValue
cell_at d = option_and_then bounded (option_and_then cell_of (get (codes "value") d))

-- what all items are
abbrev pub all_of : {A : Type 0} → (Data → Option A) → Items → Option (List A)
all_of read no_items = Some []
all_of read (item d ds) = option_and_then (λ a. option_map (λ rest. a ∷ rest) (all_of read ds)) (read d)

abbrev pub texts_at : Data → Option (List (List ℕ))
texts_at d = option_and_then (all_of as_str) (option_and_then as_array (get (codes "keys") d))

-- an ask and its value
abbrev pub answered : Data → Ask → Option Fact
answered d a = option_map (λ v. record { ask = a; value = v }) (cell_at d)

abbrev pub fact_of : Data → Option Fact
fact_of d = option_and_then (λ n. option_and_then (λ keys. option_and_then (answered d) (ask_of n keys)) (texts_at d)) (option_and_then ask_name_of (text_at (codes "ask") d))

abbrev pub facts_at : Data → Option (List Fact)
facts_at d = option_and_then (all_of fact_of) (option_and_then as_array (get (codes "facts") d))

-- ---- a place
abbrev pub feed_at : Data → Option ℕ
feed_at d = option_and_then (below (2 ^ 8)) (count_at (codes "feed") d)

abbrev pub occurrence_at : Data → Option ℕ
occurrence_at d = option_and_then (below (2 ^ 32)) (count_at (codes "occurrence") d)

abbrev pub path_at : Data → Option Path
path_at d = option_and_then path_named (text_at (codes "path") d)

abbrev pub at_entity : ℕ → Path → Data → ℕ → Option Place
at_entity feed path d occurrence = option_map (λ id. place.Entity (record { feed = feed; id = id; occurrence = occurrence }) path) (text_at (codes "id") d)

-- on a header where there is no id
abbrev pub placed : ℕ → Path → Data → Option Place
placed feed path d = if is_none (get (codes "id") d) then Some (place.Head feed path.slot) else option_and_then (at_entity feed path d) (occurrence_at d)

abbrev pub place_of : Data → Option Place
place_of d = option_and_then (λ feed. option_and_then (λ path. placed feed path d) (path_at d)) (feed_at d)

-- ---- a finding
abbrev pub kind_named : List ℕ → Option LineKind
kind_named text = if bytes_eq text (codes "finding") then Some line.Finding else (if bytes_eq text (codes "opened") then Some line.Opened else None)

abbrev pub kind_at : Data → Option LineKind
kind_at d = option_and_then kind_named (text_at (codes "line") d)

abbrev pub rule_at : Data → Option RuleId
rule_at d = option_and_then rule_named (text_at (codes "rule") d)

abbrev pub said_at : LineKind → RuleId → ℕ → Data → Place → Option Said
said_at kind rule since d at = option_map (λ facts. record { kind = kind; rule = rule; place = at; facts = facts; since = since }) (facts_at d)

abbrev pub said_of : Data → Option Said
said_of d =
    option_and_then (λ kind. option_and_then (λ rule. option_and_then (λ since. option_and_then (said_at kind rule since d) (place_of d)) (count_at (codes "since") d)) (rule_at d)) (kind_at d)

-- without since when
abbrev pub found_of : Said → Found
found_of said = record { rule = said.rule; place = said.place; facts = said.facts }
