-- What the tree of a finding says is the finding.
use Rattle.std.proofs.Common.{◌≡◌, ◌<◌, ◌^◌, ℕ, pos, negsuc, List, [], ◌∷◌, map, Option, Some, None, true, refl, ap, ◌∙◌, arith}
use Rattle.std.specs.Prelude.{option_map, option_and_then}
use Rattle.serde_json.specs.Data.{string}
use Rattle.serde_json.specs.Find.{as_str}
use Rattle.serde_json.specs.View.{items_of}
use Rattle.feed_values.specs.declared.cell_value.CellValue.{CellValue}
use Rattle.feed_values.specs.declared.cell_value.CellValue.TheVariants as value
use Rattle.rule_table.specs.declared.fact.Fact.{Fact}
use Rattle.rule_table.specs.declared.place.Place.{Place}
use Rattle.rule_table.specs.declared.place.Place.TheVariants as place
use Rattle.rule_table.specs.Asked.{in_range}
use Rattle.rule_table.specs.Found.{Found}
use Rattle.finding_names.specs.Asks.{ask_of}
use Rattle.finding_names.specs.AskNames.{ask_name_of}
use Rattle.finding_names.specs.Laws.{IsAskWithin}
use Rattle.finding_names.proofs.AskLemmas.{ask_read_back, head_read}
use Rattle.finding_names.proofs.NameLemmas.{rule_read}
use Rattle.finding_names.proofs.PathLemmas.{path_read}
use Rattle.finding_names.proofs.NumberLemmas.{fits}
use Rattle.rt_report.specs.declared.finding.LineKind.{LineKind}
use Rattle.rt_report.specs.declared.finding.LineKind.TheVariants as line
use Rattle.rt_report.specs.Findings.{ask_keys, ask_name, cell_data, fact_data, finding_at, finding_data, line_name}
use Rattle.report_verify.specs.declared.said.Said.{Said}
use Rattle.report_verify.specs.Said.{all_of, answered, bounded, cell_of, fact_of, kind_named, said_of}
use Rattle.report_verify.specs.Verdicts.{AreFactsWithin, IsPlaceWithin, IsWithin}

-- ---- facts
cell_said : (v : CellValue) → cell_of (cell_data v) ≡ Some v
cell_said value.Missing = refl
cell_said (value.Number (pos n)) = refl
cell_said (value.Number (negsuc n)) = refl
cell_said (value.Text text) = refl

texts_said : (ts : List (List ℕ)) → all_of as_str (items_of (map string ts)) ≡ Some ts
texts_said [] = refl
texts_said (t ∷ ts) = rw (texts_said ts) refl

grouped : {A B C : Type 0} (f : A → Option B) (g : B → Option C) (o : Option A) → option_and_then (λ x. option_and_then g (f x)) o ≡ option_and_then g (option_and_then f o)
grouped f g None = refl
grouped f g (Some x) = refl

within_bounds : (v : CellValue) → in_range v ≡ true → bounded v ≡ Some v
within_bounds v h = rw h refl

fact_said : (f : Fact) → IsAskWithin f.ask → in_range f.value ≡ true → fact_of (fact_data f) ≡ Some f
fact_said f within h =
    let keys = ask_keys f.ask in
    let d = fact_data f in
    ap (λ o. option_and_then (λ n. option_and_then (λ ks. option_and_then (answered d) (ask_of n ks)) o) (ask_name_of (ask_name f.ask))) (texts_said keys)
    ∙ grouped (λ n. ask_of n keys) (answered d) (ask_name_of (ask_name f.ask))
    ∙ ap (option_and_then (answered d)) (ask_read_back f.ask within)
    ∙ ap (λ o. option_map (λ v. let g : Fact = record { ask = f.ask; value = v } in g) (option_and_then bounded o)) (cell_said f.value)
    ∙ ap (λ o. option_map (λ v. let g : Fact = record { ask = f.ask; value = v } in g) o) (within_bounds f.value h)

facts_said : (fs : List Fact) → AreFactsWithin fs → all_of fact_of (items_of (map fact_data fs)) ≡ Some fs
facts_said [] h = refl
facts_said (f ∷ fs) h = rw (fact_said f h.0.0 h.0.1, facts_said fs h.1) refl

-- ---- a finding

kind_said : (kind : LineKind) → kind_named (line_name kind) ≡ Some kind
kind_said line.Finding = refl
kind_said line.Opened = refl

abbrev pub said_with : LineKind → Found → ℕ → Place → Said
said_with kind f since at = record { kind = kind; rule = f.rule; place = at; facts = f.facts; since = since }

said_at_place : (kind : LineKind) (f : Found) (since : ℕ) (at : Place) → IsPlaceWithin at → AreFactsWithin f.facts → since < 2 ^ 64 → said_of (finding_at kind f since at) ≡ Some (said_with kind f since at)
said_at_place kind f since (place.Head feed slot) h facts small =
    rw (kind_said kind, rule_read f.rule, fits since (2 ^ 64) small, fits feed (2 ^ 64) (omega (arith, h)), fits feed (2 ^ 8) h, head_read slot, facts_said f.facts facts) refl
said_at_place kind f since (place.Entity key path) h facts small =
    rw (kind_said kind, rule_read f.rule, fits since (2 ^ 64) small, fits key.feed (2 ^ 64) (omega (arith, h.0)), fits key.feed (2 ^ 8) h.0, path_read path h.2, fits key.occurrence (2 ^ 64) (omega (arith, h.1)), fits key.occurrence (2 ^ 32) h.1, facts_said f.facts facts) refl

pub finding_said : (kind : LineKind) (f : Found) (since : ℕ) → IsWithin f since → said_of (finding_data kind f since) ≡ Some (said_with kind f since f.place)
finding_said kind f since h = said_at_place kind f since f.place h.place h.facts h.number
