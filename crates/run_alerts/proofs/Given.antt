-- What is written, and the timetable that isn't given.
use Rattle.std.proofs.Common.{◌≡◌, ◌++◌, ℕ, false, List, [], None, Some, length, ap, ◌∙◌, if◌then◌else◌}
use Rattle.std.specs.declared.option.Option.{Option}
use Rattle.std.specs.List.{flat_map}
use Rattle.rule_table.specs.declared.key.EntityKey.{EntityKey}
use Rattle.timetable.specs.declared.timetable.Timetable.{Timetable}
use Rattle.timetable.specs.Lookups.{is_present, tables_in}
use Rattle.rule_history.specs.Answered.{tables_of}
use Rattle.alert_terms.specs.declared.query.Query.{Query}
use Rattle.alert_terms.specs.InForce.{KeyedEntity, Terms, alerts_in, in_force, next_change}
use Rattle.snapshot_lines.specs.Lines.{line_of}
use Rattle.json.specs.Print.{print}
use Rattle.json.specs.Written.{Written}
use Rattle.serde_json.specs.Data.{Data}
use Rattle.serde_json.specs.Written.{compact_text}
use Rattle.serde_json.proofs.Texts.{print-outline}
use Rattle.rt_report.specs.Tokens.{Adds, tokens_of}
use Rattle.run_alerts.specs.Alerts.{alerts_text}
use Rattle.run_alerts.specs.Lines.{alert_text, sum}

-- a value's tokens, in a writer that began with a text and no token, are its text behind that
pub text_behind : (d : Data) (first second : Written) (text bytes : List ℕ) → first.before ≡ text → first.tokens ≡ [] → Adds first second (tokens_of d) → bytes ≡ second.before ++ print second.tokens → bytes ≡ text ++ compact_text d
text_behind d first second text bytes before tokens adds is =
    is ∙ ap (λ b. b ++ print second.tokens) (adds.before_is ∙ before) ∙ ap (λ ts. text ++ print ts) (adds.tokens_are ∙ ap (λ ts. ts ++ tokens_of d) tokens) ∙ ap (λ t. text ++ t) (print-outline d)

-- the lines of the alerts of a view that are in force, and their sum
pub text_is : (moment : ℕ) (query : Query) (entities : List KeyedEntity) (view : List Terms) (found keys : List EntityKey) (count : ℕ) (next : Option ℕ) (lines text : List ℕ) → view ≡ alerts_in entities →
    found ≡ in_force moment query view → keys ≡ found → count ≡ length keys → lines ≡ flat_map alert_text keys → next ≡ next_change moment view → text ≡ lines ++ line_of (sum count next) →
    text ≡ alerts_text moment query entities
text_is moment query entities view found keys count next lines text held all are counted told following is =
    is ∙ ap (λ l. l ++ line_of (sum count next)) told
    ∙ ap (λ n. flat_map alert_text keys ++ line_of (sum n next)) counted
    ∙ ap (λ n. flat_map alert_text keys ++ line_of (sum (length keys) n)) following
    ∙ ap (λ ks. flat_map alert_text ks ++ line_of (sum (length ks) (next_change moment view))) (are ∙ all)
    ∙ ap (λ v. flat_map alert_text (in_force moment query v) ++ line_of (sum (length (in_force moment query v)) (next_change moment v))) held

-- a timetable that isn't given
pub absent_tables : (table : Timetable) → is_present table ≡ false → tables_of table ≡ None
absent_tables table e = ap (λ b. if b then Some (tables_in table) else None) e
