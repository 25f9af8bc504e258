use Rattle.std.proofs.Common.{◌≡◌, Ok, Err, sym, ap, subst, ◌∙◌}
use Rattle.std.specs.Prelude.{◌≢◌, IfErr, IfOk}
use Rattle.std.proofs.lemmas.Result.{err_from_is_err_and}
use Rattle.json.specs.Json as json
use Rattle.json.specs.Value.{members_view, value_view}
use Rattle.serde_json.specs.Read.{of_json, read}
use Rattle.feed_values.specs.Views.{feed_message_value}
use Rattle.feed_values.specs.WellFormed.{IsWellFormedFeed}
use Rattle.feed_json.specs.declared.json_fault.JsonFault.TheVariants.{Memory}
use Rattle.json_entities.specs.declared.text_fault.TextFault.TheVariants.{Message}
use Rattle.json_entities.specs.FromText.{said_by, text_message}
use Rattle.json_entities.proofs.FromText.{fault_handed_on, no_ok, no_text, text_is}
use Rattle.json_entities.proofs.ItemsRead.{object_view}
use Rattle.json_entities.proofs.text_reading.from_text.Goals as goal

pub returns-in_default-clause-err : goal.returns-in_default-clause-err
returns-in_default-clause-err c = λ other. no_text c.args.text.now c.in_default.ensures.cases.0

pub returns-in-Object-clause-ok : goal.returns-in-Object-clause-ok
returns-in-Object-clause-ok c =
    let same = ap read (sym c.in-Ok.ensures.cases.0) ∙ c.in_ok-other.ensures.read ∙ ap (λ v. of_json (value_view v)) c.in-Object.is ∙ ap of_json (object_view c.in-Object.members) in
    subst (λ x. IfOk c.object_from.result (λ message. x ≡ Ok (feed_message_value message)))
    (sym (text_is c.args.text.now (json.object (members_view c.in-Object.members.items)) c.in-Ok.ensures.cases.1 same)) c.object_from.ensures.ok

pub returns-in-Object-clause-err : goal.returns-in-Object-clause-err
returns-in-Object-clause-err c =
    let same = ap read (sym c.in-Ok.ensures.cases.0) ∙ c.in_ok-other.ensures.read ∙ ap (λ v. of_json (value_view v)) c.in-Object.is ∙ ap of_json (object_view c.in-Object.members) in
    subst (λ x. IfErr c.object_from.result (λ e. e ≢ Message Memory → x ≡ Err e))
    (sym (text_is c.args.text.now (json.object (members_view c.in-Object.members.items)) c.in-Ok.ensures.cases.1 same)) c.object_from.ensures.err

pub returns-in_err-from_json-in_default-2 : goal.returns-in_err-from_json-in_default-2
returns-in_err-from_json-in_default-2 c =
    let r = c.from_residual-in_err-from_json-in_default-2.result in
    let p = err_from_is_err_and r c.from_residual-in_err-from_json-in_default-2.ensures.1 in
    record {
      ok = no_ok (λ message. text_message c.args.text.now ≡ Ok (feed_message_value message)) r p.0 p.1;
      well_formed = no_ok (λ message. IsWellFormedFeed (feed_message_value message)) r p.0 p.1;
      err = fault_handed_on r p.0 c.in_err-from_json-in_default-2.field-0.0 _ _ p.1 p.2
          (text_is c.args.text.now (value_view c.in_ok-other.other) c.in-Ok.ensures.cases.1 (ap read (sym c.in-Ok.ensures.cases.0) ∙ c.in_ok-other.ensures.read)
          ∙ ap said_by c.in_ok-tree-in_default-2.ensures.ok)
          c.in_err-from_json-in_default-2.ensures.err;
    }
