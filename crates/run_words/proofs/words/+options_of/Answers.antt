use Rattle.std.proofs.Common.{◌∙◌, sym, ap, string_bytes, Some}
use Rattle.std.proofs.lemmas.Result.{IfOk-weaker}
use Rattle.feed_list.specs.Values.{is_path}
use Rattle.run_words.specs.Words.{with_option}
use Rattle.run_words.proofs.Requests.{next_option, no_option}
use Rattle.run_words.proofs.words.+options_of.Goals as goal

pub returns-in-Some : goal.returns-in-Some
returns-in-Some t c = IfOk-weaker c.options_of.result _ _
    (λ found. next_option c.args.command c.args.words.now c.name-item.result c.value-item.result c.args.options (Some c.in-Some.options) found c.in-len2-up.len_at_least
    c.name-item.is c.value-item.is
    (ap is_path (sym c.as_str.ensures.value) ∙ sym c.is_path.ensures ∙ c.if-is_path.false)
    (sym c.in-Some.is ∙ c.in_ok-options-in-len2-up.ensures
    ∙ ap (λ name. with_option c.args.options name c.as_str-in-len2-up-2.result.now) c.as_str-in-len2-up.ensures.value
    ∙ ap (λ value. with_option c.args.options (string_bytes c.name-item.result) value) c.as_str-in-len2-up-2.ensures.value))
    c.options_of.ensures

pub returns-in_default : goal.returns-in_default
returns-in_default t c = IfOk-weaker c.asked_of.result _ _ (λ found. no_option c.args.command c.args.options c.args.words.now found c.in_default.len_below) c.asked_of.ensures
