use Rattle.std.proofs.Common.{◌∙◌, ap}
use Rattle.rule_table.specs.Asked.{ask_value}
use Rattle.rule_table.specs.Parts.{parts_of, same_parts, parts_value}
use Rattle.rule_table.proofs.SameAsks.{is_by_parts}
use Rattle.rule_table.proofs.ask.AskRef.is_ask.Goals as goal

pub returns : goal.returns
returns c =
    let other = c.parts_of-2.ensures ∙ ap parts_of c.borrowed.ensures in
    let parts = ap (same_parts (parts_value c.parts_of.result)) other ∙ ap (λ p. same_parts p (parts_of c.args.ask.now)) c.parts_of.ensures in
    is_by_parts c.are_same.result (ask_value c.args.self) c.args.ask.now (c.are_same.ensures ∙ parts)
