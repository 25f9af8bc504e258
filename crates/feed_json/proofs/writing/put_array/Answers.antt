use Rattle.std.proofs.Common.{◌≡◌, ◌<◌, Some, ap, sym, ◌∙◌, length, arith}
use Rattle.std.proofs.lemmas.Bool.Decides.{nat_tests}
use Rattle.std.proofs.lemmas.Result.{on_ok_weaker}
use Rattle.serde_json.specs.View.{view, members_view}
use Rattle.serde_json.proofs.Views.{view-Array}
use Rattle.feed_json.specs.Form.{with_member}
use Rattle.feed_json.proofs.Members.{is_array, no_array}
use Rattle.feed_json.proofs.writing.put_array.Goals as goal

pub returns-then-is_empty : goal.returns-then-is_empty
returns-then-is_empty c =
    let none : length c.args.items.items ≡ 0 = grind (arith, nat_tests, c.is_empty.ensures, c.if-is_empty.true) in
    ap (λ o. with_member c.args.key.now o (members_view c.args.members.now.entries)) (sym (no_array view c.args.items.items none))

pub returns : goal.returns
returns c =
    let some : 0 < length c.args.items.items = grind (arith, nat_tests, c.is_empty.ensures, c.if-is_empty.false) in
    on_ok_weaker c.put.result
    (λ put. put ∙ ap (λ o. with_member c.args.key.now o (members_view c.args.members.now.entries))
    (ap Some (view-Array c.args.items) ∙ sym (is_array view c.args.items.items some)))
    c.put.ensures.ok
