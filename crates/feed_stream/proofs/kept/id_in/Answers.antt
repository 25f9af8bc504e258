use Rattle.std.proofs.Common.{◌≡◌, ℕ, List, Some, sym, ap, subst, ◌∙◌, arith, option_copied}
use Rattle.std.specs.Str.{IsUtf8}
use Rattle.feed_stream.proofs.Ids.{id_found, never}
use Rattle.feed_stream.proofs.kept.id_in.Goals as goal

pub unreachable-requires : goal.unreachable-requires
unreachable-requires c =
    let d = id_found c.args.entity.now (λ i. omega (arith, c.type_inv.entity i)) c.requires in
    never d.id (sym (ap option_copied c.in_default.is) ∙ c.last_payload.ensures ∙ d.last)

pub unreachable-requires-in-Err : goal.unreachable-requires-in-Err
unreachable-requires-in-Err c =
    let d = id_found c.args.entity.now (λ i. omega (arith, c.type_inv.entity i)) c.requires in
    let found : Some d.id ≡ Some c.in-Some.id.now = sym (sym (ap option_copied c.in-Some.is) ∙ c.last_payload.ensures ∙ d.last) in
    let same : d.id ≡ c.in-Some.id.now = cc in
    let cases = rw c.in-Err.is at c.from_utf8.ensures.cases in
    cases.0 (subst (λ (b : List ℕ). IsUtf8 b) same d.text)

pub returns-clause-id : goal.returns-clause-id
returns-clause-id c =
    let d = id_found c.args.entity.now (λ i. omega (arith, c.type_inv.entity i)) c.requires in
    let found : Some d.id ≡ Some c.in-Some.id.now = sym (sym (ap option_copied c.in-Some.is) ∙ c.last_payload.ensures ∙ d.last) in
    let same : d.id ≡ c.in-Some.id.now = cc in
    let cases = rw c.in-Ok.is at c.from_utf8.ensures.cases in
    cases.0 ∙ sym same ∙ d.value
