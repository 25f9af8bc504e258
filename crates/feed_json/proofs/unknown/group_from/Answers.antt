use Rattle.std.proofs.Common.{◌≡◌, true, false, refl, sym, ◌∙◌}
use Rattle.feed_json.specs.Unform.{is_whole}
use Rattle.feed_json.proofs.Groups.{by_whole}
use Rattle.feed_json.proofs.unknown.group_from.Goals as goal

pub returns-then-is_whole-clause-read : goal.returns-then-is_whole-clause-read
returns-then-is_whole-clause-read c =
    let whole : is_whole c.in_ok-group.group ≡ true = sym (by_whole c.in_ok-group.group c.is_whole.result c.in_ok-group.ensures.fits (rw c.as_slice.ensures at c.is_whole.ensures)) ∙ c.if-is_whole.true in
    rw (c.in_ok-group.ensures.read, whole) refl

pub returns-else-is_whole-clause-read : goal.returns-else-is_whole-clause-read
returns-else-is_whole-clause-read c =
    let whole : is_whole c.in_ok-group.group ≡ false = sym (by_whole c.in_ok-group.group c.is_whole.result c.in_ok-group.ensures.fits (rw c.as_slice.ensures at c.is_whole.ensures)) ∙ c.if-is_whole.false in
    λ other. rw (c.in_ok-group.ensures.read, whole, c.out_of_range.ensures) refl
