use Rattle.std.proofs.Common.{arith}
use Rattle.field_pieces.proofs.FrontSteps as steps
use Rattle.field_pieces.proofs.reading_on.read_on.Goals as goal

pub read_group_on-requires-in-Some-start_tag-clause-front : goal.read_group_on-requires-in-Some-start_tag-clause-front
read_group_on-requires-in-Some-start_tag-clause-front c =
    rw (c.enter.ensures.outer, c.enter.ensures.number, c.enter.ensures.at)
    (steps.enters c.args.bytes.now c.args.start c.in-Some-start_tag.tag (omega (arith, c.requires.start)) c.in-Some-start_tag.ensures.reads c.in-Some-start_tag.ensures.wire)
