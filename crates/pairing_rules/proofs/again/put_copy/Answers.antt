use Rattle.pairing_rules.specs.Rows.{pair_row, held_row}
use Rattle.pairing_rules.proofs.Members.{has_more}
use Rattle.pairing_rules.proofs.again.put_copy.Goals as goal

pub returns : goal.returns
returns c = λ r. has_more c.args.index c.in_ok-next.next (pair_row c.in_ok-row.row) (held_row c.args.kind c.args.held.now) r c.in_ok-next.ensures.rows c.in_ok-row.ensures
