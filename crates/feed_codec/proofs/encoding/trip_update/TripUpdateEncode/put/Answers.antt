use Rattle.std.proofs.Common.{arith}
use Rattle.std.proofs.lemmas.Grind.{common_steps}
use Rattle.feed_codec.proofs.encoding.trip_update.TripUpdateEncode.put.Goals as goal

pub returns : goal.returns
returns c = grind (arith, common_steps, c.in_ok-put_in.ensures, c.in_ok-put_in-2.ensures, c.in_ok-put_in-3.ensures, c.in_ok-put_in-4.ensures, c.in_ok-put_in-5.ensures, c.in_ok-put_in-6.ensures, c.put_unknown.ensures)
