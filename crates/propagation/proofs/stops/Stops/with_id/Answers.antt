use Rattle.std.proofs.Common.{bytes_eq, sym}
use Rattle.std.specs.HashMap.{get_by}
use Rattle.propagation.specs.Stops.{stops_in}
use Rattle.propagation.proofs.StopLemmas.{absent, gone}
use Rattle.propagation.proofs.stops.Stops.with_id.Goals as goal

pub returns-else-last-from : goal.returns-else-last-from
returns-else-last-from c =
    gone c.args.id.now (stops_in c.args.self.now) (λ id. get_by (λ k. bytes_eq id k.now) c.args.last.now) c.args.from c.in-Some.last.now c.requires
    (sym c.in-Some.ensures.value) c.if-last-from.false

pub returns-in-None : goal.returns-in-None
returns-in-None c =
    absent c.args.id.now (stops_in c.args.self.now) (λ id. get_by (λ k. bytes_eq id k.now) c.args.last.now) c.args.from c.requires (sym c.in-None.ensures.value)
