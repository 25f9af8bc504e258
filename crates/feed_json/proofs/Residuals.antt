-- A fault that `?` hands on.
use Rattle.std.proofs.Common.{◌≡◌, ◌≢◌, Result, Ok, Err}
use Rattle.std.specs.Result.{IsErr, IsErrAnd}
use Rattle.feed_json.specs.declared.json_fault.JsonFault.{JsonFault}
use Rattle.feed_json.specs.declared.json_fault.JsonFault.TheVariants.{Memory}
use Rattle.feed_json.specs.Reads.{Reads}

pub handed_on : {T A : Type 0} (value : T → A) (expected : Result A JsonFault) (r : Result T JsonFault) (e : JsonFault) → IsErr r
    × IsErrAnd r (λ y. y ≡ e) → (e ≢ Memory → expected ≡ Err e) → Reads value expected r
handed_on value expected (Ok x) e h f = cc h.0
handed_on value expected (Err y) e h f = λ other. rw h.1 (f (rw h.1 at other))
