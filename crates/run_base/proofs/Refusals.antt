-- A file past the limit holds a refused snapshot.
use Rattle.std.proofs.Common.{◌≡◌, ℕ, ◌<◌, List, length, nat_lt, true, refl, ap, Some, None, arith, IfSome, IsSomeAnd, Err}
use Rattle.std.specs.declared.option.Option.{Option}
use Rattle.std.specs.FinMap.{get}
use Rattle.std.proofs.lemmas.Bool.Decides.{nat_tests}
use Rattle.rt_outside.specs.Store.{Contents}
use Rattle.rt_outside.specs.Read.{TellsWhole}
use Rattle.rt_outside.specs.declared.read_end.ReadEnd.TheVariants as end
use Rattle.feed_values.specs.Accepted.{snapshot_limit}
use Rattle.feed_codec.specs.declared.refusal.Reason.TheVariants.{TooLarge}
use Rattle.feed_codec.specs.Refusal.{refusal, refused}
use Rattle.run_base.specs.Found.{snapshot_in, decoded}

past : (n : ℕ) → snapshot_limit < n → nat_lt snapshot_limit n ≡ true
past n l = grind (arith, nat_tests)

pub large_refusal : (bytes : List ℕ) → snapshot_limit < length bytes → refusal bytes ≡ Some (refused snapshot_limit TooLarge)
unfolding refusal
large_refusal bytes l = rw (past (length bytes) l) refl

large : (held : Option (List ℕ)) → IsSomeAnd held (λ bytes. snapshot_limit < length bytes) → snapshot_in held ≡ Err (refused snapshot_limit TooLarge)
large None l = absurd l
large (Some bytes) l = ap (decoded bytes) (large_refusal bytes l)

-- bytes past the limit are refused
pub large_snapshot : (told : Option Contents) (file : List ℕ) → IfSome told (λ held. TellsWhole held file snapshot_limit (Err end.TooLarge)) →
    IfSome told (λ held. snapshot_in (get held file) ≡ Err (refused snapshot_limit TooLarge))
large_snapshot None file l = tt
large_snapshot (Some held) file l = large (get held file) l
