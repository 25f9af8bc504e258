use Rattle.std.proofs.Common.{◌≡◌, ◌≤◌, length, take}
use Rattle.snapshot_steps.proofs.touching.copied.Given as goal

abbrev pub invariant-loop-key : goal.invariant-loop-key
invariant-loop-key l = (l.keys ≡ take l.key-index l.some) × (l.key-index ≤ length l.some)
