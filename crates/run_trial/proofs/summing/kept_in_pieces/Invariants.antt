use Rattle.std.proofs.Common.{◌≡◌, ◌<◌, ◌++◌, ℕ, List}
use Rattle.std.specs.Slice.Iter.{chunks_rest, chunks_size}
use Rattle.feed_stream.specs.Came.{Came}
use Rattle.run_trial.proofs.summing.kept_in_pieces.Given as goal

-- the pieces so far and what is left are all
abbrev pub invariant-loop-piece : goal.invariant-loop-piece
invariant-loop-piece l = record {
  came : (b : List ℕ) × Came b l.splitter × (b ++ chunks_rest l.piece-iterator ≡ l.bytes);
  some : 0 < chunks_size l.piece-iterator;
}
