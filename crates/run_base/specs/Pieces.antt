-- What was read of a snapshot that comes in pieces.
use Rattle.std.specs.Prelude.{◌≡◌, ℕ, ◌<◌, ◌⊎◌, List, ◌++◌, length}
use Rattle.feed_values.specs.Accepted.{snapshot_limit}
use Rattle.feed_stream.specs.Sofar.{Sofar}
use Rattle.feed_stream.specs.Came.{Came}

-- all that was left of the file; or a front of it that is more than a snapshot may be
abbrev pub TellsPieces : List ℕ → List ℕ → Type 0
TellsPieces rest pieces = (rest ≡ pieces) ⊎ ((more : List ℕ) × (rest ≡ pieces ++ more) × (snapshot_limit < length pieces))

-- a splitter to which pieces came that tell so much
abbrev pub TellsCame : List ℕ → Sofar → Type 0
TellsCame rest splitter = (pieces : List ℕ) × Came pieces splitter × TellsPieces rest pieces
