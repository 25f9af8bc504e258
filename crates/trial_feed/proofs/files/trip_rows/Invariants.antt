use Rattle.std.proofs.Common.{◌≡◌, ◌++◌, string_bytes}
use Rattle.trial_feed.specs.Files.{line_of, trip_rows}
use Rattle.trial_feed.proofs.files.trip_rows.Given as goal

abbrev pub invariant-loop-k : goal.invariant-loop-k
invariant-loop-k l = string_bytes l.text ≡ line_of l.header ++ trip_rows l.before l.after l.k
