-- How much is decoded and tested for the one file that is checked. (This profile.)
use Rattle.std.specs.Prelude.{ℕ, ◌+◌, ◌*◌, List, length, Option, Result, Ok, Err}
use Rattle.feed_codec.specs.declared.refusal.Refusal.{Refusal}
use Rattle.feed_values.specs.Snapshot.{entities_of}
use Rattle.run_base.specs.Counted.{Work, counters, no_work}
use Rattle.run_base.specs.Found.{bytes_in}

-- for entities that are new: each is decoded, and 46 rules are tested there
abbrev pub entities_work : ℕ → Work
entities_work n = counters n (46 * n)

-- for a snapshot that comes first, with so many entities: ten rules are tested on its header besides
abbrev pub first_work : ℕ → Work
first_work n = counters n (10 + 46 * n)

-- for a snapshot that was accepted, and for one that was refused
abbrev pub found_work : Result (List ℕ) Refusal → Work
found_work (Ok bytes) = first_work (length (entities_of bytes))
found_work (Err refusal) = no_work

-- for a file, which holds these bytes or isn't held
abbrev pub snapshot_work : Option (List ℕ) → Work
snapshot_work held = found_work (bytes_in held)
