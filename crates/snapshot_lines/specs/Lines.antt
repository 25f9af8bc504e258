-- The lines of snapshots, as JSON values. (JSON lines: each is the compact text of an object, its keys in byte order, and a line
-- feed. This profile.)
use Rattle.std.specs.Prelude.{ℕ, List, [], ◌∷◌, ◌++◌, codes}
use Rattle.serde_json.specs.Data.{Data, number, unsigned, string, object, member, no_members}
use Rattle.serde_json.specs.Written.{compact_text}
use Rattle.feed_values.specs.declared.required.Required.TheVariants as required
use Rattle.feed_codec.specs.declared.refusal.Refusal.{Refusal}
use Rattle.feed_codec.specs.declared.refusal.Reason.{Reason}
use Rattle.feed_codec.specs.declared.refusal.Reason.TheVariants as reason
use Rattle.snapshot_lines.specs.declared.exchange.Exchanged.{Exchanged}
use Rattle.snapshot_lines.specs.declared.snapshot.Accepted.{Accepted}
use Rattle.snapshot_lines.specs.declared.trial.TrialSums.{TrialSums}

-- a value as a line
abbrev pub line_of : Data → List ℕ
line_of d = compact_text d ++ 10 ∷ []

abbrev pub count : ℕ → Data
count n = number (unsigned n)

-- ---- a snapshot
-- accepted: its feed, file, number and moment, its entities, and how many were judged anew
abbrev pub accepted : Accepted → Data
accepted it = object
    (member (codes "bounded") (count it.bounded)
    (member (codes "entities") (count it.entities)
    (member (codes "feed") (count it.feed)
    (member (codes "line") (string (codes "accepted"))
    (member (codes "moment") (count it.moment)
    (member (codes "paired") (count it.paired)
    (member (codes "peaked") (count it.peaked)
    (member (codes "row") (count it.row)
    (member (codes "snapshot") (count it.snapshot)
    (member (codes "tested") (count it.tested) no_members))))))))))

-- a reason by its name
abbrev pub reason_name : Reason → List ℕ
reason_name reason.Truncated = codes "Truncated"
reason_name reason.VarintTooLong = codes "VarintTooLong"
reason_name reason.BadTag = codes "BadTag"
reason_name reason.BadWireType = codes "BadWireType"
reason_name reason.Overrun = codes "Overrun"
reason_name reason.LoneEndGroup = codes "LoneEndGroup"
reason_name reason.GroupMismatch = codes "GroupMismatch"
reason_name reason.TooDeep = codes "TooDeep"
reason_name reason.NotText = codes "NotText"
reason_name (reason.MissingField required.Header) = codes "MissingField(header)"
reason_name (reason.MissingField required.Version) = codes "MissingField(version)"
reason_name (reason.MissingField required.Id) = codes "MissingField(id)"
reason_name (reason.MissingField required.Trip) = codes "MissingField(trip)"
reason_name (reason.MissingField required.Latitude) = codes "MissingField(latitude)"
reason_name (reason.MissingField required.Longitude) = codes "MissingField(longitude)"
reason_name (reason.MissingField required.Text) = codes "MissingField(text)"
reason_name reason.Differential = codes "Differential"
reason_name reason.TooLarge = codes "TooLarge"
reason_name reason.NoFile = codes "NoFile"

-- refused: its file, and the place and the reason of its first fault
abbrev pub refused : ℕ → Refusal → Data
refused row refusal = object
    (member (codes "at") (count refusal.at)
    (member (codes "line") (string (codes "refused"))
    (member (codes "reason") (string (reason_name refusal.reason))
    (member (codes "row") (count row) no_members))))

-- ---- a timetable that takes the place of another
-- accepted: its row, the entities that stand then, and how many of these were tested again
abbrev pub exchanged : Exchanged → Data
exchanged it = object
    (member (codes "entities") (count it.entities)
    (member (codes "line") (string (codes "timetable"))
    (member (codes "retested") (count it.retested)
    (member (codes "row") (count it.row) no_members))))

-- refused: its row, and why
abbrev pub refused_timetable : ℕ → List ℕ → Data
refused_timetable row why = object
    (member (codes "line") (string (codes "refused_timetable"))
    (member (codes "row") (count row)
    (member (codes "text") (string why) no_members)))

-- ---- the trial
-- its snapshots, the findings that stand after them, and of all snapshots together: what they opened and closed, and how many
-- entities were judged anew
abbrev pub trial : TrialSums → Data
trial sums = object
    (member (codes "bounded") (count sums.bounded)
    (member (codes "closed") (count sums.closed)
    (member (codes "findings") (count sums.findings)
    (member (codes "line") (string (codes "trial"))
    (member (codes "opened") (count sums.opened)
    (member (codes "paired") (count sums.paired)
    (member (codes "peaked") (count sums.peaked)
    (member (codes "snapshots") (count sums.snapshots)
    (member (codes "tested") (count sums.tested) no_members)))))))))
