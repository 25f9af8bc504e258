-- The lines of alerts, as JSON values. (JSON lines: each is the compact text of an object, its keys in byte order, and a line feed.
-- This profile.)
use Rattle.std.specs.Prelude.{ℕ, List, Option, Some, None, codes}
use Rattle.serde_json.specs.Data.{Data, null, string, object, member, no_members}
use Rattle.rule_table.specs.declared.key.EntityKey.{EntityKey}
use Rattle.snapshot_lines.specs.Lines.{count, line_of}

-- an alert, by the key of its entity
abbrev pub alert : EntityKey → Data
alert key = object
    (member (codes "feed") (count key.feed)
    (member (codes "id") (string key.id)
    (member (codes "line") (string (codes "alert"))
    (member (codes "occurrence") (count key.occurrence) no_members))))

abbrev pub alert_text : EntityKey → List ℕ
alert_text key = line_of (alert key)

-- a moment, or null where there is none
abbrev pub next_data : Option ℕ → Data
next_data None = null
next_data (Some moment) = count moment

-- the line that sums up: how many alerts are in force, and the next moment at which that can change
abbrev pub sum : ℕ → Option ℕ → Data
sum n next = object
    (member (codes "alerts") (count n)
    (member (codes "line") (string (codes "alerts"))
    (member (codes "next") (next_data next) no_members)))
