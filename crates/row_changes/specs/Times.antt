-- Timestamps as they are held in an entity.
use Rattle.std.specs.Prelude.{ℕ, ◌==◌, Bool, false, ◌||◌, Option, Some, None}
use Rattle.rule_table.specs.declared.key.EntityKey.{EntityKey}
use Rattle.history_rules.specs.Stamps.{Stamp, stamp_of, same_stamp}
use Rattle.row_changes.specs.declared.stamps.Times.{Times}

abbrev pub is_at : ℕ → Option ℕ → Bool
is_at n None = false
is_at n (Some m) = m == n

abbrev pub are_given : Times → ℕ → Bool
are_given times n = is_at n times.update || is_at n times.vehicle

-- whether a stamp is that of a timestamp that may be given, under a key
abbrev pub is_stamp : EntityKey → Option ℕ → Stamp → Bool
is_stamp key None s = false
is_stamp key (Some n) s = same_stamp (stamp_of key.feed n key) s
