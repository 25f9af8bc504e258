-- The plain data of an engine.
use Rattle.std.specs.Prelude.{List, [], ◌∷◌, Option}
use Rattle.rule_history.specs.Answered.{tables_of}
use Rattle.rule_history.specs.History.{Snapshot, below, feed_limit}
use Rattle.engine_laws.specs.HeldFeeds.{joined}
use Rattle.engine_laws.specs.Standings.{Held}
use Rattle.history_rules.specs.HeldPeaks.{peak_of}
use Rattle.exchanged_timetables.specs.cached_laws.State.{State, feed_of}
use Rattle.follow_engine.specs.declared.engine.Engine.{Engine}

-- the last snapshots of all feeds
abbrev pub lasts_of : State → List (Option Snapshot)
lasts_of state = below (λ f. (feed_of state f).last ∷ []) feed_limit

-- its timetable, how many snapshots it has taken, the last one of each feed, the peaks of vehicles, and its findings since when they stand
abbrev pub engine_data : Engine → Held
engine_data e = record { table = tables_of e.table; applied = e.applied; last = lasts_of e.feeds; peaks = peak_of e.feeds.peaks; list = joined (feed_of e.feeds) }
