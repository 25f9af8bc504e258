-- Standings as they are handed out.
pub use Rattle.exchanged_timetables.specs.held_feeds.Left.{standing_of}
