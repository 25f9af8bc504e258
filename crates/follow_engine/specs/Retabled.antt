-- What another timetable changes after a history, and the entities that are judged again for it.
pub use Rattle.exchanged_timetables.specs.Retabled.{OpensAndCloses}
pub use Rattle.exchanged_timetables.specs.Touched.{AreKeysOf, FindAlikeBeside}
