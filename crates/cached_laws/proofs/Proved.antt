-- The laws.
use Rattle.cached_laws.specs.Laws.{JudgedIsChange, JudgedIsOwed, KeysAreCounted, TouchedCanPass}
use Rattle.cached_laws.proofs.Change.{is_change}
use Rattle.cached_laws.proofs.Counts.{bounded_size, fresh_size, paired_size, peaked_size, tested_size}
use Rattle.cached_laws.proofs.Next.{is_cached, is_next, is_state}
use Rattle.cached_laws.proofs.Passable.{can_pass}

pub judged_is_owed : JudgedIsOwed
judged_is_owed t n state s rows local paired bounded peaked mid at last before after judged = record {
  next = is_next t n state s at.is_state at.taken at.fits at.cached rows at.alike local paired bounded peaked at.touched mid at.into last before after judged;
  is_state = is_state t n state s at.is_state at.taken at.fits at.cached rows at.alike local paired bounded peaked at.touched mid at.into last before after judged;
  cached = is_cached t n state s at.is_state at.taken at.fits at.cached rows at.alike local paired bounded peaked at.touched mid at.into last before after judged;
}

pub judged_is_change : JudgedIsChange
judged_is_change t n state s rows local paired bounded peaked mid at last before after judged told ordered =
    is_change t n state s at.is_state at.taken at.fits at.cached rows at.alike local paired bounded peaked at.touched mid at.into last before after judged told ordered

pub touched_can_pass : TouchedCanPass
touched_can_pass t state s is taken fits cached local paired bounded peaked touched first placed = can_pass t state s is taken fits cached local paired bounded peaked touched first placed

pub keys_are_counted : KeysAreCounted
keys_are_counted t n state s is taken fits cached local paired bounded peaked touched = record {
  fresh_are = fresh_size state s is fits;
  local_are = tested_size state s is fits local touched.local_are;
  paired_are = paired_size state s is fits paired touched.paired_are t n;
  bounded_are = bounded_size state s is fits taken t n cached bounded touched.bounded_are;
  peaked_are = peaked_size state s is fits taken peaked touched.peaked_are t n;
}
