use Rattle.std.proofs.Common.{◌∙◌}
use Rattle.trial_feed.proofs.Held.{all_held}
use Rattle.trial_feed.proofs.Rows.{trips_are, stop_times_are}
use Rattle.trial_feed.proofs.files.timetable_files.Goals as goal

pub returns : goal.returns
returns c =
    all_held _ _ _ _ _ _ _ _ c.new-files.ensures
    (stop_times_are _ (c.as_bytes.ensures.value ∙ c.as_str.ensures.value ∙ c.in_ok-stop_times.ensures))
    (trips_are _ (c.as_bytes-2.ensures.value ∙ c.as_str-2.ensures.value ∙ c.in_ok-trips.ensures))
    c.in_ok-add.ensures.ok c.in_ok-add-2.ensures.ok c.in_ok-add-3.ensures.ok c.in_ok-add-4.ensures.ok c.in_ok-add-5.ensures.ok
