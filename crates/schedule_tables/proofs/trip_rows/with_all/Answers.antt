use Rattle.std.proofs.Common.{◌≡◌, ◌∷◌, ◌++◌, ◌∙◌, rules, subst}
use Rattle.std.specs.Vec.Iter.{into_iter_items}
use Rattle.schedule_tables.specs.Times.{AreRising, by_sequence, keyed}
use Rattle.schedule_tables.proofs.RowLemmas.{later_rising, moved_over, still_keyed}
use Rattle.schedule_tables.proofs.trip_rows.with_all.Goals as goal

pub loop-time-preserved : goal.loop-time-preserved
loop-time-preserved c =
    let time = c.in-Some.time in
    let rest = into_iter_items c.next.new.self in
    let more : into_iter_items c.loop-time.time-iterator ≡ time ∷ rest = search rules in
    let rising = subst AreRising more c.loop-time.invariant.rising in
    let old = subst (λ ts. by_sequence (keyed ts ++ c.loop-time.late.entries) ≡ by_sequence (keyed c.args.rising.items ++ c.args.late.entries)) more c.loop-time.invariant.whole in
    record {
      whole = moved_over rest c.loop-time.late.entries c.insert.new.self.entries time rising c.in_ok-insert.ensures.entries ∙ old;
      rising = later_rising time rest rising;
      keyed = still_keyed c.loop-time.late.entries c.insert.new.self.entries time c.loop-time.invariant.keyed c.in_ok-insert.ensures.entries;
    }
