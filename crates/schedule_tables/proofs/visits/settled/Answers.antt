use Rattle.std.proofs.Common.{◌≡◌, ◌++◌, ◌∷◌, ◌∙◌, ap, rules, sym, string_eq}
use Rattle.indexmap.specs.IndexMap.{insert_entry}
use Rattle.schedule_tables.proofs.MapLemmas.{moved_over}
use Rattle.schedule_tables.proofs.visits.settled.Goals as goal

pub loop-id-preserved-in_ok-insert : goal.loop-id-preserved-in_ok-insert
loop-id-preserved-in_ok-insert c =
    let id = c.in-Some.id in
    let rest = c.next.new.self in
    let old = c.loop-id.settled in
    let more : c.loop-id.id-iterator ≡ (id, c.in-Some.rows) ∷ rest = search rules in
    moved_over old c.insert.new.self c.args.trips.entries rest id c.in-Some.rows c.into_iter-id-iterator.ensures.into_iter_gives.4
    (ap (λ left. old.entries ++ left) (sym more) ∙ c.loop-id.invariant)
    (c.in_ok-insert.ensures.entries ∙ ap (insert_entry string_eq old.entries id) c.in_ok-times.ensures)

pub loop-id-preserved : goal.loop-id-preserved
loop-id-preserved c =
    let id = c.in-Some.id in
    let rest = c.next.new.self in
    let old = c.loop-id.settled in
    let more : c.loop-id.id-iterator ≡ (id, c.in-Some.rows) ∷ rest = search rules in
    moved_over old c.insert.new.self c.args.trips.entries rest id c.in-Some.rows c.into_iter-id-iterator.ensures.into_iter_gives.4
    (ap (λ left. old.entries ++ left) (sym more) ∙ c.loop-id.invariant)
    (c.in_ok-insert.ensures.entries ∙ ap (insert_entry string_eq old.entries id) c.in_ok-times.ensures)
