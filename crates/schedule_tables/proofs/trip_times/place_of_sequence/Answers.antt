use Rattle.std.proofs.Common.{rules}
use Rattle.std.proofs.lemmas.List.Sorted.{answers_always}
use Rattle.schedule_tables.proofs.SequenceLemmas.{searched}
use Rattle.schedule_tables.proofs.trip_times.place_of_sequence.Goals as goal

pub returns : goal.returns
returns c =
    let facts = c.binary_search_by_key.ensures in
    let by_key = facts.position (λ t. t.sequence) (answers_always _ _ _ (λ f a r g called. search rules)) in
    searched c.args.times.now c.args.sequence _ c.requires facts.bound by_key
