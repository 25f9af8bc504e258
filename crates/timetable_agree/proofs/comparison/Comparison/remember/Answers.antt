use Rattle.std.proofs.Common.{Some, cond, bytes_eq, string_bytes, ◌∙◌, ap}
use Rattle.std.specs.BTreeMap.{get_by_text}
use Rattle.std.proofs.lemmas.Map.Text.{btree_map_updates_text}
use Rattle.timetable.specs.Lookups.{tables_in}
use Rattle.timetable_agree.specs.Compared.{AreCompared}
use Rattle.timetable_agree.proofs.Remembered.{after_insert, one_more, unchanged}
use Rattle.timetable_agree.proofs.comparison.Comparison.remember.Goals as goal

pub invariant_of-self : goal.invariant_of-self
invariant_of-self c =
    let self = c.args.self.now in
    let old = tables_in self.before.now in
    let new = tables_in self.after.now in
    let id = c.in_ok-id.id in
    let after = c.insert.new.self in
    record {
      known = after_insert c.insert.result (AreCompared old new (get_by_text after)) c.insert.ensures.updates c.insert.ensures.err
          (λ updates. one_more old new (get_by_text self.compared) (get_by_text after) c.args.id.now c.args.same self.known c.requires (λ other.
          btree_map_updates_text (string_bytes id) self.compared after (Some c.args.same) updates other
          ∙ ap (λ bs. cond (bytes_eq bs other) (Some c.args.same) (get_by_text self.compared other)) c.in_ok-id.ensures.ok))
          (λ same. unchanged old new self.compared after self.known same);
    }
