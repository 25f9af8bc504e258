use Rattle.std.proofs.Common.{◌≡◌, ◌∙◌, ap, sym, subst, Some}
use Rattle.std.specs.Prelude.{if◌then◌else◌}
use Rattle.rule_history.proofs.Keyed.{each_insert}
use Rattle.rule_table.specs.declared.key.EntityKey.{EntityKey}
use Rattle.rule_table.specs.Groups.{Each}
use Rattle.rule_table.specs.Order.{same_key}
use Rattle.entity_index.specs.Held.{at_key}
use Rattle.entity_index.proofs.Setting.{put_at}
use Rattle.touched_entities.specs.Told.{Told, no_told, plus, told_between}
use Rattle.touched_entities.proofs.tolds.put_first.Goals as goal

pub returns-clause-told : goal.returns-clause-told
returns-clause-told c = λ k.
    let old = c.args.entities.now.entries in
    put_at c.in_ok-clone.field-0 old c.insert.new.self.entries c.put.new.self c.in_ok-insert.ensures.updates.0 k
    ∙ ap (λ q. if same_key q k then Some c.put.new.self else at_key k old) c.in_ok-clone.ensures
    ∙ ap (λ (x : Told). if same_key c.args.key.now k then Some x else at_key k old) (c.in_ok-put.ensures ∙ ap (λ (x : Told). plus x (told_between c.args.old.now c.args.new.now)) c.new-told.ensures)

pub returns-clause-own : goal.returns-clause-own
returns-clause-own c = λ all.
    let P : EntityKey → Type 0 = λ k. k.feed ≡ c.args.key.now.feed in
    subst (Each (λ (e : EntityKey × Told). P e.0)) (sym c.in_ok-insert.ensures.entries)
    (each_insert P c.args.entities.now.entries c.in_ok-clone.field-0 c.put.new.self (ap (λ (k : EntityKey). k.feed) c.in_ok-clone.ensures) all)
