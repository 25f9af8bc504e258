use Rattle.std.proofs.Common.{◌≡◌, ◌∙◌, ap, sym, subst, refl, Some, None, IsSome}
use Rattle.std.specs.BTreeMap.{is_at}
use Rattle.rule_table.specs.declared.key.EntityKey.{EntityKey}
use Rattle.rule_table.specs.Groups.{Each}
use Rattle.std.specs.Prelude.{if◌then◌else◌}
use Rattle.rule_table.specs.Order.{key_cmp, same_key}
use Rattle.entity_index.specs.Held.{at_key}
use Rattle.entity_index.proofs.Setting.{found-at, put_at}
use Rattle.touched_entities.specs.Told.{Told, no_told, plus, told_between}
use Rattle.touched_entities.proofs.Places.{each_set, put_none, put_plus}
use Rattle.touched_entities.proofs.tolds.put_under.Goals as goal

pub returns-in_ok-put-in-Some-clause-told : goal.returns-in_ok-put-in-Some-clause-told
returns-in_ok-put-in-Some-clause-told c = λ k.
    let old = c.args.entities.now.entries in
    let key = c.args.key.now in
    let follows = c.get_mut.follows.holds c.put.new.self in
    put_plus key k old _ (told_between c.args.old.now c.args.new.now) c.in-Some.told.now c.put.new.self (sym (found-at old key) ∙ sym c.in-Some.ensures.value) c.in_ok-put-in-Some.ensures
    (put_at key old _ c.put.new.self (follows.3 (subst IsSome c.in-Some.ensures.value refl)).0 k)

pub returns-in_ok-put-in-Some-clause-own : goal.returns-in_ok-put-in-Some-clause-own
returns-in_ok-put-in-Some-clause-own c = λ all.
    let P : EntityKey → Type 0 = λ k. k.feed ≡ c.args.key.now.feed in
    subst (Each (λ (e : EntityKey × Told). P e.0)) (sym (c.get_mut.follows.holds c.put.new.self).0) (each_set P (is_at (key_cmp c.args.key.now)) c.put.new.self c.args.entities.now.entries all)

pub returns-in_ok-put_first-in-None-clause-told : goal.returns-in_ok-put_first-in-None-clause-told
returns-in_ok-put_first-in-None-clause-told c = λ k.
    let old = c.args.entities.now.entries in
    let key = c.args.key.now in
    let add = told_between c.args.old.now c.args.new.now in
    put_none key k old _ add (sym (found-at old key) ∙ sym c.in-None.ensures.value)
    (c.in_ok-put_first-in-None.ensures.told k ∙ ap (λ es. if same_key key k then Some (plus no_told add) else at_key k es) (ap (λ m. m.entries) c.get_mut.follows.holds-at-none))
