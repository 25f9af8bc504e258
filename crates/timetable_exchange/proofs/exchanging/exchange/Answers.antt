use Rattle.std.proofs.Common.{◌≡◌, ◌∙◌, ◌+◌, ◌*◌, ◌≤◌, ℕ, List, ap, sym, subst, length}
use Rattle.rule_table.specs.declared.key.EntityKey.{EntityKey}
use Rattle.rule_history.specs.Answered.{tables_of}
use Rattle.rule_history.specs.Changed.{count_of}
use Rattle.engine_laws.specs.Standings.{Matches}
use Rattle.follow_engine.specs.Retabled.{AreKeysOf, FindAlikeBeside}
use Rattle.follow_engine.specs.entity_index.Held.{KeyedValues}
use Rattle.timetable_exchange.specs.Retested.{differs, entities_held, retested}
use Rattle.timetable_exchange.proofs.Counted.{most_are, retested_is, tests_are}
use Rattle.timetable_exchange.proofs.exchanging.exchange.Goals as goal

pub returns-clause-entities : goal.returns-clause-entities
returns-clause-entities g c = λ t h m. c.in_ok-keys.ensures.entities ∙ ap (λ (es : KeyedValues). length es) (c.touch.ensures.after t h m)

pub returns-clause-retested : goal.returns-clause-retested
returns-clause-retested g c = λ t h m.
    ap (λ (ks : List EntityKey). length ks) c.as_slice.ensures ∙ retested_is (tables_of c.args.engine.table) t (tables_of c.args.table) h (entities_held c.args.engine.feeds) c.in_ok-keys.field-0.keys c.in_ok-keys.ensures.keys m.table_is (c.touch.ensures.after t h m)

pub returns-in_err-engine-clause-most : goal.returns-in_err-engine-clause-most
returns-in_err-engine-clause-most g c = λ t h m.
    most_are _ _ _ _ (ap (λ (ks : List EntityKey). length ks) c.as_slice-2.ensures
    ∙ retested_is (tables_of c.args.engine.table) t (tables_of c.args.table) h (entities_held c.args.engine.feeds) c.in_ok-keys.field-0.keys c.in_ok-keys.ensures.keys m.table_is (c.touch.ensures.after t h m)) c.retable.ensures.most

pub returns-clause-tested : goal.returns-clause-tested
returns-clause-tested g c = λ t h m.
    tests_are _ _ _ _ (ap (λ (ks : List EntityKey). length ks) c.as_slice-2.ensures
    ∙ retested_is (tables_of c.args.engine.table) t (tables_of c.args.table) h (entities_held c.args.engine.feeds) c.in_ok-keys.field-0.keys c.in_ok-keys.ensures.keys m.table_is (c.touch.ensures.after t h m)) c.in_ok-engine.ensures.tested

pub returns-clause-most : goal.returns-clause-most
returns-clause-most g c = λ t h m.
    most_are _ _ _ _ (ap (λ (ks : List EntityKey). length ks) c.as_slice-2.ensures
    ∙ retested_is (tables_of c.args.engine.table) t (tables_of c.args.table) h (entities_held c.args.engine.feeds) c.in_ok-keys.field-0.keys c.in_ok-keys.ensures.keys m.table_is (c.touch.ensures.after t h m)) c.retable.ensures.most
