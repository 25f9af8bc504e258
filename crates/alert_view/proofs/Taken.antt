-- Alerts that are taken one by one.
use Rattle.std.proofs.Common.{◌≡◌, List, [], ◌∷◌, ◌++◌, Some, None, option_map, refl, sym, subst, ap, ◌∙◌, append-nil, append_assoc}
use Rattle.std.specs.declared.option.Option.{Option}
use Rattle.std.specs.Iterator.{YieldsFirstBy}
use Rattle.std.specs.List.{cons_option}
use denote.Ref.{Bor}
use Rattle.feed_values.specs.declared.entity.Entity.{Entity}
use Rattle.rule_table.specs.declared.key.EntityKey.{EntityKey}
use Rattle.follow_engine.specs.Entities.{keyed_value}
use Rattle.alert_terms.specs.InForce.{KeyedEntity, Terms, alert_of, alerts_in, terms_of}

-- ---- the entities that are left
-- one that is handed out is the first of them
pub handed_out : (left rest : List KeyedEntity) (r : Option (Bor EntityKey × Bor Entity)) (x : Bor EntityKey × Bor Entity) → r ≡ Some x → YieldsFirstBy keyed_value (λ l. l) left r rest → left ≡ keyed_value x ∷ rest
handed_out left rest r x e y = subst (λ o. YieldsFirstBy keyed_value (λ l. l) left o rest) e y

-- where none is, none was left
pub none_left : (left rest : List KeyedEntity) (r : Option (Bor EntityKey × Bor Entity)) → r ≡ None → YieldsFirstBy keyed_value (λ l. l) left r rest → left ≡ []
none_left left rest r e y = (subst (λ o. YieldsFirstBy keyed_value (λ l. l) left o rest) e y).0

given_first : (o : Option Terms) (rest : List Terms) → cons_option o [] ++ rest ≡ cons_option o rest
given_first None rest = refl
given_first (Some a) rest = refl

-- its alert comes to those that were taken
pub taken_more : (taken now : List Terms) (left : List KeyedEntity) (x : KeyedEntity) (rest : List KeyedEntity) (all : List Terms) → left ≡ x ∷ rest → now ≡ taken ++ alerts_in (x ∷ []) →
    taken ++ alerts_in left ≡ all → now ++ alerts_in rest ≡ all
taken_more taken now left x rest all next e before =
    ap (λ xs. xs ++ alerts_in rest) e
    ∙ append_assoc taken (alerts_in (x ∷ [])) (alerts_in rest)
    ∙ ap (λ xs. taken ++ xs) (given_first (option_map (terms_of x.0) (alert_of x.1)) (alerts_in rest))
    ∙ ap (λ es. taken ++ alerts_in es) (sym next)
    ∙ before

-- where none is left, all are taken
pub all_taken : (taken : List Terms) (left : List KeyedEntity) (all : List Terms) → left ≡ [] → taken ++ alerts_in left ≡ all → taken ≡ all
all_taken taken left all none before = sym (append-nil taken) ∙ ap (λ es. taken ++ alerts_in es) (sym none) ∙ before
