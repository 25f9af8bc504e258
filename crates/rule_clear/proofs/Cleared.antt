-- What looks along the stop time updates show is clear, and so it is by all that answers as the entity and the timetable do.
use Rattle.std.proofs.Common.{inl, inr, sym, ◌∙◌, subst}
use Rattle.std.specs.Prelude.{◌≡◌, Bool, true, false, List, [], ◌∷◌, ◌++◌, length, Option, Some, None, option_map, is_some, not, refl}
use Rattle.std.specs.List.{list_all}
use Rattle.std.specs.Option.{is_none}
use Rattle.std.proofs.lemmas.Bool.{and_parts}
use Rattle.feed_values.specs.Schema.{Value}
use Rattle.feed_values.specs.Messages.{entity}
use Rattle.feed_values.specs.declared.slot.Slot.{Slot}
use Rattle.feed_values.specs.declared.cell_value.CellValue.{CellValue}
use Rattle.feed_values.specs.declared.stop_time_update.StopTimeUpdate.{StopTimeUpdate}
use Rattle.timetable.specs.Lookups.{is_present, tables_in}
use Rattle.timetable.specs.Timetables.{Tables}
use Rattle.timetable.specs.declared.timetable.Timetable.{Timetable}
use Rattle.rule_table.specs.declared.ask.Ask.{Ask}
use Rattle.rule_table.specs.declared.ask.Ask.TheVariants as ask
use Rattle.rule_clear.specs.declared.clear.Clear.{Clear}
use Rattle.rule_table.specs.declared.key.EntityKey.{EntityKey}
use Rattle.rule_table.specs.declared.rule.RuleId.{RuleId}
use Rattle.rule_history.specs.Answered.{local_answer, tables_of}
use Rattle.rule_clear.specs.Clear.{AreClear, cleared, when, where_sound, where_related, where_kept, where_sequenced, where_unassigned, without_update, without_vehicle}
use Rattle.rule_table.specs.ClearSlots.{IsClear, HasCells, IsAmong}
use Rattle.rule_table.specs.Groups.{Each}
use Rattle.rule_table.specs.GroupLaws.{each_append}
use Rattle.rule_table.specs.Judged.{places_at, update_of}
use Rattle.rule_clear.specs.Keeping.{KeepBelow}
use Rattle.rule_table.specs.Pairs.{vehicle_of}
use Rattle.rule_table.specs.Same.{SameFrom, below_same}
use Rattle.rule_clear.specs.Sound.{AreUpdates, SoundBelow}
use Rattle.rule_table.specs.Sources.{comes_from, is_local}
use Rattle.rule_clear.proofs.NoneWhereGiven.{related_clear, sequenced_clear, unassigned_clear}
use Rattle.rule_clear.proofs.NoneWhereKept as kept
use Rattle.rule_clear.proofs.NoneWhereSound as sound
use Rattle.rule_clear.proofs.NoneWithout.{each_when, messages_clear}
use Rattle.rule_clear.proofs.StopWays.{update_places}

-- ---- what is seen
there : (table : Timetable) → is_present table ≡ true → tables_of table ≡ Some (tables_in table)
there table h = rw h refl

pub none_held : {A B : Type 0} (f : A → B) (o : Option A) (none : Bool) → is_some o ≡ not none → none ≡ true → option_map f o ≡ None
none_held f None none h k = refl
none_held f (Some x) true h k = absurd (cc h)
none_held f (Some x) false h k = absurd (cc k)

-- ---- what is among the parts is among the whole
among_first : {A : Type 0} (x : A) (l m : List A) → IsAmong x l → IsAmong x (l ++ m)
among_first x [] m h = absurd h
among_first x (y ∷ l) m (inl e) = inl e
among_first x (y ∷ l) m (inr h) = inr (among_first x l m h)

among_last : {A : Type 0} (x : A) (l m : List A) → IsAmong x m → IsAmong x (l ++ m)
among_last x [] m h = h
among_last x (y ∷ l) m h = inr (among_last x l m h)

module _ (c : Clear) (p : RuleId × Slot) where
  past_updates : IsAmong p (when c.without_update without_update ++ when c.without_vehicle without_vehicle) → IsAmong p (cleared c)
  past_updates h =
      among_last p (when c.sound where_sound) _ (among_last p (when c.related where_related) _ (among_last p (when c.kept where_kept) _ (among_last p (when c.sequenced where_sequenced) _ (among_last p (when c.unassigned where_unassigned) _ h))))

  pub update_among : c.without_update ≡ true → IsAmong p without_update → IsAmong p (cleared c)
  update_among is h = past_updates (among_first p (when c.without_update without_update) _ (subst (λ b. IsAmong p (when b without_update)) (sym is) h))

  pub vehicle_among : c.without_vehicle ≡ true → IsAmong p without_vehicle → IsAmong p (cleared c)
  vehicle_among is h = past_updates (among_last p (when c.without_update without_update) _ (subst (λ b. IsAmong p (when b without_vehicle)) (sym is) h))

-- ---- by another answer that is the same for an entity and a timetable
abbrev is_local_pair : RuleId × Slot → Bool
is_local_pair p = comes_from is_local p.0

module _ (table : Timetable) (key : EntityKey) (e : Value entity) (answer : Ask → Option CellValue) (same : SameFrom is_local (local_answer (tables_of table) key e) answer) where
  abbrev Local : RuleId × Slot → Type 0
  Local = IsClear (local_answer (tables_of table) key e) key e

  abbrev Here : RuleId × Slot → Type 0
  Here = IsClear answer key e

  turned : (ps : List (RuleId × Slot)) → list_all is_local_pair ps ≡ true → Each Local ps → Each Here ps
  turned [] m h = tt
  turned (p ∷ ps) m h =
      let ts = and_parts (comes_from is_local p.0) (list_all is_local_pair ps) m in
      (sym (below_same is_local (local_answer (tables_of table) key e) answer same p.0 ts.0 key p.1 (places_at e p.1)) ∙ h.0, turned ps ts.1 h.1)

  pub cells : HasCells answer e
  cells p = sym (same (ask.Cell p) refl)

  module _ (stops : List StopTimeUpdate) (k : AreUpdates e stops) where
    kept_here : is_present table ≡ true → KeepBelow (tables_in table) e (length stops) → Each Local where_kept
    kept_here present h =
        subst (λ (t : Option Tables). Each (IsClear (local_answer t key e) key e) where_kept) (sym (there table present))
        (kept.all_clear (tables_in table) key e (subst (KeepBelow (tables_in table) e) (sym (update_places e stops k)) h))

    pub seen_clear : (c : Clear) → (c.sound ≡ true → SoundBelow e (length stops)) → (c.related ≡ true → list_all (λ stop. is_some stop.schedule_relationship) stops ≡ true)
        → (c.kept ≡ true → is_present table ≡ true) → (c.kept ≡ true → KeepBelow (tables_in table) e (length stops))
        → (c.sequenced ≡ true → list_all (λ stop. is_some stop.stop_sequence) stops ≡ true) → (c.unassigned ≡ true → list_all (λ stop. is_none stop.stop_time_properties) stops ≡ true)
        → (c.without_update ≡ true → update_of e ≡ None) → (c.without_vehicle ≡ true → vehicle_of e ≡ None) → AreClear answer key e c
    seen_clear c s r p h q a u v =
        each_append Here (when c.sound where_sound) _
        (each_when Here c.sound where_sound (λ is. turned where_sound refl (sound.all_clear (tables_of table) key e (subst (SoundBelow e) (sym (update_places e stops k)) (s is)))))
        (each_append Here (when c.related where_related) _
        (each_when Here c.related where_related (λ is. turned where_related refl (related_clear (tables_of table) key e stops k (r is))))
        (each_append Here (when c.kept where_kept) _
        (each_when Here c.kept where_kept (λ is. turned where_kept refl (kept_here (p is) (h is))))
        (each_append Here (when c.sequenced where_sequenced) _
        (each_when Here c.sequenced where_sequenced (λ is. turned where_sequenced refl (sequenced_clear (tables_of table) key e stops k (q is))))
        (each_append Here (when c.unassigned where_unassigned) _
        (each_when Here c.unassigned where_unassigned (λ is. turned where_unassigned refl (unassigned_clear (tables_of table) key e stops k (a is))))
        (messages_clear answer key e cells c.without_update c.without_vehicle u v)))))
