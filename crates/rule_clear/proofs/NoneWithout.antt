-- Nothing breaks at the fields of a message that an entity hasn't, for all that answers by its cells.
use Rattle.std.proofs.Common.{ap, sym, ◌∙◌, subst}
use Rattle.std.specs.Prelude.{◌≡◌, ◌||◌, true, Bool, false, List, [], ◌∷◌, ◌++◌, Option, Some, None, refl}
use Rattle.std.specs.List.{list_any}
use Rattle.feed_values.specs.Schema.{Value}
use Rattle.feed_values.specs.Messages.{entity}
use Rattle.feed_values.specs.Cells.{entity_cell}
use Rattle.feed_values.specs.declared.path.Path.{Path}
use Rattle.feed_values.specs.declared.slot.Slot.{Slot}
use Rattle.feed_values.specs.declared.slot.Slot.TheVariants.{S20, S21, S22, S23, S24, S25, S26, S27, S28, S29, S43, S44, S50, S51, S52, S53, S54, S55, S56, S57, S58, S59, S60}
use Rattle.feed_values.specs.declared.cell_value.CellValue.{CellValue}
use Rattle.feed_values.specs.declared.cell_value.CellValue.TheVariants.{Missing}
use Rattle.rule_table.specs.declared.ask.Ask.{Ask}
use Rattle.rule_table.specs.declared.ask.Ask.TheVariants as ask
use Rattle.rule_table.specs.declared.key.EntityKey.{EntityKey}
use Rattle.rule_table.specs.declared.place.Place.TheVariants as place
use Rattle.rule_table.specs.declared.row.Cite.{Cite}
use Rattle.rule_table.specs.declared.row.Cite.TheVariants as cite
use Rattle.rule_table.specs.declared.rule.RuleId.{RuleId}
use Rattle.rule_table.specs.declared.rule.RuleId.TheVariants.{E001, E003, E004, E006, E011, E012, E013, E015, E016, E019, E020, E021, E023, E024, E035, E041, E047, E050, E052, W001, W002, W003, W005, W006, W009, X001}
use Rattle.rule_table.specs.Asked.{ask_at}
use Rattle.rule_table.specs.Cited.{broken_from}
use Rattle.rule_table.specs.ClearSlots.{IsClear}
use Rattle.rule_clear.specs.Clear.{when, without_update, without_vehicle}
use Rattle.rule_table.specs.Groups.{Each}
use Rattle.rule_table.specs.GroupLaws.{each_append}
use Rattle.rule_table.specs.Judged.{found_at, found_below, places_at, update_of}
use Rattle.rule_table.specs.Pairs.{vehicle_of}
use Rattle.rule_table.specs.Settled.{fails, names, settled_by}
use Rattle.rule_table.specs.Table.{cites_of, test_of}
use Rattle.rule_table.proofs.NoneSettled.{none_settled, settled_after}
use Rattle.rule_table.proofs.NoneThere.{after, none_found}

-- ---- lists that are there or not
pub each_when : {A : Type 0} (P : A → Type 0) (b : Bool) (l : List A) → (b ≡ true → Each P l) → Each P (when b l)
each_when P true l h = h refl
each_when P false l h = tt

module _ (answer : Ask → Option CellValue) (key : EntityKey) (e : Value entity) (cells : (p : Path) → answer (ask.Cell p) ≡ Some (entity_cell e p.slot p.index)) where
  abbrev Here : RuleId × Slot → Type 0
  Here = IsClear answer key e

  at_one : (rule : RuleId) (s : Slot) → places_at e s ≡ 1 → found_at rule answer (place.Entity key (record { slot = s; index = 0 })) ≡ [] → Here (rule, s)
  at_one rule s n h = subst (λ m. found_below rule answer key s m ≡ []) (sym n) h

  -- where the field itself is wanted
  lacks : (rule : RuleId) (s : Slot) → places_at e s ≡ 1 → settled_by rule false ≡ true → entity_cell e s 0 ≡ Missing → Here (rule, s)
  lacks rule s n r h = at_one rule s n (none_settled answer rule key (record { slot = s; index = 0 }) Missing (cells (record { slot = s; index = 0 }) ∙ ap Some h) r)

  -- where the first field that the row cites is
  lacks_first : (rule : RuleId) (s : Slot) (c : Cite) (cs : List Cite) (first : Slot) → places_at e s ≡ 1 → cites_of rule ≡ c ∷ cs
      → ask_at (place.Entity key (record { slot = s; index = 0 })) [] c ≡ Some (ask.Cell (record { slot = first; index = 0 }))
      → (list_any (names 0) cs || list_any (fails false 0) (test_of rule)) ≡ true → entity_cell e first 0 ≡ Missing → Here (rule, s)
  lacks_first rule s c cs first n row asks r h =
      let at = place.Entity key (record { slot = s; index = 0 }) in
      let path : Path = record { slot = first; index = 0 } in
      let unbroken : broken_from answer at (test_of rule) [] (c ∷ cs) ≡ false =
      rw asks (after answer (λ w. broken_from answer at (test_of rule) (w ∷ []) cs) (ask.Cell path) Missing (cells path ∙ ap Some h) (settled_after answer at (test_of rule) [] false cs Missing refl r)) in
      at_one rule s n (none_found answer rule key s 0 (subst (λ l. broken_from answer at (test_of rule) [] l ≡ false) (sym row) unbroken))

  pub update_clear : update_of e ≡ None → Each Here without_update
  update_clear h = (lacks E001 S29 refl refl (rw h refl), (lacks E003 S21 refl refl (rw h refl), (lacks E004 S25 refl refl (rw h refl), (lacks E006 S21 refl refl (rw h refl), (lacks E012 S29 refl refl (rw h refl), (lacks E013 S24 refl refl (rw h refl), (lacks E016 S21 refl refl (rw h refl), (lacks E019 S22 refl refl (rw h refl), (lacks E020 S22 refl refl (rw h refl), (lacks E020 S44 refl refl (rw h refl), (lacks E021 S23 refl refl (rw h refl), (lacks E021 S43 refl refl (rw h refl), (lacks E023 S22 refl refl (rw h refl), (lacks E024 S26 refl refl (rw h refl), (lacks E035 S25 refl refl (rw h refl), (lacks E041 S27 refl refl (rw h refl), (lacks E047 S28 refl refl (rw h refl), (lacks E050 S29 refl refl (rw h refl), (lacks_first W001 S29 cite.Holder _ S20 refl refl refl refl (rw h refl), (lacks_first W002 S28 cite.Holder _ S20 refl refl refl refl (rw h refl), (lacks W003 S21 refl refl (rw h refl), (lacks W003 S28 refl refl (rw h refl), (lacks_first W005 S28 (cite.Cell S21) _ S21 refl refl refl refl (rw h refl), (lacks_first W006 S21 (cite.Cell S20) _ S20 refl refl refl refl (rw h refl), (lacks_first W009 S24 cite.Holder _ S20 refl refl refl refl (rw h refl), tt)))))))))))))))))))))))))

  pub vehicle_clear : vehicle_of e ≡ None → Each Here without_vehicle
  vehicle_clear h = (
    lacks E001 S59 refl refl (rw h refl),
    (
      lacks E003 S52 refl refl (rw h refl),
      (
        lacks E004 S56 refl refl (rw h refl),
        (
          lacks E006 S52 refl refl (rw h refl),
          (
            lacks E011 S60 refl refl (rw h refl),
            (
              lacks E012 S59 refl refl (rw h refl),
              (
                lacks E013 S55 refl refl (rw h refl),
                (
                  lacks E015 S60 refl refl (rw h refl),
                  (
                    lacks E016 S52 refl refl (rw h refl),
                    (
                      lacks E019 S53 refl refl (rw h refl),
                      (
                        lacks E020 S53 refl refl (rw h refl),
                        (
                          lacks E021 S54 refl refl (rw h refl),
                          (
                            lacks E023 S53 refl refl (rw h refl),
                            (
                              lacks E024 S57 refl refl (rw h refl),
                              (
                                lacks E035 S56 refl refl (rw h refl),
                                (
                                  lacks E047 S58 refl refl (rw h refl),
                                  (
                                    lacks E050 S59 refl refl (rw h refl),
                                    (
                                      lacks E052 S58 refl refl (rw h refl),
                                      (
                                        lacks_first W001 S59 cite.Holder _ S50 refl refl refl refl (rw h refl),
                                        (
                                          lacks_first W002 S58 cite.Holder _ S50 refl refl refl refl (rw h refl),
                                          (lacks W003 S52 refl refl (rw h refl), (lacks W003 S58 refl refl (rw h refl), (lacks_first W009 S55 cite.Holder _ S51 refl refl refl refl (rw h refl), (lacks X001 S59 refl refl (rw h refl), tt)))),
                                        ),
                                      ),
                                    ),
                                  ),
                                ),
                              ),
                            ),
                          ),
                        ),
                      ),
                    ),
                  ),
                ),
              ),
            ),
          ),
        ),
      ),
    ),
  )

  -- of the messages that it hasn't
  pub messages_clear : (u v : Bool) → (u ≡ true → update_of e ≡ None) → (v ≡ true → vehicle_of e ≡ None) → Each Here (when u without_update ++ when v without_vehicle)
  messages_clear u v h k = each_append Here (when u without_update) (when v without_vehicle) (each_when Here u without_update (λ is. update_clear (h is))) (each_when Here v without_vehicle (λ is. vehicle_clear (k is)))
