use Rattle.std.proofs.Common.{◌≡◌, [], ap, is_some, nat_cmp, option_map, sym, unwrap_or, ◌∙◌}
use Rattle.std.specs.BTreeMap.{is_at}
use Rattle.std.specs.FinMap.{find}
use Rattle.std.specs.Map.{lookup}
use Rattle.schedule_tables.proofs.RowLemmas.{find-lookup}
use Rattle.schedule_tables.proofs.late_times.LateTimes.contains.Goals as goal

pub returns-in-Some : goal.returns-in-Some
returns-in-Some c =
    let es = c.in-Some.times.value.entries in
    let sequence = c.args.sequence in
    let seen : es ≡ c.args.self.now = ap (λ o. unwrap_or (option_map (λ boxed. boxed.value.entries) o) []) (sym c.in-Some.is) ∙ c.self.view_is in
    c.contains_key.ensures ∙ ap (λ m. is_some (lookup (is_at (nat_cmp sequence)) m.entries)) c.deref.ensures
    ∙ ap is_some (sym (find-lookup es sequence)) ∙ ap (λ late. is_some (find nat_cmp sequence late)) seen
