use Rattle.std.proofs.Common.{◌∙◌, ap, sym, refl, map}
use Rattle.rule_history.specs.History.{Keyed}
use Rattle.entity_index.specs.Changes.{keyed_in}
use Rattle.entity_index.proofs.Finding.{all_other}
use Rattle.entity_index.proofs.comparing.first_changes.Goals as goal

pub returns : goal.returns
returns c = record {
  fresh_is = c.in_ok-fresh.ensures c.args.feed;
  keys_are = c.from_vec.ensures ∙ c.in_ok-keys.ensures ∙ sym (ap (λ es. map (λ (e : Keyed). e.0) es) (all_other (keyed_in c.args.feed c.args.kept.now)));
  gone_is = c.new.ensures;
  reordered_is = refl;
}
