use Rattle.std.proofs.Common.{◌++◌, ap, subst, sym, ◌∙◌}
use Rattle.std.proofs.lemmas.Result.{on_ok_weaker}
use Rattle.feed_values.specs.Messages.{entity}
use Rattle.feed_values.specs.Views.{entity_value}
use Rattle.feed_values.specs.WellFormed.{IsWellFormed}
use Rattle.feed_merge.proofs.Formed.{renamed_formed}
use Rattle.feed_merge.specs.Spelled.{entity_spelled}
use Rattle.feed_merge.proofs.spelling.put_entity.Goals as goal

pub put_entity-requires : goal.put_entity-requires
put_entity-requires c =
    subst (IsWellFormed entity) (sym c.in_ok-rename.ensures) (renamed_formed c.args.prefix.now (entity_value c.args.held) c.utf8.prefix c.requires)

pub returns : goal.returns
returns c = on_ok_weaker c.put_entity.result (λ same. same ∙ ap (λ e. c.args.bytes.now.items ++ entity_spelled e) c.in_ok-rename.ensures) c.put_entity.ensures
