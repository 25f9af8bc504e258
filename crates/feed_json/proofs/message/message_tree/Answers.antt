use Rattle.feed_json.proofs.Floats.{tree_float}
use Rattle.feed_json.proofs.message.message_tree.Goals as goal

pub returns-clause-no_float : goal.returns-clause-no_float
returns-clause-no_float g c =
    tree_float g.M.Slots.schema (g.M.Slots.value c.args.message.now) c.message_object.result c.message_object.ensures
