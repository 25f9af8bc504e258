use Rattle.entity_index.proofs.Setting.{put_at}
use Rattle.entity_index.proofs.renewing.put_under.Goals as goal

pub returns : goal.returns
returns g c = put_at c.args.key c.args.entries.now.entries c.insert.new.self.entries c.args.value c.in_ok-insert.ensures.updates.0
