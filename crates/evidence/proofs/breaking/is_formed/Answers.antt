use Rattle.std.proofs.Common.{[]}
use Rattle.rule_table.specs.Asked.{place_value}
use Rattle.evidence.proofs.Forms.{formed_length}
use Rattle.evidence.proofs.breaking.is_formed.Goals as goal

pub returns-then-cites-facts-clause-formed : goal.returns-then-cites-facts-clause-formed
returns-then-cites-facts-clause-formed c = ((λ h. cc), λ h. absurd (c.if-cites-facts.true (formed_length (place_value c.args.place) [] c.args.cites.now c.args.facts.now h)))
