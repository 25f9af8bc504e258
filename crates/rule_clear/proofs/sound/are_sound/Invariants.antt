use Rattle.feed_values.specs.Views.{entity_value}
use Rattle.rule_clear.specs.Sound.{SoundBelow}
use Rattle.rule_clear.proofs.sound.are_sound.Given as goal

-- the updates so far are sound
abbrev pub invariant-loop-index : goal.invariant-loop-index
invariant-loop-index l = SoundBelow (entity_value l.entity) l.index
