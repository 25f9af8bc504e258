use Rattle.std.proofs.Common.{◌≡◌, ◌++◌, drop}
use Rattle.std.specs.List.{flat_map}
use Rattle.run_alerts.specs.Lines.{alert_text}
use Rattle.run_alerts.proofs.in_force.keys_text.Given as goal

-- the lines so far and those of what is left are all
abbrev pub invariant-loop-key : goal.invariant-loop-key
invariant-loop-key l = l.text.items ++ flat_map alert_text (drop l.key-index l.keys) ≡ flat_map alert_text l.fn.keys
