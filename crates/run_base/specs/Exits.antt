-- The exit status of the program. (This profile.)
use Rattle.std.specs.Prelude.{ℕ}
use Rattle.run_base.specs.declared.status.Status.{Status}
use Rattle.run_base.specs.declared.status.Status.TheVariants.{Clean, Found, Usage, ReadFault, WriteFault, Memory, Refused}

-- each answer by its number
abbrev pub exit_number : Status → ℕ
exit_number Clean = 0
exit_number Found = 1
exit_number Usage = 2
exit_number ReadFault = 3
exit_number WriteFault = 4
exit_number Memory = 5
exit_number Refused = 6
