-- The statuses of answers, as numbers.
use Rattle.std.specs.Prelude.{ℕ}
use Rattle.shim_results.specs.declared.status.ExitStatus.{ExitStatus}
use Rattle.shim_results.specs.declared.status.ExitStatus.TheVariants.{Done, Failed, Usage, Blocked, Spent, Refused, FileFault, SinkFault, NoMemory, JournalFault}

-- the number of an exit status
abbrev pub exit_code : ExitStatus → ℕ
exit_code Done = 0
exit_code Failed = 1
exit_code Usage = 2
exit_code Blocked = 3
exit_code Spent = 4
exit_code Refused = 5
exit_code FileFault = 6
exit_code SinkFault = 7
exit_code NoMemory = 8
exit_code JournalFault = 9
