use Rattle.std.proofs.Common.{◌+◌, ◌*◌}
use Rattle.shim_workers.proofs.in_threads.+each.Given as goal

-- a call goes down to the closure with the other jobs, which are fewer, and that one to a call with them
abbrev pub decreases-each_in_a_thread : goal.decreases-each_in_a_thread
decreases-each_in_a_thread g l = 2 * l.jobs.len

abbrev pub decreases-others : goal.decreases-others
decreases-others g l = 2 * l.jobs.len + 1
