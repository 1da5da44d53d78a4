-- The states of a process with all of its calls and answers, as one kind of process.
use Rattle.shim_local.specs.Process.{Ops}
use Rattle.shim_process.specs.Forks.{fork, join}
use Rattle.shim_process.specs.LocalState.{LocalState, handlers}
use Rattle.shim_process.specs.Sharers.{shares, carries, channel_value}
use Rattle.shim_process.specs.Steps.{quiet}
use Rattle.shim_process.specs.Stops.{stop, byte, put, receive, thrown_number, throw_evaluated}
use Rattle.shim_process.specs.Unwinding.{unwind, handler}
use Rattle.shim_process.specs.Sound.{Sound}
use Rattle.shim_process.specs.Born.{Born}

-- the functions of a process's state that a tree asks for, as the crate defines them
abbrev pub process_ops : Ops LocalState
process_ops = record {
  sound = Sound;
  stop = stop;
  quiet = quiet;
  byte = byte;
  put = put;
  receive = receive;
  fork = fork;
  join = join;
  born = Born;
  number = thrown_number;
  thrown = throw_evaluated;
  unwind = unwind;
  value = channel_value;
  shares = shares;
  carries = carries;
  given = λ l. l.given;
  holds_output = λ l. l.holds_output;
  path = λ l. l.path;
  base = λ l. l.base;
  handlers = handlers;
  handler = handler;
}
