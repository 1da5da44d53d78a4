-- The stop of a process, and its calls at a `put`, at a `next` and at a throw.
use Rattle.std.specs.Prelude.{ℕ, ℤ, pos, Bool, true, false, List, [], ◌∷◌, Option, Some, None, Ok, Err, if◌then◌else◌, unsigned_abs}
use Rattle.std.specs.Int.{int_rem_euclid}
use Rattle.shim_local.specs.Process.{StopView, AtQuiet, AtNext, AtPut, AtFork, AtFinish, AtThrow, AtTrap}
use Rattle.shim_units.specs.declared.unit.UBranch.{UBranch}
use Rattle.shim_units.specs.declared.unit.UStmt.{UStmt}
use Rattle.shim_units.specs.declared.unit.UWhat.{UWhat, UWhat-F, out-UWhat}
use Rattle.shim_process.specs.Values.{Value, value}
use Rattle.shim_process.specs.Locations.{Location}
use Rattle.shim_process.specs.Todo.{On, next_stmt}
use Rattle.shim_process.specs.LocalState.{LocalState, TrappedAt, location_of, env_of, trapped}
use Rattle.shim_process.specs.StatementViews.{StatementView, statement_view, label_of}
use Rattle.shim_process.specs.Ends.{gone}
use Rattle.shim_process.specs.Steps.{stored_in, half, line_of, value_or}

-- A process that can't do its statement is at its end. No run of an accepted program comes to such a statement: a variable in scope has a location, a process that puts has the output, and a fork has branches.

-- at a `next` of the location's channel, or at the end where there is no location
abbrev pub at_next : Option Location → StopView
at_next None = AtFinish
at_next (Some l) = AtNext l.channel

-- at a `put` if the process has the output, and else at the end
abbrev pub at_put : Bool → StopView
at_put true = AtPut
at_put false = AtFinish

-- at a fork of the branches, or at the end where there are none
abbrev pub at_fork : List UBranch → StopView
at_fork [] = AtFinish
at_fork (b ∷ branches) = AtFork

-- the stop of a process at a statement, by what the statement sees
abbrev pub what_stop : UWhat-F UWhat UStmt → StatementView → StopView
what_stop (UWhat-F.Next x) s = at_next (location_of s.locations s.slots x)
what_stop (UWhat-F.NextAssign x e) s = if s.halfway then at_next (location_of s.locations s.slots x) else AtQuiet
what_stop (UWhat-F.AssignNext x y) s = if s.halfway then AtQuiet else at_next (location_of s.locations s.slots y)
what_stop (UWhat-F.Put o e) s = at_put s.holds_output
what_stop (UWhat-F.Throw x e) s = AtThrow (label_of s x)
what_stop (UWhat-F.Par branches) s = at_fork branches
what_stop _ s = AtQuiet

-- the stop of a process at a statement, or its end where there is none
abbrev pub stmt_stop : Option UStmt → StatementView → StopView
stmt_stop None s = AtFinish
stmt_stop (Some stmt) s = what_stop (out-UWhat stmt.what) s

-- the stop of a process that is trapped, or else the other one
abbrev pub stop_or : Option TrappedAt → StopView → StopView
stop_or None s = s
stop_or (Some t) s = AtTrap t.kind t.line

-- at what the process stands
unfoldable pub stop : LocalState → StopView
stop l = stop_or l.trap (stmt_stop (next_stmt l.frame.todo) (statement_view l))

-- the value of the expression of a `put`, and 0 of another statement
abbrev pub what_put : UWhat-F UWhat UStmt → StatementView → Value
what_put (UWhat-F.Put o e) s = value e (env_of s.locations s.slots)
what_put _ s = Ok (pos 0)

-- the value of the expression of a `put`, and 0 of another statement or of none
abbrev pub stmt_put : Option UStmt → StatementView → Value
stmt_put None s = Ok (pos 0)
stmt_put (Some stmt) s = what_put (out-UWhat stmt.what) s

-- the number that is put, or the trap
abbrev pub put_value : LocalState → Value
put_value l = stmt_put (next_stmt l.frame.todo) (statement_view l)

-- the remainder of the number modulo 256, or none for a trap
abbrev pub low_bits : Value → Option ℕ
low_bits (Ok v) = Some (unsigned_abs (int_rem_euclid v (pos 256)))
low_bits (Err t) = None

-- the byte that is put: the low 8 bits, or none where the expression traps
unfoldable pub byte : LocalState → Option ℕ
byte l = low_bits (put_value l)

-- the state past the `put` where its value is a number, and else trapped at it
abbrev pub after_put : Value → LocalState → LocalState
after_put (Ok v) l = gone On l
after_put (Err t) l = trapped t (line_of l.frame.todo) l

-- the state after the `put`, or the state trapped at it
unfoldable pub put : LocalState → LocalState
put l = after_put (put_value l) l

-- the number of a throw, or its trap; 0 where the throw gives no number, and of another statement
abbrev pub what_thrown : UWhat-F UWhat UStmt → StatementView → Value
what_thrown (UWhat-F.Throw x e) s = value_or (pos 0) e (env_of s.locations s.slots)
what_thrown _ s = Ok (pos 0)

-- the number of a throw, or its trap, and 0 of another statement or of none
abbrev pub stmt_thrown : Option UStmt → StatementView → Value
stmt_thrown None s = Ok (pos 0)
stmt_thrown (Some stmt) s = what_thrown (out-UWhat stmt.what) s

-- the number that is thrown, or the trap
abbrev pub thrown_value : LocalState → Value
thrown_value l = stmt_thrown (next_stmt l.frame.todo) (statement_view l)

-- the number of a value, and none of a trap
abbrev pub number_or_none : Value → Option ℤ
number_or_none (Ok v) = Some v
number_or_none (Err t) = None

-- the number that is thrown, or none where the expression traps
unfoldable pub thrown_number : LocalState → Option ℤ
thrown_number l = number_or_none (thrown_value l)

-- the same state for a number, and for a trap the state trapped at the throw
abbrev pub after_throw : Value → LocalState → LocalState
after_throw (Ok v) l = l
after_throw (Err t) l = trapped t (line_of l.frame.todo) l

-- the same state, or the state trapped at the throw if its expression traps
unfoldable pub throw_evaluated : LocalState → LocalState
throw_evaluated l = after_throw (thrown_value l) l

-- The state after the statement's rendezvous, whose value is stored in the location of the rendezvous's variable. Of `x = next y` this is y, and the second part comes next. After another statement with a rendezvous the process goes on.
abbrev pub what_receive : UWhat-F UWhat UStmt → ℤ → LocalState → LocalState
what_receive (UWhat-F.Next x) v l = gone On (stored_in x v l)
what_receive (UWhat-F.NextAssign x e) v l = gone On (stored_in x v l)
what_receive (UWhat-F.AssignNext x y) v l = record (stored_in y v l) { frame = half l.frame }
what_receive _ v l = l

-- the state after a statement received the value of a rendezvous, and the same state where there is no statement
abbrev pub stmt_receive : Option UStmt → ℤ → LocalState → LocalState
stmt_receive None v l = l
stmt_receive (Some stmt) v l = what_receive (out-UWhat stmt.what) v l

-- the state after the rendezvous at which the process stands gave this value
unfoldable pub receive : LocalState → ℤ → LocalState
receive l v = stmt_receive (next_stmt l.frame.todo) v l
