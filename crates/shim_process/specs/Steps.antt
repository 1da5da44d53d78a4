-- The quiet steps of a process: what a statement asks for, and the state after it.
use Rattle.std.specs.Prelude.{ℕ, ◌+◌, ◌-◌, nat_le, ℤ, pos, negsuc, Bool, true, ◌||◌, List, [], ◌∷◌, ◌++◌, length, Option, Some, None, Result, Ok, Err, if◌then◌else◌, slice_get, slice_set}
use Rattle.shim_base.specs.declared.types.Ty.{Ty}
use Rattle.shim_base.specs.declared.operators.Trap.{Trap}
use Rattle.shim_base.specs.declared.operators.Trap.TheVariants.{Depth}
use Rattle.shim_base.specs.Operators.{is_zero}
use Rattle.shim_scopes.specs.declared.tree.UExpr.{UExpr}
use Rattle.shim_units.specs.declared.unit.Unit.{Unit as UnitOf}
use Rattle.shim_units.specs.declared.unit.UCall.{UCall}
use Rattle.shim_units.specs.declared.unit.UStmt.{UStmt}
use Rattle.shim_units.specs.declared.unit.UWhat.{UWhat, UWhat-F, out-UWhat}
use Rattle.shim_process.specs.Values.{Env, Value, value}
use Rattle.shim_process.specs.Locations.{store_at}
use Rattle.shim_process.specs.SerialRuns.{with_serial}
use Rattle.shim_process.specs.Todo.{Item, Successor, On, First, Second, next_stmt}
use Rattle.shim_process.specs.LocalState.{LocalState, Frame, unit_at, number_of, env_of, trapped}
use Rattle.shim_process.specs.declared.handler_variable.HandlerVariable.{HandlerVariable}
use Rattle.shim_process.specs.StatementViews.{StatementView, statement_view, unit_in, passed_labels}
use Rattle.shim_process.specs.Arguments.{Argument, arguments, new_location, new_channels, call_locations, call_slots, declared_slots, empties, entered}
use Rattle.shim_process.specs.Ends.{settled, gone}

-- what a statement asks for, its expressions computed
pub data Action : Type 0 where
  Go : Successor → Action
  -- the value is stored in the slot's location
  Store : ℕ → ℤ → Action
  -- the value is stored in the slot's location, and the second part of the statement comes next
  StoreFirst : ℕ → ℤ → Action
  -- the slot gets a new location, on a new channel
  Make : Ty → ℕ → ℤ → Action
  -- the next byte of the input is stored in the slot's location
  Read : ℕ → Action
  -- the unit is called with these arguments, and its exceptions have these labels
  Enter : ℕ → List Argument → List ℕ → Action
  -- the exception of this number comes into force, by this name, with a variable of its handler in this slot, where it has one
  Install : ℕ → ℕ → Option ℕ → Action
  Trapped : Trap → Action
  -- no action, since the statement isn't quiet
  Wait : Action

-- the action for a computed value, or the trap
abbrev pub action : {A : Type 0} → (A → Action) → Result A Trap → Action
action f (Ok v) = f v
action f (Err t) = Trapped t

-- where a limit is passed the process is trapped, after the expressions were computed
abbrev pub limited : Bool → Action → Action
limited over d = if over then Trapped Depth else d

-- the value of the expression, and the given number where there is none
abbrev pub value_or : ℤ → Option UExpr → Env → Value
value_or n None env = Ok n
value_or n (Some e) env = value e env

-- the name of the `try` of this exception
abbrev pub try_name : UnitOf → ℕ → ℕ
try_name u x = number_of u.tries (x - u.throws)

-- what a call asks for
abbrev pub call_action : UCall → StatementView → Action
call_action c s = action (λ given. limited (s.deep || s.full) (Enter c.unit given (passed_labels s c.throws))) (arguments s.locations s.slots (unit_in s c.unit).params c.args)

-- what a statement asks for, by what it sees
abbrev pub what_action : UWhat-F UWhat UStmt → StatementView → Action
what_action (UWhat-F.Declare t x e) s = action (λ v. limited s.full (Make t x v)) (value_or (pos 0) e (env_of s.locations s.slots))
what_action (UWhat-F.Assign x e) s = action (Store x) (value e (env_of s.locations s.slots))
what_action (UWhat-F.NextAssign x e) s = if s.halfway then Wait else action (StoreFirst x) (value e (env_of s.locations s.slots))
what_action (UWhat-F.AssignNext x y) s = if s.halfway then Store x (env_of s.locations s.slots y) else Wait
what_action (UWhat-F.Get x i) s = Read x
what_action (UWhat-F.If e first second) s = action (λ v. Go (if is_zero v then Second else First)) (value e (env_of s.locations s.slots))
what_action (UWhat-F.While e body) s = action (λ v. Go (if is_zero v then On else First)) (value e (env_of s.locations s.slots))
what_action (UWhat-F.For first e step body) s = action (λ v. Go (if is_zero v then On else First)) (value_or (pos 1) e (env_of s.locations s.slots))
what_action (UWhat-F.Call c) s = call_action c s
what_action (UWhat-F.Try body x y handler) s = limited s.full (Install x (try_name (unit_in s s.unit) x) y)
what_action _ s = Wait

-- what a statement asks for, or `Wait` where there is none
abbrev pub stmt_action : Option UStmt → StatementView → Action
stmt_action None s = Wait
stmt_action (Some stmt) s = what_action (out-UWhat stmt.what) s

-- what the statement at which the process stands asks for
unfoldable pub next_action : LocalState → Action
next_action l = stmt_action (next_stmt l.frame.todo) (statement_view l)

-- the line of a statement
abbrev pub stmt_line : Option UStmt → ℕ
stmt_line None = 0
stmt_line (Some stmt) = stmt.line

-- the line of the statement that is next
abbrev pub line_of : List Item → ℕ
line_of todo = stmt_line (next_stmt todo)

-- the value is stored in the slot's location
abbrev pub stored_in : ℕ → ℤ → LocalState → LocalState
stored_in x v l = record l { locations = store_at l.locations (number_of l.frame.slots x) v }

-- The slot gets a new location, which is the own variable of a new channel. The process drops the slot's earlier location.
abbrev pub made_in : Ty → ℕ → ℤ → LocalState → LocalState
made_in t x v l = record l {
  locations = slice_set l.locations (number_of l.frame.slots x) (Some (new_location l.path l.made (number_of (unit_at l.program l.frame.unit).slot_names x) t v));
  made = l.made + 1;
}

-- the next byte of the input, or -1 where it is over
abbrev pub byte_or_end : Option ℕ → ℤ
byte_or_end None = negsuc 0
byte_or_end (Some b) = pos b

-- the byte of the input at a place, or -1 where there is no place or no byte
abbrev pub next_byte : Option ℕ → List ℕ → ℤ
next_byte None input = negsuc 0
next_byte (Some at) input = byte_or_end (slice_get input at)

-- how many bytes of the input were read once the next one is taken: one more, or as many as before if the input is over, or none without the input
abbrev pub read_on : Option ℕ → List ℕ → Option ℕ
read_on None input = None
read_on (Some at) input = Some (if nat_le (length input) at then at else at + 1)

-- the state after the next byte of the input was stored in the slot's location
abbrev pub read_in : ℕ → LocalState → LocalState
read_in x l = record (stored_in x (next_byte l.input_at l.input) l) { input_at = read_on l.input_at l.input }

-- the second part of the statement comes next
abbrev pub half : Frame → Frame
half f = record f { halfway = true }

-- the exception's place comes into force, as the innermost
abbrev pub installed : ℕ → ℕ → Option HandlerVariable → Frame → Frame
installed x name variable f = record f { places = f.places ++ record { exception = x; name = name; line = line_of f.todo; variable = variable; todo = f.todo } ∷ [] }

-- the variable of a handler in this slot, on a new channel of its name
abbrev pub variable_in : ℕ → LocalState → HandlerVariable
variable_in x l = record {
  slot = x;
  channel = record { channel = record { home = l.path; serial = l.made }; name = number_of (unit_at l.program l.frame.unit).slot_names x };
}

-- The exception's place comes into force. A variable of its handler gets a channel, which the process doesn't share until the handler takes it.
abbrev pub installing : ℕ → ℕ → Option ℕ → LocalState → LocalState
installing x name None l = record l { frame = installed x name None l.frame }
installing x name (Some y) l = record l { frame = installed x name (Some (variable_in y l)) l.frame; untaken = with_serial l.made l.untaken; made = l.made + 1 }

-- the frame of the called unit is the innermost from now on, with its own locations after the others
unfoldable pub pushed : ℕ → List Argument → List ℕ → LocalState → LocalState
pushed unit given labels l =
    let u = unit_at l.program unit in
    let first = length l.locations in
    let passed = call_locations l.path l.locations l.made given in
    record l {
      frame = entered u unit (call_slots first given (declared_slots u)) labels first (l.frame.outer + length l.frame.places);
      callers = l.frame ∷ l.callers;
      locations = l.locations ++ (passed ++ empties (declared_slots u));
      made = l.made + new_channels given;
    }

-- the unit is called; where nothing is to be done in it, it returns at once
unfoldable pub called : ℕ → List Argument → List ℕ → LocalState → LocalState
called unit given labels l = let m = pushed unit given labels l in settled m.callers m.frame m

-- the state after the action of the statement, past the ends of blocks and units that come then; `Wait` changes nothing
abbrev pub done : Action → LocalState → LocalState
done (Go successor) l = gone successor l
done (Store x v) l = gone On (stored_in x v l)
done (StoreFirst x v) l = record (stored_in x v l) { frame = half l.frame }
done (Make t x v) l = gone On (made_in t x v l)
done (Read x) l = gone On (read_in x l)
done (Enter unit given labels) l = called unit given labels l
done (Install x name y) l = gone First (installing x name y l)
done (Trapped t) l = trapped t (line_of l.frame.todo) l
done Wait l = l

-- the state after one quiet step; at a statement that isn't quiet it stays the same
unfoldable pub quiet : LocalState → LocalState
quiet l = done (next_action l) l
