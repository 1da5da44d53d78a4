-- After a put that puts a byte a process doesn't stand trapped.
use Rattle.std.proofs.Common.{◌≡◌, ◌∙◌, ℕ, Bool, true, false, List, [], ◌∷◌, take, Option, Some, None, Ok, Err, refl, subst}
use Rattle.shim_local.specs.Process.{StopView, AtQuiet, AtPut, AtTrap}
use Rattle.shim_local.specs.Laws.{IsTrapped}
use Rattle.shim_units.specs.declared.unit.UBranch.{UBranch}
use Rattle.shim_units.specs.declared.unit.UStmt.{UStmt}
use Rattle.shim_units.specs.declared.unit.UWhat.{UWhat, UWhat-F, out-UWhat}
use Rattle.shim_process.specs.Values.{Value}
use Rattle.shim_process.specs.Locations.{Location}
use Rattle.shim_process.specs.Todo.{Successor, On, next_stmt}
use Rattle.shim_process.specs.LocalState.{LocalState, Frame, TrappedAt, location_of}
use Rattle.shim_process.specs.StatementViews.{StatementView, statement_view}
use Rattle.shim_process.specs.Ends.{went, is_over, settled, gone}
use Rattle.shim_process.specs.Stops.{at_next, at_put, at_fork, what_stop, stmt_stop, stop_or, stop, put_value, low_bits, byte, after_put, put}
use Rattle.shim_process.specs.Ops.{process_ops}
use Rattle.shim_base.proofs.Facts.{choose}

-- to go on sets no trap

settled_trap : (callers : List Frame) (f : Frame) (l : LocalState) → (settled callers f l).trap ≡ l.trap
settled_trap [] f l = refl
settled_trap (caller ∷ callers) f l =
    let left : LocalState = record l { locations = take f.floor l.locations } in
    choose (λ (m : LocalState). m.trap ≡ l.trap) (is_over f.todo) (settled callers (went On caller) left) (record l { frame = f; callers = caller ∷ callers }) (settled_trap callers (went On caller) left) refl

gone_trap : (successor : Successor) (l : LocalState) → (gone successor l).trap ≡ l.trap
unfolding gone
gone_trap successor l = settled_trap l.callers (went successor l.frame) l

after_put_trap : (r : Value) (l : LocalState) (b : ℕ) → low_bits r ≡ Some b → (after_put r l).trap ≡ l.trap
after_put_trap (Ok v) l b e = gone_trap On l
after_put_trap (Err t) l b e = absurd cc

put_trap : (l : LocalState) (b : ℕ) → byte l ≡ Some b → (put l).trap ≡ l.trap
unfolding put byte
put_trap l b e = after_put_trap (put_value l) l b e

-- without one a process doesn't stand trapped

abbrev IsFree : StopView → Type 0
IsFree (AtTrap kind line) = ⊥
IsFree _ = Unit {0}

free_next : (o : Option Location) → IsFree (at_next o)
free_next None = tt
free_next (Some x) = tt

free_put : (b : Bool) → IsFree (at_put b)
free_put true = tt
free_put false = tt

free_fork : (branches : List UBranch) → IsFree (at_fork branches)
free_fork [] = tt
free_fork (b ∷ branches) = tt

free_what : (w : UWhat-F UWhat UStmt) (s : StatementView) → IsFree (what_stop w s)
free_what (UWhat-F.Next x) s = free_next (location_of s.locations s.slots x)
free_what (UWhat-F.NextAssign x e) s = choose IsFree s.halfway (at_next (location_of s.locations s.slots x)) AtQuiet (free_next (location_of s.locations s.slots x)) tt
free_what (UWhat-F.AssignNext x y) s = choose IsFree s.halfway AtQuiet (at_next (location_of s.locations s.slots y)) tt (free_next (location_of s.locations s.slots y))
free_what (UWhat-F.Put o e) s = free_put s.holds_output
free_what (UWhat-F.Throw x e) s = tt
free_what (UWhat-F.Par branches) s = free_fork branches
free_what _ s = tt

free_stmt : (o : Option UStmt) (s : StatementView) → IsFree (stmt_stop o s)
free_stmt None s = tt
free_stmt (Some stmt) s = free_what (out-UWhat stmt.what) s

free_or : (t : Option TrappedAt) (s : StopView) → t ≡ None → IsFree s → IsFree (stop_or t s)
free_or None s none h = h
free_or (Some t) s none h = absurd cc

free_stop : (l : LocalState) → l.trap ≡ None → IsFree (stop l)
unfolding stop
free_stop l none = free_or l.trap (stmt_stop (next_stmt l.frame.todo) (statement_view l)) none (free_stmt (next_stmt l.frame.todo) (statement_view l))

-- who stands at a put has none

none_or : (t : Option TrappedAt) (s : StopView) → stop_or t s ≡ AtPut → t ≡ None
none_or None s e = refl
none_or (Some t) s e = absurd cc

none_at_put : (l : LocalState) → stop l ≡ AtPut → l.trap ≡ None
unfolding stop
none_at_put l e = none_or l.trap (stmt_stop (next_stmt l.frame.todo) (statement_view l)) e

pub put_goes : (l : LocalState) (b : ℕ) → stop l ≡ AtPut → byte l ≡ Some b → IsTrapped process_ops (put l) → ⊥
put_goes l b at e (kind, line, trapped) = subst IsFree trapped (free_stop (put l) (put_trap l b e ∙ none_at_put l at))
