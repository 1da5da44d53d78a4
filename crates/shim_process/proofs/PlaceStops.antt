-- What a process stands at is its own.
use Rattle.std.proofs.Common.{◌≡◌, ℕ, ℤ, ◌<◌, Bool, true, false, List, [], ◌∷◌, Option, Some, None, Ok, Err, refl, subst}
use Rattle.shim_base.specs.declared.operators.Trap.{Trap}
use Rattle.shim_base.specs.Paths.{NamedChannel}
use Rattle.shim_local.specs.Process.{StopView, AtQuiet, AtNext, AtPut, AtThrow, AtTrap}
use Rattle.shim_units.specs.declared.unit.UBranch.{UBranch}
use Rattle.shim_units.specs.declared.unit.UStmt.{UStmt}
use Rattle.shim_units.specs.declared.unit.UWhat.{UWhat, UWhat-F, out-UWhat}
use Rattle.shim_process.specs.Values.{Value}
use Rattle.shim_process.specs.Locations.{Location, at_number}
use Rattle.shim_process.specs.Todo.{next_stmt}
use Rattle.shim_process.specs.LocalState.{LocalState, TrappedAt, location_of, number_of, handlers, trapped}
use Rattle.shim_process.specs.StatementViews.{statement_view}
use Rattle.shim_process.specs.Sharers.{shares}
use Rattle.shim_process.specs.Steps.{line_of}
use Rattle.shim_process.specs.Stops.{at_next, at_put, at_fork, what_stop, stmt_stop, stop_or, stop, put_value, low_bits, byte, after_put, put, number_or_none, thrown_value, thrown_number, after_throw, throw_evaluated}
use Rattle.shim_process.specs.Sound.{Sound}
use Rattle.shim_process.proofs.LabelFrames.{label_below}
use Rattle.shim_base.proofs.Facts.{choose}

-- at one of its locations
abbrev pub StandsOn : LocalState → NamedChannel → Type 0
StandsOn l c = (n : ℕ) × (x : Location) × (at_number l.locations n ≡ Some x) × (x.channel ≡ c)

-- what holds where a process stands so
abbrev IsItsOwn : LocalState → StopView → Type 0
IsItsOwn l (AtNext c) = StandsOn l c
IsItsOwn l AtPut = l.holds_output ≡ true
IsItsOwn l (AtThrow x) = x < handlers l
IsItsOwn l _ = Unit {0}

own_next : (l : LocalState) (n : ℕ) (o : Option Location) → at_number l.locations n ≡ o → IsItsOwn l (at_next o)
own_next l n None e = tt
own_next l n (Some x) e = (n, x, e, refl)

own_put : (l : LocalState) (b : Bool) → l.holds_output ≡ b → IsItsOwn l (at_put b)
own_put l true e = e
own_put l false e = tt

own_fork : (l : LocalState) (branches : List UBranch) → IsItsOwn l (at_fork branches)
own_fork l [] = tt
own_fork l (b ∷ branches) = tt

own_what : (w : UWhat-F UWhat UStmt) (l : LocalState) → Sound l → IsItsOwn l (what_stop w (statement_view l))
own_what (UWhat-F.Next x) l s = own_next l (number_of l.frame.slots x) (location_of l.locations l.frame.slots x) refl
own_what (UWhat-F.NextAssign x e) l s =
    choose (IsItsOwn l) l.frame.halfway (at_next (location_of l.locations l.frame.slots x)) AtQuiet (own_next l (number_of l.frame.slots x) (location_of l.locations l.frame.slots x) refl) tt
own_what (UWhat-F.AssignNext x y) l s =
    choose (IsItsOwn l) l.frame.halfway AtQuiet (at_next (location_of l.locations l.frame.slots y)) tt (own_next l (number_of l.frame.slots y) (location_of l.locations l.frame.slots y) refl)
own_what (UWhat-F.Put o e) l s = own_put l l.holds_output refl
own_what (UWhat-F.Throw x e) l s = label_below l x s
own_what (UWhat-F.Par branches) l s = own_fork l branches
own_what _ l s = tt

own_stmt : (o : Option UStmt) (l : LocalState) → Sound l → IsItsOwn l (stmt_stop o (statement_view l))
own_stmt None l s = tt
own_stmt (Some stmt) l s = own_what (out-UWhat stmt.what) l s

own_or : (l : LocalState) (t : Option TrappedAt) (s : StopView) → IsItsOwn l s → IsItsOwn l (stop_or t s)
own_or l None s h = h
own_or l (Some t) s h = tt

own_stop : (l : LocalState) → Sound l → IsItsOwn l (stop l)
unfolding stop
own_stop l s = own_or l l.trap (stmt_stop (next_stmt l.frame.todo) (statement_view l)) (own_stmt (next_stmt l.frame.todo) l s)

pub next_shares : (l : LocalState) (c : NamedChannel) → Sound l → stop l ≡ AtNext c → shares l c.channel ≡ true
next_shares l c s e =
    let w : StandsOn l c = subst (IsItsOwn l) e (own_stop l s) in
    subst (λ (d : NamedChannel). shares l d.channel ≡ true) w.3 (s.channels w.0 w.1 w.2)

pub put_holds : (l : LocalState) → Sound l → stop l ≡ AtPut → l.holds_output ≡ true
put_holds l s e = subst (IsItsOwn l) e (own_stop l s)

pub throw_below : (l : LocalState) (x : ℕ) → Sound l → stop l ≡ AtThrow x → x < handlers l
throw_below l x s e = subst (IsItsOwn l) e (own_stop l s)

-- a process that is trapped stands so
pub trapped_stands : (kind : Trap) (line : ℕ) (l : LocalState) → stop (trapped kind line l) ≡ AtTrap kind line
unfolding stop
trapped_stands kind line l = refl

after_put_stands : (r : Value) (l : LocalState) → low_bits r ≡ None → (kind : Trap) × (line : ℕ) × (stop (after_put r l) ≡ AtTrap kind line)
after_put_stands (Ok v) l e = absurd (cc)
after_put_stands (Err t) l e = (t, line_of l.frame.todo, trapped_stands t (line_of l.frame.todo) l)

pub put_traps : (l : LocalState) → byte l ≡ None → (kind : Trap) × (line : ℕ) × (stop (put l) ≡ AtTrap kind line)
unfolding put byte
put_traps l e = after_put_stands (put_value l) l e

-- a throw with a number stays where it is, and one without is trapped

after_throw_same : (r : Value) (l : LocalState) (v : ℤ) → number_or_none r ≡ Some v → after_throw r l ≡ l
after_throw_same (Ok w) l v e = refl
after_throw_same (Err t) l v e = absurd (cc)

pub thrown_same : (l : LocalState) (v : ℤ) → thrown_number l ≡ Some v → throw_evaluated l ≡ l
unfolding throw_evaluated thrown_number
thrown_same l v e = after_throw_same (thrown_value l) l v e

after_throw_stands : (r : Value) (l : LocalState) → number_or_none r ≡ None → (kind : Trap) × (line : ℕ) × (stop (after_throw r l) ≡ AtTrap kind line)
after_throw_stands (Ok v) l e = absurd (cc)
after_throw_stands (Err t) l e = (t, line_of l.frame.todo, trapped_stands t (line_of l.frame.todo) l)

pub throw_traps : (l : LocalState) → thrown_number l ≡ None → (kind : Trap) × (line : ℕ) × (stop (throw_evaluated l) ≡ AtTrap kind line)
unfolding throw_evaluated thrown_number
throw_traps l e = after_throw_stands (thrown_value l) l e
