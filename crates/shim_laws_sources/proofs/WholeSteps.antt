-- A process that is whole is that after each of its steps that isn't a fork.
use Rattle.std.proofs.Common.{◌≡◌, ℕ, ℤ, true, Option, Some, None, Ok, Err, refl, sym, subst}
use Rattle.shim_base.specs.declared.operators.Trap.{Trap}
use Rattle.shim_local.specs.Process.{Trapped as TrappedFork}
use Rattle.shim_units.specs.declared.unit.UStmt.{UStmt}
use Rattle.shim_units.specs.declared.unit.UWhat.{UWhat, UWhat-F, out-UWhat}
use Rattle.shim_process.specs.Values.{Value}
use Rattle.shim_process.specs.Todo.{On, First, next_stmt}
use Rattle.shim_process.specs.declared.handler_variable.HandlerVariable.{HandlerVariable}
use Rattle.shim_process.specs.OwnSlots.{is_own_variable}
use Rattle.shim_process.specs.LocalState.{LocalState, unit_at, trapped}
use Rattle.shim_process.specs.Ends.{gone}
use Rattle.shim_process.specs.Forks.{fork}
use Rattle.shim_process.specs.Steps.{Action, Go, Store, StoreFirst, Make, Read, Enter, Install, Trapped, Wait, next_action, line_of, stored_in, made_in, read_in, half, installed, variable_in, installing, done, quiet}
use Rattle.shim_process.specs.Stops.{put_value, after_put, put, thrown_value, after_throw, throw_evaluated, what_receive, stmt_receive, receive}
use Rattle.shim_process.proofs.CallKeeps.{fork_trapped}
use Rattle.shim_process.specs.FittingFrames.{VariableFits, FrameFits, parameters_of}
use Rattle.shim_laws_sources.specs.Anchored.{IsAnchoredWhole}
use Rattle.shim_process.proofs.FittingActions.{ActionFits, next_fits}
use Rattle.shim_process.proofs.FittingFrames.{inner_fits, installed_fits}
use Rattle.shim_laws_sources.proofs.WholeEnds.{Moves, stays_same, moves_on, anchored_on, frame_stays, gone_whole}
use Rattle.shim_laws_sources.proofs.WholeStores.{stored_whole, read_whole, made_whole}
use Rattle.shim_laws_sources.proofs.WholeCalls.{called_whole}

-- each step

half_whole : (l : LocalState) → IsAnchoredWhole l → Moves l (record l { frame = half l.frame })
half_whole l h =
    let inner : FrameFits l.program (parameters_of l) l.frame = inner_fits l.program (parameters_of l) l.frame l.callers h.0.fitting.fit in (
      (anchored_on l.path l.program l.frame (half l.frame) l.callers l.locations h.0 (record { unit = refl; floor = refl; fit = record { todo = inner.todo; places = inner.places; slots = inner.slots } }), h.1),
      frame_stays l (half l.frame) refl,
    )

arm_frame : (x name : ℕ) (y : Option HandlerVariable) (l : LocalState) → IsAnchoredWhole l → VariableFits (unit_at l.program l.frame.unit) y → Moves l (record l { frame = installed x name y l.frame })
arm_frame x name y l h own =
    let inner : FrameFits l.program (parameters_of l) l.frame = inner_fits l.program (parameters_of l) l.frame l.callers h.0.fitting.fit in (
      (anchored_on l.path l.program l.frame (installed x name y l.frame) l.callers l.locations h.0 (record { unit = refl; floor = refl; fit = installed_fits l.program (parameters_of l) x name y l.frame own inner }), h.1),
      frame_stays l (installed x name y l.frame) refl,
    )

arm_whole : (x name : ℕ) (y : Option ℕ) (l : LocalState) → IsAnchoredWhole l → is_own_variable (unit_at l.program l.frame.unit) y ≡ true → Moves l (installing x name y l)
arm_whole x name None l h own = arm_frame x name None l h tt
arm_whole x name (Some y) l h own =
    let w : Moves l (record l { frame = installed x name (Some (variable_in y l)) l.frame }) = arm_frame x name (Some (variable_in y l)) l h own in
    (w.0, record { path = w.1.path; given = w.1.given; many = w.1.many; owned = w.1.owned })

trapped_whole : (kind : Trap) (line : ℕ) (l : LocalState) → IsAnchoredWhole l → Moves l (trapped kind line l)
trapped_whole kind line l h = (h, record { path = refl; given = refl; many = refl; owned = λ n c below o. o })

and_then : (l m n : LocalState) → Moves l m → (IsAnchoredWhole m → Moves m n) → Moves l n
and_then l m n f g = moves_on l m n f.1 (g f.0)

done_whole : (d : Action) (l : LocalState) → IsAnchoredWhole l → ActionFits l d → Moves l (done d l)
done_whole (Go successor) l h fit = gone_whole successor l h
done_whole (Store x v) l h fit = and_then l (stored_in x v l) (gone On (stored_in x v l)) (stored_whole x v l h) (λ w. gone_whole On (stored_in x v l) w)
done_whole (StoreFirst x v) l h fit = and_then l (stored_in x v l) (record (stored_in x v l) { frame = half l.frame }) (stored_whole x v l h) (λ w. half_whole (stored_in x v l) w)
done_whole (Make t x v) l h fit = and_then l (made_in t x v l) (gone On (made_in t x v l)) (made_whole t x v l h fit) (λ w. gone_whole On (made_in t x v l) w)
done_whole (Read x) l h fit = and_then l (read_in x l) (gone On (read_in x l)) (read_whole x l h) (λ w. gone_whole On (read_in x l) w)
done_whole (Enter unit given labels) l h fit = called_whole unit given labels l h fit
done_whole (Install x name y) l h fit = and_then l (installing x name y l) (gone First (installing x name y l)) (arm_whole x name y l h fit) (λ w. gone_whole First (installing x name y l) w)
done_whole (Trapped t) l h fit = trapped_whole t (line_of l.frame.todo) l h
done_whole Wait l h fit = (h, stays_same l)

pub quiet_whole : (l : LocalState) → IsAnchoredWhole l → Moves l (quiet l)
unfolding quiet
quiet_whole l h = done_whole (next_action l) l h (next_fits l h.0.fitting)

after_put_whole : (r : Value) (l : LocalState) → IsAnchoredWhole l → Moves l (after_put r l)
after_put_whole (Ok v) l h = gone_whole On l h
after_put_whole (Err t) l h = trapped_whole t (line_of l.frame.todo) l h

after_throw_whole : (r : Value) (l : LocalState) → IsAnchoredWhole l → Moves l (after_throw r l)
after_throw_whole (Ok v) l h = (h, stays_same l)
after_throw_whole (Err t) l h = trapped_whole t (line_of l.frame.todo) l h

pub thrown_whole : (l : LocalState) → IsAnchoredWhole l → Moves l (throw_evaluated l)
unfolding throw_evaluated
thrown_whole l h = after_throw_whole (thrown_value l) l h

pub put_whole : (l : LocalState) → IsAnchoredWhole l → Moves l (put l)
unfolding put
put_whole l h = after_put_whole (put_value l) l h

what_whole : (w : UWhat-F UWhat UStmt) (v : ℤ) (l : LocalState) → IsAnchoredWhole l → Moves l (what_receive w v l)
what_whole (UWhat-F.Next x) v l h = and_then l (stored_in x v l) (gone On (stored_in x v l)) (stored_whole x v l h) (λ w. gone_whole On (stored_in x v l) w)
what_whole (UWhat-F.NextAssign x e) v l h = and_then l (stored_in x v l) (gone On (stored_in x v l)) (stored_whole x v l h) (λ w. gone_whole On (stored_in x v l) w)
what_whole (UWhat-F.AssignNext x y) v l h = and_then l (stored_in y v l) (record (stored_in y v l) { frame = half l.frame }) (stored_whole y v l h) (λ w. half_whole (stored_in y v l) w)
what_whole _ v l h = (h, stays_same l)

stmt_whole : (o : Option UStmt) (v : ℤ) (l : LocalState) → IsAnchoredWhole l → Moves l (stmt_receive o v l)
stmt_whole None v l h = (h, stays_same l)
stmt_whole (Some stmt) v l h = what_whole (out-UWhat stmt.what) v l h

pub receive_whole : (l : LocalState) (v : ℤ) → IsAnchoredWhole l → Moves l (receive l v)
unfolding receive
receive_whole l v h = stmt_whole (next_stmt l.frame.todo) v l h

pub fork_trapped_whole : (l m : LocalState) → fork l ≡ TrappedFork m → IsAnchoredWhole l → Moves l m
fork_trapped_whole l m e h = let w = fork_trapped l m e in subst (λ (z : LocalState). Moves l z) (sym w.2) (trapped_whole w.0 w.1 l h)
