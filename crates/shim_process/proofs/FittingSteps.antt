-- The frames of a process fit its locations after each of its steps that isn't a fork or a join, and its parameters stay on their channels.
use Rattle.std.proofs.Common.{◌≡◌, ℕ, ℤ, ◌+◌, ◌<◌, ◌≤◌, true, List, ◌∷◌, ◌++◌, length, Option, Some, None, refl, arith, length-append}
use Rattle.std.specs.Prelude.{slice_set}
use Rattle.shim_base.specs.declared.types.Ty.{Ty}
use Rattle.shim_base.specs.declared.operators.Trap.{Trap}
use Rattle.shim_units.specs.declared.unit.Unit.{Unit as UnitOf}
use Rattle.shim_units.specs.declared.unit.UStmt.{UStmt}
use Rattle.shim_units.specs.declared.unit.UWhat.{UWhat, UWhat-F, out-UWhat}
use Rattle.shim_process.specs.Locations.{Location, Locations, store_at}
use Rattle.shim_process.specs.Todo.{On, First}
use Rattle.shim_process.specs.LocalState.{LocalState, Frame, unit_at, number_of, trapped}
use Rattle.shim_process.specs.Arguments.{Argument, new_location, new_channels, call_locations, call_slots, declared_slots, empties, entered}
use Rattle.shim_process.specs.Ends.{settled, gone}
use Rattle.shim_process.specs.Steps.{Action, Go, Store, StoreFirst, Make, Read, Enter, Install, Trapped, Wait, next_action, line_of, stored_in, made_in, next_byte, read_in, half, installed, variable_in, installing, pushed, called, done}
use Rattle.shim_process.specs.Stops.{what_receive, stmt_receive}
use Rattle.shim_process.specs.declared.handler_variable.HandlerVariable.{HandlerVariable}
use Rattle.shim_process.specs.OwnSlots.{is_own_slot, is_own_variable}
use Rattle.shim_process.specs.FittingFrames.{VariableFits, FrameFits, parameters_of, Fitting, IsFitting}
use Rattle.shim_process.proofs.PlaceChannels.{length_put, other_channel, before_channel, store_channel, store_length}
use Rattle.shim_process.proofs.CallSlots.{called_slot}
use Rattle.shim_process.proofs.FittingItems.{body_fits}
use Rattle.shim_process.proofs.FittingFrames.{inner_fits, installed_fits}
use Rattle.shim_process.proofs.FittingActions.{ActionFits, next_fits}
use Rattle.shim_process.proofs.FittingEnds.{GoesFitting, same_fitting, then_fitting, fitting_over, settled_fitting, frame_fitting, gone_fitting}

and_then : (l m k : LocalState) → GoesFitting l m → (IsFitting m → GoesFitting m k) → GoesFitting l k
and_then l m k f g = then_fitting l m k f.1 (g f.0)

-- a value is stored

stored_fitting : (x : ℕ) (v : ℤ) (l : LocalState) → IsFitting l → GoesFitting l (stored_in x v l)
stored_fitting x v l h =
    let at : ℕ = number_of l.frame.slots x in (
      fitting_over l.path l.program l.frame l.callers l.locations (store_at l.locations at v) (store_length l.locations at v) h,
      record { many = refl; channels = λ n below. store_channel l.locations at v n },
    )

read_fitting : (x : ℕ) (l : LocalState) → IsFitting l → GoesFitting l (read_in x l)
read_fitting x l h =
    let w : GoesFitting l (stored_in x (next_byte l.input_at l.input) l) = stored_fitting x (next_byte l.input_at l.input) l h in
    (w.0, record { many = refl; channels = w.1.channels })

-- a declaration is executed

not_there : (k n bound : ℕ) → bound ≤ k → n < bound → k ≡ n → ⊥
not_there k n bound a b e = omega (arith, a, b, e)

pub fitting_made : (l : LocalState) (k : ℕ) (o : Option Location) → IsFitting l → Fitting l.path l.program l.frame l.callers (slice_set l.locations k o)
fitting_made l k o h = fitting_over l.path l.program l.frame l.callers l.locations (slice_set l.locations k o) (length_put l.locations k o) h

made_fitting : (t : Ty) (x : ℕ) (v : ℤ) (l : LocalState) → IsFitting l → is_own_slot (unit_at l.program l.frame.unit) x ≡ true → GoesFitting l (made_in t x v l)
made_fitting t x v l h own =
    let k : ℕ = number_of l.frame.slots x in
    let new : Option Location = Some (new_location l.path l.made (number_of (unit_at l.program l.frame.unit).slot_names x) t v) in
    let inner : FrameFits l.program (parameters_of l) l.frame = inner_fits l.program (parameters_of l) l.frame l.callers h.fit in
    let at : (l.frame.floor ≤ number_of l.frame.slots x) × (parameters_of l ≤ number_of l.frame.slots x) = inner.slots x own in (
      fitting_made l k new h,
      record { many = refl; channels = λ n below. other_channel l.locations k n new (not_there k n (parameters_of l) at.1 below) },
    )

-- a unit is called

less_with : (k n a b : ℕ) → k ≤ n → a ≡ n + b → k ≤ a
less_with k n a b h e = omega (arith, h, e)

less_below : (n k bound : ℕ) → n < k → k ≤ bound → n < bound
less_below n k bound a b = omega (arith, a, b)

itself : (n : ℕ) → n ≤ n
itself n = omega arith

-- the called unit's frame fits, with its locations after the others
pub fitting_called : (unit : ℕ) (given : List Argument) (labels : List ℕ) (l : LocalState) (ys : Locations) → IsFitting l → length given ≡ length (unit_at l.program unit).params
    → Fitting l.path l.program (entered (unit_at l.program unit) unit (call_slots (length l.locations) given (declared_slots (unit_at l.program unit))) labels (length l.locations) (l.frame.outer + length l.frame.places)) (l.frame ∷ l.callers) (l.locations ++ ys)
fitting_called unit given labels l ys h many =
    let u : UnitOf = unit_at l.program unit in
    let long : length (l.locations ++ ys) ≡ length l.locations + length ys = length-append l.locations ys in
    let all : parameters_of l ≤ length l.locations = h.long in
    record {
      uses = h.uses;
      fit = (
        record {
          todo = body_fits l.program u u.body 0 (h.uses unit);
          places = tt;
          slots = λ x own. let at = called_slot (length l.locations) u given x many own in (at, omega (arith, at, all));
        },
        all,
        h.floor,
        h.fit,
      );
      long = less_with (parameters_of l) (length l.locations) (length (l.locations ++ ys)) (length ys) all long;
      floor = less_with (length l.locations) (length l.locations) (length (l.locations ++ ys)) (length ys) (itself (length l.locations)) long;
    }

called_fitting : (unit : ℕ) (given : List Argument) (labels : List ℕ) (l : LocalState) → IsFitting l → length given ≡ length (unit_at l.program unit).params → GoesFitting l (called unit given labels l)
unfolding called pushed
called_fitting unit given labels l h many =
    let u : UnitOf = unit_at l.program unit in
    let ys : Locations = call_locations l.path l.locations l.made given ++ empties (declared_slots u) in
    let f : Frame = entered u unit (call_slots (length l.locations) given (declared_slots u)) labels (length l.locations) (l.frame.outer + length l.frame.places) in
    let k : LocalState = record l { frame = f; callers = l.frame ∷ l.callers; locations = l.locations ++ ys; made = l.made + new_channels given } in
    then_fitting l k (settled (l.frame ∷ l.callers) f k)
    (record { many = refl; channels = λ n below. before_channel l.locations ys n (less_below n (parameters_of l) (length l.locations) below h.long) })
    (settled_fitting (l.frame ∷ l.callers) f k (fitting_called unit given labels l ys h many))

-- each quiet step

half_fitting : (l : LocalState) → IsFitting l → GoesFitting l (record l { frame = half l.frame })
half_fitting l h =
    let inner : FrameFits l.program (parameters_of l) l.frame = inner_fits l.program (parameters_of l) l.frame l.callers h.fit in
    frame_fitting l (half l.frame) h (record { unit = refl; floor = refl; fit = record { todo = inner.todo; places = inner.places; slots = inner.slots } })

armed_frame : (x name : ℕ) (y : Option HandlerVariable) (l : LocalState) → IsFitting l → VariableFits (unit_at l.program l.frame.unit) y → GoesFitting l (record l { frame = installed x name y l.frame })
armed_frame x name y l h own =
    let inner : FrameFits l.program (parameters_of l) l.frame = inner_fits l.program (parameters_of l) l.frame l.callers h.fit in
    frame_fitting l (installed x name y l.frame) h (record { unit = refl; floor = refl; fit = installed_fits l.program (parameters_of l) x name y l.frame own inner })

armed_fitting : (x name : ℕ) (y : Option ℕ) (l : LocalState) → IsFitting l → is_own_variable (unit_at l.program l.frame.unit) y ≡ true → GoesFitting l (installing x name y l)
armed_fitting x name None l h own = armed_frame x name None l h tt
armed_fitting x name (Some y) l h own =
    let w : GoesFitting l (record l { frame = installed x name (Some (variable_in y l)) l.frame }) = armed_frame x name (Some (variable_in y l)) l h own in
    (w.0, record { many = w.1.many; channels = w.1.channels })

pub trapped_fitting : (kind : Trap) (line : ℕ) (l : LocalState) → IsFitting l → GoesFitting l (trapped kind line l)
trapped_fitting kind line l h = (h, record { many = refl; channels = λ n below. refl })

done_fitting : (d : Action) (l : LocalState) → IsFitting l → ActionFits l d → GoesFitting l (done d l)
done_fitting (Go successor) l h fit = gone_fitting successor l h
done_fitting (Store x v) l h fit = and_then l (stored_in x v l) (gone On (stored_in x v l)) (stored_fitting x v l h) (λ w. gone_fitting On (stored_in x v l) w)
done_fitting (StoreFirst x v) l h fit = and_then l (stored_in x v l) (record (stored_in x v l) { frame = half l.frame }) (stored_fitting x v l h) (λ w. half_fitting (stored_in x v l) w)
done_fitting (Make t x v) l h fit = and_then l (made_in t x v l) (gone On (made_in t x v l)) (made_fitting t x v l h fit) (λ w. gone_fitting On (made_in t x v l) w)
done_fitting (Read x) l h fit = and_then l (read_in x l) (gone On (read_in x l)) (read_fitting x l h) (λ w. gone_fitting On (read_in x l) w)
done_fitting (Enter unit given labels) l h fit = called_fitting unit given labels l h fit
done_fitting (Install x name y) l h fit = and_then l (installing x name y l) (gone First (installing x name y l)) (armed_fitting x name y l h fit) (λ w. gone_fitting First (installing x name y l) w)
done_fitting (Trapped t) l h fit = trapped_fitting t (line_of l.frame.todo) l h
done_fitting Wait l h fit = (h, same_fitting l)

pub action_fitting : (l : LocalState) → IsFitting l → GoesFitting l (done (next_action l) l)
action_fitting l h = done_fitting (next_action l) l h (next_fits l h)

-- a rendezvous

what_fitting : (w : UWhat-F UWhat UStmt) (v : ℤ) (l : LocalState) → IsFitting l → GoesFitting l (what_receive w v l)
what_fitting (UWhat-F.Next x) v l h = and_then l (stored_in x v l) (gone On (stored_in x v l)) (stored_fitting x v l h) (λ w. gone_fitting On (stored_in x v l) w)
what_fitting (UWhat-F.NextAssign x e) v l h = and_then l (stored_in x v l) (gone On (stored_in x v l)) (stored_fitting x v l h) (λ w. gone_fitting On (stored_in x v l) w)
what_fitting (UWhat-F.AssignNext x y) v l h = and_then l (stored_in y v l) (record (stored_in y v l) { frame = half l.frame }) (stored_fitting y v l h) (λ w. half_fitting (stored_in y v l) w)
what_fitting _ v l h = (h, same_fitting l)

pub stmt_fitting : (o : Option UStmt) (v : ℤ) (l : LocalState) → IsFitting l → GoesFitting l (stmt_receive o v l)
stmt_fitting None v l h = (h, same_fitting l)
stmt_fitting (Some stmt) v l h = what_fitting (out-UWhat stmt.what) v l h
