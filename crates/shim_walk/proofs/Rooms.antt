-- The room for takes is as much as variables of handlers are in force, or more, and the runs that aren't taken stand in order below the number of channels that were made.
use Rattle.std.proofs.Common.{◌≡◌, ◌∙◌, ◌≤◌, ◌<◌, ◌+◌, ℕ, List, [], ◌∷◌, ◌++◌, map, take, Option, Some, None, OnSome, Result, Ok, Err, OnOk, OnErr, refl, sym, ap, subst, arith}
use Rattle.shim_base.specs.declared.memory.NoMemory.{NoMemory}
use Rattle.shim_units.specs.declared.unit.Unit.{Unit as UnitOf}
use Rattle.shim_process.specs.declared.serial_run.SerialRun.{SerialRun}
use Rattle.shim_process.specs.LocalState.{Frame}
use Rattle.shim_process.specs.SerialRuns.{with_serial, without_some}
use Rattle.shim_process.specs.declared.handler_variable.HandlerVariable.{HandlerVariable}
use Rattle.shim_walk_frames.specs.declared.handler.Handler.{Handler}
use Rattle.shim_walk_frames.specs.FrameViews.{FrameView}
use Rattle.shim_walk_frames.specs.Depths.{shown}
use Rattle.shim_walk_frames.specs.Cursors.{HasOwnCursor}
use Rattle.shim_walk_frames.specs.Unwinding.{serial_of}
use Rattle.shim_walk_frames.specs.Variables.{one_of, variables_in, variables_of}
use Rattle.shim_walk_frames.proofs.Counting.{variables_more, variables_take}
use Rattle.shim_locations.specs.Runs.{AreBelow}
use Rattle.shim_locations.proofs.RunChanges.{weaker, with_below, some_below}

-- a frame with fewer of them
pub room_for : (top next : FrameView) (callers : List FrameView) (room : ℕ) → variables_of next.places ≤ variables_of top.places → variables_in (top ∷ callers) ≤ room → variables_in (next ∷ callers) ≤ room
room_for top next callers room fewer fits = omega (arith, fewer, fits)

-- with its outermost places alone
pub room_for_first : (k : ℕ) (top next : FrameView) (callers : List FrameView) (room : ℕ) → next.places ≡ take k top.places → variables_in (top ∷ callers) ≤ room → variables_in (next ∷ callers) ≤ room
room_for_first k top next callers room e fits =
    room_for top next callers room (subst (λ ps. variables_of ps ≤ variables_of top.places) (sym e) (variables_take k top.places)) fits

-- a frame is entered, in which no place is in force
none_of_map : {A B : Type 0} (f : A → B) (xs : List A) → map f xs ≡ [] → xs ≡ []
none_of_map f [] e = refl
none_of_map f (x ∷ xs) e = absurd (cc)

pub no_variables : (units : List UnitOf) (top : FrameView) (f : Frame) → shown units top ≡ f → f.places ≡ [] → variables_of top.places ≡ 0
no_variables units top f e none = ap variables_of (none_of_map _ top.places (ap (λ (g : Frame). g.places) e ∙ none))

-- a process begins with one frame, in which no place is in force
pub room_for_none : (units : List UnitOf) (top : FrameView) (callers : List FrameView) (f : Frame) (room : ℕ) → shown units top ≡ f → f.places ≡ [] → callers ≡ [] → variables_in (top ∷ callers) ≤ room
room_for_none units top callers f room e none alone =
    let own = no_variables units top f e none in
    let others : variables_in callers ≡ 0 = ap variables_in alone in
    omega (arith, own, others)

-- one more place is in force
pub room_for_one : (top next : FrameView) (p : Handler) (callers : List FrameView) (room : ℕ) → next.places ≡ top.places ++ p ∷ [] → variables_in (top ∷ callers) + one_of p.variable ≤ room → variables_in (next ∷ callers) ≤ room
room_for_one top next p callers room e fits =
    let more : variables_of next.places ≡ variables_of top.places + one_of p.variable = ap variables_of e ∙ variables_more top.places p in
    omega (arith, more, fits)

-- a place without a variable comes into force, unless that is refused
pub room_for_plain : (units : List UnitOf) (top next : FrameView) (p : Handler) (callers : List FrameView) (room : ℕ) (r : Result (Unit {0}) NoMemory) → one_of p.variable ≡ 0
    → OnOk r (next ≡ record top { places = top.places ++ p ∷ [] }) → OnErr r (next ≡ top) → HasOwnCursor units top → variables_in (top ∷ callers) ≤ room
    → HasOwnCursor units next × (variables_in (next ∷ callers) ≤ room)
room_for_plain units top next p callers room (Ok x) none ok err own_cursor fits =
    (subst (HasOwnCursor units) (sym ok) own_cursor, room_for_one top next p callers room (ap (λ (s : FrameView). s.places) ok) (omega (arith, none, fits)))
room_for_plain units top next p callers room (Err x) none ok err own_cursor fits = subst (λ (s : FrameView). HasOwnCursor units s × (variables_in (s ∷ callers) ≤ room)) (sym err) (own_cursor, fits)

-- a channel more was made
pub still_below : (made more : ℕ) (runs : List SerialRun) → made ≤ more → AreBelow made runs → AreBelow more runs
still_below made more runs le h = weaker made more runs le h

-- and its number isn't taken yet
pub below_with : (made more : ℕ) (runs new : List SerialRun) → made < more → AreBelow made runs → new ≡ with_serial made runs → AreBelow more new
below_with made more runs new lt h e = subst (AreBelow more) (sym e) (with_below more made runs lt h)

-- a catch takes the serial number of the handler's variable, where it has one
pub fewer_by : (y : Option HandlerVariable) (s : Option ℕ) (few many : ℕ) → s ≡ serial_of y → one_of y + few ≤ many → OnSome s (1 + few ≤ many)
fewer_by None s few many e h = subst (λ z. OnSome z (1 + few ≤ many)) (sym e) tt
fewer_by (Some y) s few many e h = let le : 1 + few ≤ many = omega (arith, h) in subst (λ z. OnSome z (1 + few ≤ many)) (sym e) le

-- room is left for those that are in force then
pub room_behind : (s : Option ℕ) (few many room left : ℕ) → OnSome s (1 + few ≤ many) → few ≤ many → OnSome s (left + 1 ≡ room) → (s ≡ None → left ≡ room) → many ≤ room → few ≤ left
room_behind None few many room left h le less same fits = let e = same refl in omega (arith, e, le, fits)
room_behind (Some n) few many room left h le less same fits = omega (arith, h, less, fits)

pub below_without : (made : ℕ) (s : Option ℕ) (runs new : List SerialRun) → AreBelow made runs → new ≡ without_some s runs → AreBelow made new
below_without made s runs new h e = subst (AreBelow made) (sym e) (some_below made s runs h)
