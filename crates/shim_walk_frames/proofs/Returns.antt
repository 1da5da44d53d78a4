-- Returns, and that the text of each unit fits.
use Rattle.std.proofs.Common.{◌≡◌, ℕ, zero, suc, ◌+◌, ◌<◌, ◌≤◌, ◌^◌, List, [], ◌∷◌, map, take, Bool, true, false, refl, sym, ap, ◌∙◌, arith, if◌then◌else◌, length, get_or, drop, drop-cons, subst}
use Rattle.shim_units.specs.declared.unit.Unit.{Unit as UnitOf}
use Rattle.shim_units.specs.declared.unit.UStmt.{UStmt}
use Rattle.shim_process.specs.Locations.{Locations}
use Rattle.shim_process.specs.Todo as todo
use Rattle.shim_process.specs.LocalState.{LocalState, Frame}
use Rattle.shim_process.specs.Ends.{went, is_over, settled, gone}
use Rattle.shim_walk_frames.specs.declared.successors.Successor.TheVariants.{On}
use Rattle.shim_walk_frames.specs.Successors.{size_all}
use Rattle.shim_walk_frames.specs.FrameViews.{FrameView, frame_of}
use Rattle.shim_walk_frames.specs.Depths.{unit_stmts, shown, Depth, returned, depth_of, AllFit}
use Rattle.shim_walk_frames.proofs.Goes.{goes_at, ends}

pub text_fits : (units : List UnitOf) (n : ℕ) → AllFit units → size_all (unit_stmts units n) < 2 ^ 32
text_fits [] n fit = omega arith
text_fits (u ∷ us) zero fit = fit.0
text_fits (u ∷ us) (suc n) fit = text_fits us n fit.1

-- a process of this depth
abbrev pub at_depth : Depth → LocalState → LocalState
at_depth d l = record l { frame = d.frame; callers = d.callers; locations = d.locations }

pub one_settled : (b : Bool) (over stays_on l : LocalState) (returns stays : Depth) → over ≡ at_depth returns l → stays_on ≡ at_depth stays l → (if b then over else stays_on) ≡ at_depth (if b then returns else stays) l
one_settled true over stays_on l returns stays e f = e
one_settled false over stays_on l returns stays e f = f

-- what is settled is what returned, and all else as it was
pub settled_is : (callers : List Frame) (f : Frame) (l : LocalState) → settled callers f l ≡ at_depth (returned callers f l.locations) l
settled_is [] f l = refl
settled_is (c ∷ cs) f l =
    let less = record l { locations = take f.floor l.locations } in
    one_settled (is_over f.todo) (settled cs (went todo.On c) less) (record l { frame = f; callers = c ∷ cs }) l (returned cs (went todo.On c) (take f.floor l.locations)) (record { frame = f; callers = c ∷ cs; locations = l.locations })
    (settled_is cs (went todo.On c) less) refl

in_text : (body : List UStmt) (s : FrameView) → s.at < size_all body → is_over (frame_of body s).todo ≡ false
in_text body s lt = let g = goes_at body s.at On lt in ap is_over g.here_is

-- within its text nothing returns
pub stays_in : (units : List UnitOf) (top : FrameView) (callers : List FrameView) (locations : Locations) → top.at < size_all (unit_stmts units top.unit)
    → depth_of units top callers locations ≡ returned (map (shown units) callers) (shown units top) locations
stays_in units top [] locations lt = refl
stays_in units top (c ∷ cs) locations lt =
    ap
    (λ b. if b then returned (map (shown units) cs) (went todo.On (shown units c)) (take top.floor locations) else depth_of units top (c ∷ cs) locations)
    (sym (in_text (unit_stmts units top.unit) top lt))

-- the first unit doesn't return
pub ends_here : (units : List UnitOf) (top : FrameView) (locations : Locations) → depth_of units top [] locations ≡ returned (map (shown units) []) (shown units top) locations
ends_here units top locations = refl

-- a unit that is over returns to its caller
pub comes_back : (units : List UnitOf) (top caller next : FrameView) (callers : List FrameView) (locations : Locations) → size_all (unit_stmts units top.unit) ≤ top.at
    → next.unit ≡ caller.unit → frame_of (unit_stmts units caller.unit) next ≡ went todo.On (shown units caller)
    → returned (map (shown units) callers) (shown units next) (take top.floor locations) ≡ returned (map (shown units) (caller ∷ callers)) (shown units top) locations
comes_back units top caller next callers locations le same e =
    let rest = map (shown units) callers in
    let left = take top.floor locations in
    ap (λ n. returned rest (frame_of (unit_stmts units n) next) left) same
    ∙ ap (λ f. returned rest f left) e
    ∙ ap (λ b. if b then returned rest (went todo.On (shown units caller)) left else depth_of units top (caller ∷ callers) locations) (sym (ap is_over (ends (unit_stmts units top.unit) top.at le)))

-- on, with all ends that follow
pub gone_by : (l : LocalState) (successor : todo.Successor) (d : Depth) → d ≡ returned l.callers (went successor l.frame) l.locations → at_depth d l ≡ gone successor l
unfolding gone
gone_by l successor d e = ap (λ x. at_depth x l) e ∙ sym (settled_is l.callers (went successor l.frame) l)

-- one unit more fits
pub fits_more : (units : List UnitOf) (i : ℕ) (d : UnitOf) → i < length units → size_all (get_or units i d).body < 2 ^ 32 → AllFit (drop (i + 1) units) → AllFit (drop i units)
fits_more units i d lt fit rest = subst AllFit (sym (drop-cons units i d lt)) (fit, subst (λ n. AllFit (drop n units)) (let e : i + 1 ≡ suc i = omega arith in e) rest)
