-- A call, step by step.
use Rattle.std.proofs.Common.{◌≡◌, ℕ, ◌+◌, Bool, false, List, [], ◌∷◌, ◌++◌, map, length, Option, sym, ap, subst, ◌∙◌, slice_get}
use Rattle.std.proofs.lemmas.List.{length-map}
use Rattle.shim_base.specs.Paths.{Path, NamedChannel}
use Rattle.shim_units.specs.declared.form.Form.{Form}
use Rattle.shim_process.specs.Locations.{Locations}
use Rattle.shim_walk.specs.declared.trapped_at.TrappedAt.{TrappedAt}
use Rattle.shim_walk.specs.declared.entry.EnteredUnit.{EnteredUnit}
use Rattle.shim_walk_frames.specs.declared.cursor.Cursor.{Cursor}
use Rattle.shim_process.specs.declared.serial_run.SerialRun.{SerialRun}
use Rattle.shim_walk.specs.States.{state_of}
use Rattle.shim_units.specs.declared.unit.Unit.{Unit as UnitOf}
use Rattle.shim_process.specs.LocalState.{LocalState, unit_or, unit_at}
use Rattle.shim_process.specs.Arguments.{Argument, entered, call_slots, declared_slots}
use Rattle.shim_process.specs.Ends.{settled}
use Rattle.shim_process.specs.Steps.{pushed, called}
use Rattle.shim_walk_frames.specs.FrameViews.{FrameView, exception_place_of}
use Rattle.shim_walk_frames.specs.Depths.{shown, unit_stmts}
use Rattle.shim_walk.specs.Entries.{IsEntry}
use Rattle.shim_walk_frames.proofs.Goes.{left_first}

pub entry_top : (units : List UnitOf) (unit floor outer : ℕ) (cursor : Option Cursor) (slots labels slots' labels' : List ℕ) (top : FrameView)
    → top ≡ record { unit = unit; at = 0; cursor = cursor; halfway = false; slots = slots'; labels = labels'; floor = floor; outer = outer; places = [] }
    → slots' ≡ slots → labels' ≡ labels
    → shown units top ≡ entered (unit_or (slice_get units unit)) unit slots labels floor outer
entry_top units unit floor outer cursor slots labels slots' labels' top e f g =
    ap (shown units) e
    ∙ ap (λ k. record { unit = unit; todo = k; halfway = false; slots = slots'; labels = labels'; floor = floor; outer = outer; places = [] }) (left_first (unit_stmts units unit))
    ∙ ap (λ s. record { unit = unit; todo = (entered (unit_or (slice_get units unit)) unit slots labels floor outer).todo; halfway = false; slots = s; labels = labels'; floor = floor; outer = outer; places = [] }) f
    ∙ ap (λ l. record { unit = unit; todo = (entered (unit_or (slice_get units unit)) unit slots labels floor outer).todo; halfway = false; slots = slots; labels = l; floor = floor; outer = outer; places = [] }) g

pub called_by : (unit : ℕ) (given : List Argument) (labels : List ℕ) (l m : LocalState) → m ≡ pushed unit given labels l → settled m.callers m.frame m ≡ called unit given labels l
unfolding called
called_by unit given labels l m e = ap (λ (x : LocalState). settled x.callers x.frame x) e

-- the unit stands there with what was made for it
pub pushed_by : (path : Path) (base made forks : ℕ) (untaken : List SerialRun) (given : List NamedChannel) (top : FrameView) (callers : List FrameView) (locations : Locations) (input_at : Option ℕ) (holds_output : Bool) (trap : Option TrappedAt) (program : Form) (input : List ℕ)
    → (unit outer : ℕ) (args : List Argument) (labels : List ℕ) (units : List UnitOf) (known : Locations) (e : EnteredUnit) (made' : ℕ) (top' caller : FrameView) (callers' : List FrameView) (locations' : Locations)
    → IsEntry units unit path known made outer args labels e → units ≡ program.units → known ≡ locations → outer ≡ top.outer + length top.places
    → top' ≡ e.top → caller ≡ top → callers' ≡ caller ∷ callers → locations' ≡ locations ++ e.locations → made' ≡ e.made
    → state_of path base made' forks untaken given top' callers' locations' input_at holds_output trap program input ≡ pushed unit args labels (state_of path base made forks untaken given top callers locations input_at holds_output trap program input)
unfolding pushed unit_at
pushed_by path base made forks untaken given top callers locations input_at holds_output trap program input unit outer args labels units known e made' top' caller callers' locations' is eu ek eo et ec ecs ecl em =
    let l = state_of path base made forks untaken given top callers locations input_at holds_output trap program input in
    let u = unit_or (slice_get program.units unit) in
    let places : length l.frame.places ≡ length top.places = length-map top.places (exception_place_of (unit_stmts program.units top.unit)) in
    let is' = subst (λ (us : List UnitOf). IsEntry us unit path known made outer args labels e) eu is in
    let is2 = subst (λ (ls : Locations). IsEntry program.units unit path ls made outer args labels e) ek is' in
    let frame : shown program.units top' ≡ (pushed unit args labels l).frame =
    ap (shown program.units) et ∙ is2.top
    ∙ ap (λ n. entered (unit_or (slice_get program.units unit)) unit (call_slots (length locations) args (declared_slots u)) labels (length locations) n) (eo ∙ ap (λ n. top.outer + n) (sym places)) in
    let all : map (shown program.units) callers' ≡ l.frame ∷ l.callers = ap (map (shown program.units)) ecs ∙ ap (λ c. shown program.units c ∷ map (shown program.units) callers) ec in
    let ls : locations' ≡ (pushed unit args labels l).locations = ecl ∙ ap (λ x. locations ++ x) is2.locations_are in
    let m : made' ≡ (pushed unit args labels l).made = em ∙ is2.made_is in
    ap (λ x. record l { frame = x; callers = map (shown program.units) callers'; locations = locations'; made = made' }) frame
    ∙ ap (λ x. record l { frame = (pushed unit args labels l).frame; callers = x; locations = locations'; made = made' }) all
    ∙ ap (λ x. record l { frame = (pushed unit args labels l).frame; callers = l.frame ∷ l.callers; locations = x; made = made' }) ls
    ∙ ap (λ x. record l { frame = (pushed unit args labels l).frame; callers = l.frame ∷ l.callers; locations = (pushed unit args labels l).locations; made = x }) m
