-- A process put at another statement, and out of its innermost unit.
use Rattle.std.proofs.Common.{◌≡◌, ℕ, Bool, List, ◌∷◌, None, map, take, sym, ap, ◌∙◌}
use Rattle.std.proofs.lemmas.List.{take-map}
use Rattle.shim_process.specs.Locations.{Locations}
use Rattle.shim_process.specs.LocalState.{Frame, LocalState, unit_at}
use Rattle.shim_walk_frames.specs.Depths.{shown, unit_stmts}
use Rattle.shim_walk_frames.specs.FrameViews.{FrameView, exception_place_of}
use Rattle.shim_walk_frames.specs.Pieces.{left_all}
use Rattle.shim_walk.specs.Returning.{HasExitedFrame, resting}

pub rests : (l : LocalState) (top next : FrameView) (number : ℕ) (halfway : Bool) (kept : ℕ) → l.frame ≡ shown l.program.units top
    → next ≡ record top { at = number; cursor = None; halfway = halfway; places = take kept top.places } → record l { frame = shown l.program.units next } ≡ resting number halfway kept l
unfolding unit_at
rests l top next number halfway kept e h =
    let units = l.program.units in
    let body = unit_stmts units top.unit in
    ap (λ t. record l { frame = shown units t }) h
    ∙ ap (λ ps. record l { frame = record (shown units top) { todo = left_all body number; halfway = halfway; places = ps } }) (sym (take-map (exception_place_of body) kept top.places))
    ∙ ap (λ (f : Frame). record l { frame = record f { todo = left_all (unit_at l.program f.unit).body number; halfway = halfway; places = take kept f.places } }) (sym e)

pub leaves : (l : LocalState) (top caller : FrameView) (callers rest : List FrameView) (locations : Locations) → l.callers ≡ map (shown l.program.units) callers → callers ≡ caller ∷ rest
    → top ≡ caller → locations ≡ take l.frame.floor l.locations
    → HasExitedFrame l (record l { frame = shown l.program.units top; callers = map (shown l.program.units) rest; locations = locations })
leaves l top caller callers rest locations e er et el =
    let units = l.program.units in
    let below = map (shown units) rest in
    record {
      caller = shown units caller;
      callers = below;
      waited = e ∙ ap (map (shown units)) er;
      left = ap (λ t. record l { frame = shown units t; callers = below; locations = locations }) et ∙ ap (λ x. record l { frame = shown units caller; callers = below; locations = x }) el;
    }
