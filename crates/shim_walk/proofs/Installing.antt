-- An exception place comes into force with the variable of its handler, and the variable takes a number.
use Rattle.std.proofs.Common.{◌≡◌, ◌∙◌, ◌+◌, ℕ, ℤ, List, [], ◌∷◌, ◌++◌, map, take, slice_get, Option, Some, sym, ap}
use Rattle.std.proofs.lemmas.List.{map-append, take-map}
use Rattle.shim_units.specs.declared.unit.Unit.{Unit as UnitOf}
use Rattle.shim_process.specs.declared.handler_variable.HandlerVariable.{HandlerVariable}
use Rattle.shim_process.specs.declared.serial_run.SerialRun.{SerialRun}
use Rattle.shim_process.specs.Locations.{Locations}
use Rattle.shim_process.specs.LocalState.{Frame, LocalState}
use Rattle.shim_process.specs.SerialRuns.{with_serial, without_some}
use Rattle.shim_process.specs.Steps.{installed, installing, line_of, variable_in}
use Rattle.shim_process.specs.Unwinding.{catching}
use Rattle.shim_walk_frames.specs.FrameViews.{FrameView, exception_place_of}
use Rattle.shim_walk_frames.specs.Depths.{shown, unit_stmts}
use Rattle.shim_walk_frames.specs.Pieces.{left_all}
use Rattle.shim_walk_frames.specs.Unwinding.{catching_in, serial_of, taking_in, untaken_after, untaken_without, variable_of}
use Rattle.shim_walk_frames.proofs.Unwinds.{catches, caught_is, untaken_here}

-- one more place of a frame
shown_with : (units : List UnitOf) (top : FrameView) (x name line : ℕ) (y : Option HandlerVariable) → line ≡ line_of (shown units top).todo
    → shown units (record top { places = top.places ++ record { exception = x; name = name; line = line; at = top.at; variable = y } ∷ [] }) ≡ installed x name y (shown units top)
shown_with units top x name line y e =
    let body = unit_stmts units top.unit in
    ap (λ ps. record (shown units top) { places = ps }) (map-append (exception_place_of body) top.places (record { exception = x; name = name; line = line; at = top.at; variable = y } ∷ []))
    ∙ ap (λ n. record (shown units top) { places = map (exception_place_of body) top.places ++ record { exception = x; name = name; line = n; variable = y; todo = left_all body top.at } ∷ [] }) e

pub installs_variable : (l : LocalState) (top next : FrameView) (x name line slot made : ℕ) (y : HandlerVariable) (runs : List SerialRun)
    → l.frame ≡ shown l.program.units top → line ≡ line_of l.frame.todo
    → next ≡ record top { places = top.places ++ record { exception = x; name = name; line = line; at = top.at; variable = Some y } ∷ [] }
    → y ≡ variable_in slot l → runs ≡ with_serial l.made l.untaken → made ≡ l.made + 1
    → record l { frame = shown l.program.units next; untaken = runs; made = made } ≡ installing x name (Some slot) l
installs_variable l top next x name line slot made y runs ef el en ey er em =
    let units = l.program.units in
    ap (λ t. record l { frame = shown units t; untaken = runs; made = made }) en
    ∙ ap (λ f. record l { frame = f; untaken = runs; made = made }) (shown_with units top x name line (Some y) (el ∙ ap (λ (f : Frame). line_of f.todo) ef))
    ∙ ap (λ f. record l { frame = installed x name (Some y) f; untaken = runs; made = made }) (sym ef)
    ∙ ap (λ v. record l { frame = installed x name (Some v) l.frame; untaken = runs; made = made }) ey
    ∙ ap (λ rs. record l { frame = installed x name (Some (variable_in slot l)) l.frame; untaken = rs; made = made }) er
    ∙ ap (λ n. record l { frame = installed x name (Some (variable_in slot l)) l.frame; untaken = with_serial l.made l.untaken; made = n }) em

-- the variable of the handler takes the number, and the place is gone
pub catches_here : (l : LocalState) (top next : FrameView) (i : ℕ) (v : ℤ) (y : Option HandlerVariable) (serial : Option ℕ) (locations : Locations) (runs : List SerialRun)
    → l.frame ≡ shown l.program.units top → y ≡ variable_of (slice_get top.places i) → next ≡ record top { places = take i top.places }
    → locations ≡ taking_in y v top.slots l.locations → serial ≡ serial_of y → runs ≡ without_some serial l.untaken
    → record l { frame = shown l.program.units next; locations = locations; untaken = runs } ≡ record (catching (slice_get l.frame.places i) v l.frame l) { frame = record l.frame { places = take i l.frame.places } }
catches_here l top next i v y serial locations runs ef ey en el es er =
    let units = l.program.units in
    let body = unit_stmts units top.unit in
    let own : shown units next ≡ record l.frame { places = take i l.frame.places } =
    ap (shown units) en
    ∙ ap (λ ps. record (shown units top) { places = ps }) (sym (take-map (exception_place_of body) i top.places))
    ∙ ap (λ (f : Frame). record f { places = take i f.places }) (sym ef) in
    let kept : locations ≡ taking_in (variable_of (slice_get top.places i)) v top.slots l.locations = el ∙ ap (λ z. taking_in z v top.slots l.locations) ey in
    let left : runs ≡ untaken_without (variable_of (slice_get top.places i)) l.untaken = er ∙ ap (λ s. without_some s l.untaken) es ∙ ap (λ z. untaken_without z l.untaken) ey in
    ap (λ f. record l { frame = f; locations = locations; untaken = runs }) own
    ∙ ap (λ (x : Locations). record l { frame = record l.frame { places = take i l.frame.places }; locations = x; untaken = runs }) (kept ∙ catches units top i v l.locations ∙ at_frame ef)
    ∙ ap (λ rs. record l { frame = record l.frame { places = take i l.frame.places }; locations = catching_of l.frame; untaken = rs }) (left ∙ untaken_here units top i l.untaken ∙ ap (λ (f : Frame). untaken_after (slice_get f.places i) l.untaken) (sym ef))
    ∙ sym (ap (λ (m : LocalState). record m { frame = record l.frame { places = take i l.frame.places } }) (caught_is (slice_get l.frame.places i) v l.frame l))
  where
    catching_of : Frame → Locations
    catching_of f = catching_in (slice_get f.places i) v f l.locations

    at_frame : l.frame ≡ shown l.program.units top → catching_in (slice_get (shown l.program.units top).places i) v (shown l.program.units top) l.locations ≡ catching_of l.frame
    at_frame e = ap catching_of (sym e)
