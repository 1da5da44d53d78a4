use Rattle.std.proofs.Common.{◌≡◌, ◌≤◌, ◌<◌, ◌+◌, ◌-◌, ◌∷◌, ◌∙◌, refl, sym, ap, subst, arith, rules, Some}
use Rattle.shim_walk_frames.specs.declared.handler.Handler.{Handler}
use Rattle.shim_walk_frames.specs.Cursors.{HasOwnCursor}
use Rattle.shim_walk_frames.specs.FrameViews.{FrameView}
use Rattle.shim_walk_frames.specs.Variables.{variables_in}
use Rattle.shim_process.specs.LocalState.{LocalState}
use Rattle.shim_process.specs.SerialRuns.{with_serial}
use Rattle.shim_process.specs.Steps.{installing, line_of, variable_in}
use Rattle.shim_locations.specs.Runs.{RunsView}
use Rattle.shim_walk.specs.contracts.process.Process.{the_view}
use Rattle.shim_walk.proofs.Installing.{installs_variable}
use Rattle.shim_walk.proofs.Rooms.{below_with, room_for_one}
use Rattle.shim_walk.proofs.process.Process.install_variable.Goals as goal

pub returns-clause-ok : goal.returns-clause-ok
returns-clause-ok c =
    let i = c.self.inside in
    let slot = c.args.slot in
    installs_variable (the_view i) i.top c.install.new.self c.args.exception c.args.name c.args.line slot c.in_ok-made.made c.in_ok-variable.variable c.add.new.self.runs
    refl
    (c.requires ∙ ap (λ (l : LocalState). line_of l.frame.todo) (sym c.self.view_is))
    c.in_ok-install.ensures.ok
    (c.in_ok-variable.ensures ∙ ap (variable_in slot) (sym c.self.view_is))
    (ap (λ (r : RunsView). r.runs) c.add.ensures ∙ ap (λ (r : RunsView). with_serial i.made r.runs) c.in_ok-reserve.ensures.ok)
    c.in_ok-made.ensures
    ∙ ap (installing c.args.exception c.args.name (Some slot)) c.self.view_is

pub invariant_of-self-2 : goal.invariant_of-self-2
invariant_of-self-2 c =
    let i = c.self.inside in
    let kept = c.self.invariant in
    let installed = c.in_ok-install.ensures.ok in
    let place : Handler = record { exception = c.args.exception; name = c.args.name; line = c.args.line; at = i.top.at; variable = Some c.in_ok-variable.variable } in
    let many : c.in_ok-many.many ≡ variables_in (i.top ∷ i.callers) = c.in_ok-many.ensures in
    let room : c.in_ok-room.room ≡ c.in_ok-many.many + 2 = search rules in
    let left : c.add.new.self.room ≡ c.in_ok-room.room - 1 = ap (λ (r : RunsView). r.room) c.add.ensures ∙ ap (λ (r : RunsView). r.room - 1) c.in_ok-reserve.ensures.ok in
    let fits : variables_in (i.top ∷ i.callers) + 1 ≤ c.add.new.self.room = omega (arith, many, room, left) in
    let more : i.made < c.in_ok-made.made = omega (arith, c.in_ok-made.ensures) in
    let runs : c.add.new.self.runs ≡ with_serial i.made i.untaken.runs = ap (λ (r : RunsView). r.runs) c.add.ensures ∙ ap (λ (r : RunsView). with_serial i.made r.runs) c.in_ok-reserve.ensures.ok in
    (kept.0, kept.1, (subst (HasOwnCursor i.program.units) (sym installed) kept.2.0, kept.2.1), room_for_one i.top c.install.new.self place i.callers c.add.new.self.room (ap (λ (s : FrameView). s.places) installed) fits, below_with i.made c.in_ok-made.made i.untaken.runs c.add.new.self.runs more kept.4 runs)
