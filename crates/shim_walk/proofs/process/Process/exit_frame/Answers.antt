use Rattle.std.proofs.Common.{ap, ◌∙◌, refl, map, subst, take}
use Rattle.shim_process.specs.LocalState.{LocalState}
use Rattle.shim_walk_frames.specs.Depths.{shown}
use Rattle.shim_walk.specs.Returning.{HasExitedFrame}
use Rattle.shim_walk.specs.contracts.process.Process.{the_view}
use Rattle.shim_walk.proofs.Resting.{leaves}
use Rattle.shim_walk.proofs.process.Process.exit_frame.Goals as goal

pub returns-clause-left : goal.returns-clause-left
returns-clause-left c = λ is.
    let i = c.self.inside in
    let l = the_view i in
    let caller = c.in-Some.caller in
    let units = i.program.units in
    let after = record l { frame = shown units caller; callers = map (shown units) c.pop.new.self; locations = c.truncate.new.self } in
    subst (λ (m : LocalState). HasExitedFrame m after) c.self.view_is
    (leaves l caller caller i.callers c.pop.new.self c.truncate.new.self refl c.in-Some.ensures refl (c.truncate.ensures ∙ ap (λ n. take n i.locations) c.floor.ensures))
