use Rattle.std.proofs.Common.{ap, ◌∙◌, refl, subst, sym}
use Rattle.shim_walk_frames.specs.Cursors.{HasOwnCursor}
use Rattle.shim_walk_frames.specs.FrameViews.{FrameView}
use Rattle.shim_walk.specs.Returning.{resting}
use Rattle.shim_walk.specs.contracts.process.Process.{the_view}
use Rattle.shim_walk.proofs.Resting.{rests}
use Rattle.shim_walk.proofs.Rooms.{room_for_first}
use Rattle.shim_walk.proofs.process.Process.rest.Goals as goal

pub returns : goal.returns
returns c =
    let i = c.self.inside in
    rests (the_view i) i.top c.rest.new.self c.args.number c.args.halfway c.args.kept refl c.rest.ensures
    ∙ ap (resting c.args.number c.args.halfway c.args.kept) c.self.view_is

pub invariant_of-self : goal.invariant_of-self
invariant_of-self c =
    let i = c.self.inside in
    let kept = c.self.invariant in
    (kept.0, kept.1, (subst (HasOwnCursor i.program.units) (sym c.rest.ensures) tt, kept.2.1), room_for_first c.args.kept i.top c.rest.new.self i.callers i.untaken.room (ap (λ (s : FrameView). s.places) c.rest.ensures) kept.3, kept.4)
