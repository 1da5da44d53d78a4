use Rattle.std.proofs.Common.{◌≡◌, ◌≤◌, sym, ap, subst, take, arith}
use Rattle.shim_walk_frames.specs.FrameViews.{FrameView}
use Rattle.shim_walk_frames.specs.Variables.{variables_of}
use Rattle.shim_walk_frames.proofs.Counting.{variables_take, variables_taken}
use Rattle.shim_walk_frames.proofs.Unwinds.{handles_some}
use Rattle.shim_walk_frames.proofs.frame.Frame.handle.Goals as goal

pub returns-clause-value : goal.returns-clause-value
returns-clause-value c =
    handles_some c.args.body.now c.args.self.now c.take_place.new.self c.rest.new.self c.go.new.self c.args.index c.in-Some.place (sym c.in-Some.ensures.place) c.in-Some.ensures.others c.rest.ensures c.go.ensures.value

pub returns-clause-fewer : goal.returns-clause-fewer
returns-clause-fewer c =
    let left = c.take_place.new.self.places in
    let taken = variables_taken c.args.index c.args.self.now.places left c.in-Some.place c.in-Some.ensures.place (ap (λ (s : FrameView). s.places) c.in-Some.ensures.others) in
    let rested : c.rest.new.self.places ≡ take c.args.index left = ap (λ (s : FrameView). s.places) c.rest.ensures in
    let kept : variables_of c.rest.new.self.places ≤ variables_of left = subst (λ ps. variables_of ps ≤ variables_of left) (sym rested) (variables_take c.args.index left) in
    omega (arith, taken, kept, c.go.ensures.fewer)
