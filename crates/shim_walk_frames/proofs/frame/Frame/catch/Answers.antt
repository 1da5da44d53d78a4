use Rattle.std.proofs.Common.{ap}
use Rattle.shim_walk_frames.specs.FrameViews.{FrameView}
use Rattle.shim_walk_frames.proofs.Counting.{variables_taken}
use Rattle.shim_walk_frames.proofs.frame.Frame.catch.Goals as goal

pub returns-clause-fewer : goal.returns-clause-fewer
returns-clause-fewer c =
    variables_taken c.args.index c.args.self.now.places c.take_place.new.self.places c.in-Some.place c.in-Some.ensures.place (ap (λ (s : FrameView). s.places) c.in-Some.ensures.others)
