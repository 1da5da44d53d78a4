use Rattle.std.proofs.Common.{◌≤◌, arith}
use Rattle.shim_walk.proofs.Rooms.{still_below}
use Rattle.shim_walk.proofs.process.Process.make.Goals as goal

pub invariant_of-self : goal.invariant_of-self
invariant_of-self c =
    let i = c.self.inside in
    let kept = c.self.invariant in
    let more : i.made ≤ c.in_ok-made.made = omega (arith, c.in_ok-made.ensures) in
    (kept.0, kept.1, kept.2, kept.3, still_below i.made c.in_ok-made.made i.untaken.runs more kept.4)
