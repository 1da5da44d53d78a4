use Rattle.shim_records.proofs.Waits.{raised_again, still_longer, still_within}
use Rattle.shim_records.proofs.worklist.Worklist.grow_to.Goals as goal

pub loop-bound-preserved : goal.loop-bound-preserved
loop-bound-preserved c = (
  raised_again c.args.self.now c.loop-bound.self c.raise.new.self c.loop-bound.invariant.0 c.in_ok-raise.ensures.ok,
  still_longer c.loop-bound.self c.raise.new.self c.loop-bound.bound c.in_ok-raise.ensures.ok c.loop-bound.invariant.1,
  still_within c.loop-bound.self c.raise.new.self c.loop-bound.bound c.in_ok-raise.ensures.ok c.loop-bound.invariant.2,
)
