use Rattle.shim_walk.proofs.Accepting.{begins_sound}
use Rattle.shim_walk.proofs.walk.Walk.main.Goals as goal

pub of-requires : goal.of-requires
of-requires c = begins_sound c.args.program c.args.input _ c.in_ok-main.ensures.value c.in_ok-main.ensures.accepted
