use Rattle.shim_laws_replay.proofs.Listed.{grantable_are_listed}
use Rattle.shim_laws_replay.proofs.laws.grantable_are_listed.Goals as goal

pub returns : goal.returns
returns g c = grantable_are_listed g.L.Local.ops
