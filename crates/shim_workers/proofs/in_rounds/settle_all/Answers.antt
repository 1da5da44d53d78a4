use Rattle.shim_workers.proofs.Progress.{settle_on, settle_home}
use Rattle.shim_workers.proofs.in_rounds.settle_all.Goals as goal

pub returns-clause-goes_on : goal.returns-clause-goes_on
returns-clause-goes_on g c = settle_on g.L.Local.ops c.args.net.now c.settle.new.self c.settle.result c.settle.ensures.did

pub returns-clause-home : goal.returns-clause-home
returns-clause-home g c = settle_home g.L.Local.ops c.args.net.now c.settle.new.self c.settle.result c.settle.ensures.did c.requires.home
