use Rattle.std.proofs.Common.{◌≡◌, false}
use Rattle.shim_net.specs.Absorbing.{Absorbs}
use Rattle.shim_workers.proofs.Progress.{took_on, took_steps}
use Rattle.shim_workers.proofs.taking.take.Goals as goal

pub returns-in-Taken-clause-goes_on : goal.returns-in-Taken-clause-goes_on
returns-in-Taken-clause-goes_on g c =
    let o = g.L.Local.ops in
    let f = c.args.finished in
    let took : (f.short ≡ false) × Absorbs o c.args.net.now c.absorb.new.self f.pid f.slot f.round f.grant f.start f.used = c.in-Taken.ensures in
    took_on o c.args.net.now c.absorb.new.self f.pid f.slot f.round f.grant f.start f.used took.1 c.requires.steps f.last f.short f.steps f.fewer took.0

pub returns-in-Taken-clause-steps : goal.returns-in-Taken-clause-steps
returns-in-Taken-clause-steps g c =
    let o = g.L.Local.ops in
    let f = c.args.finished in
    let took : (f.short ≡ false) × Absorbs o c.args.net.now c.absorb.new.self f.pid f.slot f.round f.grant f.start f.used = c.in-Taken.ensures in
    took_steps o c.args.net.now c.absorb.new.self f.pid f.slot f.round f.grant f.start f.used took.1 c.requires.steps
