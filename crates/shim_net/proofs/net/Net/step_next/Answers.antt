use Rattle.std.proofs.Common.{arith, subst}
use Rattle.shim_net.specs.Stepping.{StepsHome}
use Rattle.shim_net.proofs.Progress.{stepped_on, stepped_same, stepped_more, gave_none}
use Rattle.shim_net.proofs.net.Net.step_next.Goals as goal

pub returns-in-None-clause-more : goal.returns-in-None-clause-more
returns-in-None-clause-more g c =
    let o = g.L.Local.ops in
    let none = subst (StepsHome o c.args.self.now c.step.new.self 18446744073709551615) c.in-None.is c.in_ok-step.ensures.ok in
    absurd (gave_none o c.args.self.now c.step.new.self none c.requires.can)

pub returns-then-burst-clause-goes_on : goal.returns-then-burst-clause-goes_on
returns-then-burst-clause-goes_on g c =
    let o = g.L.Local.ops in
    let did = subst (StepsHome o c.args.self.now c.step.new.self 18446744073709551615) c.in-Some.is c.in_ok-step.ensures.ok in
    stepped_on o c.args.self.now c.step.new.self 18446744073709551615 c.in-Some.burst did

pub returns-else-burst-clause-goes_on : goal.returns-else-burst-clause-goes_on
returns-else-burst-clause-goes_on g c =
    let o = g.L.Local.ops in
    let did = subst (StepsHome o c.args.self.now c.step.new.self 18446744073709551615) c.in-Some.is c.in_ok-step.ensures.ok in
    stepped_on o c.args.self.now c.step.new.self 18446744073709551615 c.in-Some.burst did

pub returns-else-burst-clause-same : goal.returns-else-burst-clause-same
returns-else-burst-clause-same g c =
    let o = g.L.Local.ops in
    let did = subst (StepsHome o c.args.self.now c.step.new.self 18446744073709551615) c.in-Some.is c.in_ok-step.ensures.ok in
    stepped_same o c.args.self.now c.step.new.self 18446744073709551615 c.in-Some.burst did

pub returns-else-burst-clause-more : goal.returns-else-burst-clause-more
returns-else-burst-clause-more g c =
    let o = g.L.Local.ops in
    let did = subst (StepsHome o c.args.self.now c.step.new.self 18446744073709551615) c.in-Some.is c.in_ok-step.ensures.ok in
    stepped_more o c.args.self.now c.step.new.self 18446744073709551615 c.in-Some.burst did (omega arith) c.if-burst.false
