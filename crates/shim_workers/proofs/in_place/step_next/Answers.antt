use Rattle.std.proofs.Common.{ap, subst}
use Rattle.shim_net.specs.Nets.{NetView}
use Rattle.shim_net.specs.Stepping.{StepsHome}
use Rattle.shim_net.proofs.Progress.{same_net, stepped_on, stepped_same, stepped_more, stepped_could}
use Rattle.shim_workers.proofs.in_place.step_next.Goals as goal

pub returns-in-None-clause-goes_on : goal.returns-in-None-clause-goes_on
returns-in-None-clause-goes_on g c =
    let o = g.L.Local.ops in
    let none = subst (StepsHome o c.args.net.now c.enter_and_step.new.self c.args.most) c.in-None.is c.in_ok-enter_and_step.ensures.ok in
    same_net o c.args.net.now c.enter_and_step.new.self none.0

pub returns-in-None-clause-same : goal.returns-in-None-clause-same
returns-in-None-clause-same g c =
    let o = g.L.Local.ops in
    let none = subst (StepsHome o c.args.net.now c.enter_and_step.new.self c.args.most) c.in-None.is c.in_ok-enter_and_step.ensures.ok in
    ap (λ (n : NetView g.row.L.Denot). n.grants) none.0

pub returns-else-quiet-clause-goes_on : goal.returns-else-quiet-clause-goes_on
returns-else-quiet-clause-goes_on g c =
    let o = g.L.Local.ops in
    let did = subst (StepsHome o c.args.net.now c.enter_and_step.new.self c.args.most) c.in-Some.is c.in_ok-enter_and_step.ensures.ok in
    stepped_on o c.args.net.now c.enter_and_step.new.self c.args.most c.in-Some.quiet did

pub returns-else-quiet-clause-same : goal.returns-else-quiet-clause-same
returns-else-quiet-clause-same g c =
    let o = g.L.Local.ops in
    let did = subst (StepsHome o c.args.net.now c.enter_and_step.new.self c.args.most) c.in-Some.is c.in_ok-enter_and_step.ensures.ok in
    stepped_same o c.args.net.now c.enter_and_step.new.self c.args.most c.in-Some.quiet did

pub returns-else-quiet-clause-did : goal.returns-else-quiet-clause-did
returns-else-quiet-clause-did g c =
    let o = g.L.Local.ops in
    let did = subst (StepsHome o c.args.net.now c.enter_and_step.new.self c.args.most) c.in-Some.is c.in_ok-enter_and_step.ensures.ok in (
      stepped_could o c.args.net.now c.enter_and_step.new.self c.args.most c.in-Some.quiet did,
      stepped_more o c.args.net.now c.enter_and_step.new.self c.args.most c.in-Some.quiet did c.requires.most c.if-quiet.false,
    )
