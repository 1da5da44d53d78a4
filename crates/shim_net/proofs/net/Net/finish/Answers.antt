use Rattle.std.proofs.Common.{rules, ◌≡◌, subst, ◌∙◌}
use Rattle.shim_net.specs.Standings.{StandsAs}
use Rattle.shim_net.specs.declared.standing.Standing.TheVariants.{Running}
use Rattle.shim_net.proofs.Ends.{stopped}
use Rattle.shim_net.proofs.Progress.{on_and_on, none_among, settled_on, settled_same, can_give, closer}
use Rattle.shim_net.proofs.net.Net.finish.Goals as goal

pub loop-self-init : goal.loop-self-init
loop-self-init g c =
    let o = g.L.Local.ops in
    let begun = c.redo_all.new.self in
    let did = c.in_ok-settle.ensures.did in
    record {
      goes_on = on_and_on o c.args.self.now begun c.settle.new.self c.in_ok-redo_all.ensures.goes_on (settled_on o begun c.settle.new.self _ did);
      home = settled_same o begun c.settle.new.self _ did ∙ c.in_ok-redo_all.ensures.home;
      settled = c.in_ok-settle.ensures.end;
    }

pub step_next-requires-clause-can : goal.step_next-requires-clause-can
step_next-requires-clause-can g c κs within =
    let o = g.L.Local.ops in
    let i = c.loop-self.invariant in
    let at : c.standing.result ≡ Running = search rules in
    let run = subst (StandsAs o c.loop-self.self) at c.standing.ensures.standing_is in
    can_give o c.loop-self.self c.standing.ensures.keeps i.home i.settled run.0 run.1

pub loop-self-preserved : goal.loop-self-preserved
loop-self-preserved g c =
    let o = g.L.Local.ops in
    let i = c.loop-self.invariant in
    let stepped = c.step_next.new.self in
    let t = c.in_ok-step_next.ensures in
    let settled = c.settle-in-loop-self.new.self in
    let did = c.in_ok-settle-2.ensures.did in
    record {
      goes_on = on_and_on o c.args.self.now stepped settled (on_and_on o c.args.self.now c.loop-self.self stepped i.goes_on t.goes_on) (settled_on o stepped settled _ did);
      home = settled_same o stepped settled _ did ∙ (t.same ∙ i.home);
      settled = c.in_ok-settle-2.ensures.end;
    }

pub loop-self-smaller : goal.loop-self-smaller
loop-self-smaller g c =
    let o = g.L.Local.ops in
    let i = c.loop-self.invariant in
    let at : c.standing.result ≡ Running = search rules in
    let run = subst (StandsAs o c.loop-self.self) at c.standing.ensures.standing_is in
    let can = can_give o c.loop-self.self c.standing.ensures.keeps i.home i.settled run.0 run.1 in
    let stepped = c.step_next.new.self in
    let t = c.in_ok-step_next.ensures in
    let settled = c.settle-in-loop-self.new.self in
    let did = c.in_ok-settle-2.ensures.did in
    closer o c.loop-self.self stepped settled can t.more t.goes_on (settled_on o stepped settled _ did) (t.same ∙ i.home) (settled_same o stepped settled _ did ∙ (t.same ∙ i.home))

pub returns-in_err-settle-clause-goes_on : goal.returns-in_err-settle-clause-goes_on
returns-in_err-settle-clause-goes_on g c =
    let o = g.L.Local.ops in
    let begun = c.redo_all.new.self in
    let did = c.in_err-settle.ensures.err in
    on_and_on o c.args.self.now begun c.settle.new.self c.in_ok-redo_all.ensures.goes_on (settled_on o begun c.settle.new.self did.0 did.1)

pub returns-in_err-settle-clause-left : goal.returns-in_err-settle-clause-left
returns-in_err-settle-clause-left g c =
    let did = c.in_err-settle.ensures.err in
    none_among c.settle.new.self.grants c.args.self.now.grants (settled_same g.L.Local.ops c.redo_all.new.self c.settle.new.self did.0 did.1 ∙ c.in_ok-redo_all.ensures.home)

pub returns-in_err-step_next-clause-goes_on : goal.returns-in_err-step_next-clause-goes_on
returns-in_err-step_next-clause-goes_on g c = on_and_on g.L.Local.ops c.args.self.now c.loop-self.self c.step_next.new.self c.loop-self.invariant.goes_on c.in_err-step_next.ensures.goes_on

pub returns-in_err-step_next-clause-left : goal.returns-in_err-step_next-clause-left
returns-in_err-step_next-clause-left g c = none_among c.step_next.new.self.grants c.args.self.now.grants (c.in_err-step_next.ensures.same ∙ c.loop-self.invariant.home)

pub returns-in_err-settle-2-clause-goes_on : goal.returns-in_err-settle-2-clause-goes_on
returns-in_err-settle-2-clause-goes_on g c =
    let o = g.L.Local.ops in
    let i = c.loop-self.invariant in
    let stepped = c.step_next.new.self in
    let t = c.in_ok-step_next.ensures in
    let settled = c.settle-in-loop-self.new.self in
    let did = c.in_err-settle-2.ensures.err in
    on_and_on o c.args.self.now stepped settled (on_and_on o c.args.self.now c.loop-self.self stepped i.goes_on t.goes_on) (settled_on o stepped settled did.0 did.1)

pub returns-in_err-settle-2-clause-left : goal.returns-in_err-settle-2-clause-left
returns-in_err-settle-2-clause-left g c =
    let settled = c.settle-in-loop-self.new.self in
    let did = c.in_err-settle-2.ensures.err in
    none_among settled.grants c.args.self.now.grants (settled_same g.L.Local.ops c.step_next.new.self settled did.0 did.1 ∙ (c.in_ok-step_next.ensures.same ∙ c.loop-self.invariant.home))

pub returns-clause-left : goal.returns-clause-left
returns-clause-left g c = none_among c.loop-self.self.grants c.args.self.now.grants c.loop-self.invariant.home

pub returns-clause-quiescent_or_spent : goal.returns-clause-quiescent_or_spent
returns-clause-quiescent_or_spent g c = stopped g.L.Local.ops c.loop-self.self c.standing.result c.standing.ensures.standing_is (search rules)
