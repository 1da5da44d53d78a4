use Rattle.std.proofs.Common.{rules, inr, ◌≡◌, subst, arith}
use Rattle.shim_net.specs.Settling.{SettlesOne}
use Rattle.shim_net.proofs.Settling.{settles_one, settles_room, settles_all}
use Rattle.shim_net.proofs.net.Net.settle.Goals as goal

pub settle_one-requires-clause-room : goal.settle_one-requires-clause-room
settle_one-requires-clause-room g c κs within = settles_room g.L.Local.ops c.args.self.now c.loop-done.self c.loop-done.done c.unreserved-left.result c.loop-done.invariant c.unreserved-left.ensures.left (search rules)

pub loop-done-preserved : goal.loop-done-preserved
loop-done-preserved g c = settles_one g.L.Local.ops c.args.self.now c.loop-done.self c.settle_one.new.self c.loop-done.done c.loop-done.invariant (subst (SettlesOne g.L.Local.ops c.loop-done.self c.settle_one.new.self) c.if-not-branch.false c.in_ok-settle_one.ensures.ok)

pub returns-clause-end : goal.returns-clause-end
returns-clause-end g c =
    let all : c.loop-done.done ≡ c.unreserved-left.result = omega (arith, c.loop-done.auto.done-end, c.loop-done-test.false) in
    inr (settles_all g.L.Local.ops c.args.self.now c.loop-done.self c.loop-done.done c.unreserved-left.result c.loop-done.invariant c.unreserved-left.ensures.left c.unreserved-left.ensures.fits all)
