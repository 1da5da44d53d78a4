use Rattle.std.proofs.Common.{rules}
use Rattle.shim_net.proofs.Progress.{stays, on_and_on, can_give, closer}
use Rattle.shim_workers.proofs.in_rounds.run_together.Goals as goal

pub run_round-requires-clause-can : goal.run_round-requires-clause-can
run_round-requires-clause-can g c κs within =
    let run = c.is_running.ensures.running (search rules) in
    can_give g.L.Local.ops c.loop-alloc.net c.is_running.ensures.keeps c.loop-alloc.invariant.home c.loop-alloc.invariant.settled run.0 run.1

pub loop-alloc-init : goal.loop-alloc-init
loop-alloc-init g c = record {
  goes_on = stays g.L.Local.ops c.args.net.now;
  home = c.requires.home;
  settled = c.requires.settled;
  most = c.requires.quantum;
}

pub loop-alloc-preserved : goal.loop-alloc-preserved
loop-alloc-preserved g c =
    let i = c.loop-alloc.invariant in
    let t = c.in_ok-run_round.ensures in
    let s = c.in_ok-events.ensures in
    record {
      goes_on = on_and_on g.L.Local.ops c.args.net.now c.run_round.new.net c.settle_all.new.net (on_and_on g.L.Local.ops c.args.net.now c.loop-alloc.net c.run_round.new.net i.goes_on t.goes_on) s.goes_on;
      home = s.home;
      settled = s.settled;
      most = c.next_most-most.ensures.within;
    }

pub loop-alloc-smaller : goal.loop-alloc-smaller
loop-alloc-smaller g c =
    let i = c.loop-alloc.invariant in
    let run = c.is_running.ensures.running (search rules) in
    let can = can_give g.L.Local.ops c.loop-alloc.net c.is_running.ensures.keeps i.home i.settled run.0 run.1 in
    closer g.L.Local.ops c.loop-alloc.net c.run_round.new.net c.settle_all.new.net can c.in_ok-run_round.ensures.more c.in_ok-run_round.ensures.goes_on c.in_ok-events.ensures.goes_on c.in_ok-run_round.ensures.home c.in_ok-events.ensures.home

pub returns-clause-quiescent_or_spent : goal.returns-clause-quiescent_or_spent
returns-clause-quiescent_or_spent g c = c.is_running.ensures.ended (search rules)
