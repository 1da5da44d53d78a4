use Rattle.std.proofs.Common.{rules, inl, inr, refl}
use Rattle.shim_net.proofs.Progress.{stays, on_and_on}
use Rattle.shim_workers.proofs.Progress.{on_and_more, none_below, none_have, no_more, all_slots}
use Rattle.shim_workers.proofs.giving.give_all.Goals as goal

pub loop-slot-init : goal.loop-slot-init
loop-slot-init g c = record {
  goes_on = stays g.L.Local.ops c.args.net.now;
  below = none_below 0 c.args.net.now.grants c.requires.home;
  have = none_have g.L.Local.ops c.args.net.now.grants c.requires.home;
  more = inl (refl, refl);
}

pub loop-slot-preserved : goal.loop-slot-preserved
loop-slot-preserved g c =
    let i = c.loop-slot.invariant in
    let e = c.in_ok-give.ensures in
    record {
      goes_on = on_and_on g.L.Local.ops c.args.net.now c.loop-slot.net c.give.new.net i.goes_on e.goes_on;
      below = e.below;
      have = e.steps;
      more = inr (on_and_more g.L.Local.ops c.args.net.now c.loop-slot.net c.give.new.net i.goes_on (e.more (search rules)));
    }

pub returns-then-not-branch-clause-goes_on : goal.returns-then-not-branch-clause-goes_on
returns-then-not-branch-clause-goes_on g c = on_and_on g.L.Local.ops c.args.net.now c.loop-slot.net c.give.new.net c.loop-slot.invariant.goes_on c.in_ok-give.ensures.goes_on

pub returns-then-not-branch-clause-more : goal.returns-then-not-branch-clause-more
returns-then-not-branch-clause-more g c =
    no_more g.L.Local.ops c.args.net.now c.loop-slot.net c.give.new.net c.loop-slot.slot c.loop-slot.invariant.more c.requires.can (c.in_ok-give.ensures.none (search rules)) c.in_ok-give.ensures.goes_on

pub returns-clause-goes_on : goal.returns-clause-goes_on
returns-clause-goes_on g c = c.loop-slot.invariant.goes_on

pub returns-clause-steps : goal.returns-clause-steps
returns-clause-steps g c = c.loop-slot.invariant.have

pub returns-clause-more : goal.returns-clause-more
returns-clause-more g c = all_slots c.args.net.now c.loop-slot.net c.loop-slot.slot c.loop-slot.invariant.more (search rules)
