use Rattle.std.proofs.Common.{◌<◌, ◌-◌, ◌∙◌, sym, ap, subst}
use Rattle.shim_semantics.specs.Trees.{steps}
use Rattle.shim_net.specs.Nets.{NetView}
use Rattle.shim_net.specs.Progress.{GoesOn, HasSettled, CanGive}
use Rattle.shim_net.proofs.Ends.{has_stopped}
use Rattle.shim_net.proofs.Progress.{stays, on_and_on, gave_none, closer}
use Rattle.shim_workers.proofs.Progress.{did_some, did_none}
use Rattle.shim_workers.proofs.in_rounds.run_alone.Goals as goal

pub loop-net-init : goal.loop-net-init
loop-net-init g c =
    let o = g.L.Local.ops in
    let same = c.next_pid-pid.ensures in
    record {
      goes_on = subst (GoesOn o c.args.net.now) (sym same) (stays o c.args.net.now);
      home = ap (λ (n : NetView g.row.L.Denot). n.grants) same ∙ c.requires.home;
      settled = subst (HasSettled o) (sym same) c.requires.settled;
      most = c.requires.quantum;
    }

pub loop-net-preserved : goal.loop-net-preserved
loop-net-preserved g c =
    let o = g.L.Local.ops in
    let i = c.loop-net.invariant in
    let t = c.in_ok-step_next.ensures in
    let s = c.in_ok-events.ensures in
    let same = c.next_pid-next.ensures in
    record {
      goes_on = subst (GoesOn o c.args.net.now) (sym same) (on_and_on o c.args.net.now c.step_next.new.net c.settle_all.new.net (on_and_on o c.args.net.now c.loop-net.net c.step_next.new.net i.goes_on t.goes_on) s.goes_on);
      home = ap (λ (n : NetView g.row.L.Denot). n.grants) same ∙ s.home;
      settled = subst (HasSettled o) (sym same) s.settled;
      most = c.next_piece-most.ensures.within;
    }

pub settle_all-requires-clause-home : goal.settle_all-requires-clause-home
settle_all-requires-clause-home g c κs within = c.in_ok-step_next.ensures.same ∙ c.loop-net.invariant.home

pub loop-net-smaller : goal.loop-net-smaller
loop-net-smaller g c =
    let o = g.L.Local.ops in
    let i = c.loop-net.invariant in
    let t = c.in_ok-step_next.ensures in
    let s = c.in_ok-events.ensures in
    let did = did_some o c.loop-net.net c.step_next.new.net _ t.did (sym c.is_some.ensures ∙ c.if-is_some.true) in
    subst (λ (n : NetView g.row.L.Denot). n.budget - steps n.tree < c.loop-net.net.budget - steps c.loop-net.net.tree) (sym c.next_pid-next.ensures)
    (closer o c.loop-net.net c.step_next.new.net c.settle_all.new.net did.0 did.1 t.goes_on s.goes_on (t.same ∙ i.home) s.home)

pub returns-clause-goes_on : goal.returns-clause-goes_on
returns-clause-goes_on g c = on_and_on g.L.Local.ops c.args.net.now c.loop-net.net c.step_next.new.net c.loop-net.invariant.goes_on c.in_ok-step_next.ensures.goes_on

pub returns-clause-quiescent_or_spent : goal.returns-clause-quiescent_or_spent
returns-clause-quiescent_or_spent g c =
    let o = g.L.Local.ops in
    let i = c.loop-net.invariant in
    let t = c.in_ok-step_next.ensures in
    let none = did_none o c.loop-net.net c.step_next.new.net _ t.did (sym c.is_some.ensures ∙ c.if-is_some.false) in
    let back = sym none.0 in
    let cannot = subst (λ (n : NetView g.row.L.Denot). CanGive o n → ⊥) back (gave_none o c.loop-net.net c.step_next.new.net none) in
    let settled = subst (HasSettled o) back i.settled in
    has_stopped o c.step_next.new.net c.standing-standing.ensures.keeps (t.same ∙ i.home) settled cannot c.standing-standing.result c.standing-standing.ensures.standing_is
