use Rattle.std.proofs.Common.{sym, subst, arith, ◌+◌}
use Rattle.shim_records.specs.Ways.{StepsUp, ChangesParent, ReadiesWithin}
use Rattle.shim_records.proofs.FullPropagation.{begun, ended, further, stopped}
use Rattle.shim_records.proofs.Reaching.{at_start, led_on}
use Rattle.shim_records.proofs.Readying.{SoReady, ready_at_first, readied, readied_on, all_again}
use Rattle.shim_records.proofs.upward.propagate_stop_above.Goals as goal

pub loop-walked-init : goal.loop-walked-init
loop-walked-init c = (
  begun c.args.c.now.channel 4294967295 c.args.at c.going_child_status.result c.going_child_status-2.result c.args.records.now.items,
  at_start c.args.c.now.channel c.args.at c.args.records.now.items,
  ready_at_first c.args.c.now.channel c.args.at c.args.records.now.items,
)

pub returns-in-None-clause-counts : goal.returns-in-None-clause-counts
returns-in-None-clause-counts c = (
  c.going_child_status.result,
  c.going_child_status-2.result,
  c.going_child_status.ensures,
  c.going_child_status-2.ensures,
  ended c.args.c.now.channel 4294967295 c.args.at c.going_child_status.result c.going_child_status-2.result c.args.records.now.items c.loop-walked.records.items c.loop-walked.here c.loop-walked.walked c.step_up-next.new.records.items c.loop-walked.invariant.0
      (subst (λ z. StepsUp c.args.c.now.channel c.loop-walked.records.items c.loop-walked.here z c.step_up-next.result.1 c.step_up-next.new.records.items) c.in-None.is c.step_up-next.ensures),
)

pub returns-in-None-clause-readies : goal.returns-in-None-clause-readies
returns-in-None-clause-readies c =
    subst (λ z. ReadiesWithin c.args.c.now.channel z c.args.at c.args.records.now.items c.step_up-next.new.records.items) (sym c.looked_at-again.ensures)
    (readied c.args.c.now.channel c.args.at c.args.records.now.items c.loop-walked.walked c.loop-walked.again c.loop-walked.records.items c.loop-walked.here c.loop-walked.invariant.2 c.loop-walked.invariant.1 c.loop-walked.invariant.0.1 c.step_up-next.result.0
    c.step_up-next.result.1 c.step_up-next.new.records.items c.step_up-next.ensures.2 c.step_up-next.ensures.3 c.in-None.is)

pub loop-walked-preserved : goal.loop-walked-preserved
loop-walked-preserved c = (
  further c.args.c.now.channel 4294967295 c.args.at c.going_child_status.result c.going_child_status-2.result c.args.records.now.items c.loop-walked.records.items c.loop-walked.here c.loop-walked.walked c.step_up-next.new.records.items c.in-Some.next
      (omega (arith, c.loop-walked-test.true)) c.loop-walked.invariant.0
      (subst (λ z. StepsUp c.args.c.now.channel c.loop-walked.records.items c.loop-walked.here z c.step_up-next.result.1 c.step_up-next.new.records.items) c.in-Some.is c.step_up-next.ensures),
  led_on c.args.c.now.channel c.args.at c.args.records.now.items c.loop-walked.walked c.loop-walked.records.items c.loop-walked.here c.loop-walked.invariant.1 c.loop-walked.invariant.0.1 c.in-Some.next c.step_up-next.new.records.items
      (subst (λ z. ChangesParent c.args.c.now.channel c.loop-walked.records.items c.loop-walked.here z c.step_up-next.new.records.items) c.in-Some.is c.step_up-next.ensures.2),
  subst (λ z. SoReady c.args.c.now.channel c.args.at c.args.records.now.items (c.loop-walked.walked + 1) z c.step_up-next.new.records.items c.in-Some.next.at) (sym c.looked_at-again.ensures)
      (readied_on c.args.c.now.channel c.args.at c.args.records.now.items c.loop-walked.walked c.loop-walked.again c.loop-walked.records.items c.loop-walked.here c.loop-walked.invariant.2 c.loop-walked.invariant.1 c.loop-walked.invariant.0.1
      c.step_up-next.result.0 c.step_up-next.result.1 c.step_up-next.new.records.items c.step_up-next.ensures.2 c.step_up-next.ensures.3 c.in-Some.next c.in-Some.is),
)

pub returns-clause-counts : goal.returns-clause-counts
returns-clause-counts c = (
  c.going_child_status.result,
  c.going_child_status-2.result,
  c.going_child_status.ensures,
  c.going_child_status-2.ensures,
  stopped c.args.c.now.channel 4294967295 c.args.at c.going_child_status.result c.going_child_status-2.result c.args.records.now.items c.loop-walked.records.items c.loop-walked.here c.loop-walked.walked (omega (arith, c.loop-walked-test.false))
      c.loop-walked.invariant.0,
)

pub returns-clause-readies : goal.returns-clause-readies
returns-clause-readies c =
    all_again c.args.c.now.channel c.args.at c.args.records.now.items c.loop-walked.walked c.loop-walked.again c.loop-walked.records.items c.loop-walked.here c.loop-walked.invariant.2 c.loop-walked.invariant.1 c.loop-walked.invariant.0.1 4294967295
    c.loop-walked.auto.walked-end (omega (arith, c.loop-walked-test.false))
