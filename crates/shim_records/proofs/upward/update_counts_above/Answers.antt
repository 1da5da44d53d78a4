use Rattle.std.proofs.Common.{subst, arith}
use Rattle.shim_records.specs.Ways.{StepsUp, ChangesParent}
use Rattle.shim_records.proofs.FullPropagation.{begun, ended, further, stopped}
use Rattle.shim_records.proofs.Reaching.{at_start, farther, led_to, led_on}
use Rattle.shim_records.proofs.Readying.{falls_at_first, no_more_fall, still_falls}
use Rattle.shim_records.proofs.upward.update_counts_above.Goals as goal

pub loop-walked-init : goal.loop-walked-init
loop-walked-init c = (
  begun c.args.c.now.channel c.args.forks c.args.at c.args.was c.args.is c.args.records.now.items,
  at_start c.args.c.now.channel c.args.at c.args.records.now.items,
  falls_at_first c.args.c.now.channel c.args.was c.args.is c.args.at c.args.records.now.items,
)

pub returns-in-None-clause-counts : goal.returns-in-None-clause-counts
returns-in-None-clause-counts c =
    ended c.args.c.now.channel c.args.forks c.args.at c.args.was c.args.is c.args.records.now.items c.loop-walked.records.items c.loop-walked.here c.loop-walked.walked c.step_up-next.new.records.items c.loop-walked.invariant.0
    (subst (λ z. StepsUp c.args.c.now.channel c.loop-walked.records.items c.loop-walked.here z c.step_up-next.result.1 c.step_up-next.new.records.items) c.in-None.is c.step_up-next.ensures)

pub returns-in-None-clause-reaches : goal.returns-in-None-clause-reaches
returns-in-None-clause-reaches c =
    led_to c.args.c.now.channel c.args.at c.args.records.now.items c.loop-walked.walked c.loop-walked.records.items c.loop-walked.here c.loop-walked.invariant.1 c.loop-walked.invariant.0.1 c.step_up-next.result.0 c.step_up-next.new.records.items c.step_up-next.ensures.2

pub returns-in-None-clause-falls : goal.returns-in-None-clause-falls
returns-in-None-clause-falls c =
    no_more_fall c.args.c.now.channel c.args.was c.args.is c.args.records.now.items c.loop-walked.records.items c.loop-walked.here c.loop-walked.invariant.2 c.step_up-next.result.0 c.step_up-next.result.1 c.step_up-next.new.records.items c.step_up-next.ensures.2
    c.step_up-next.ensures.3 c.in-None.is

pub loop-walked-preserved : goal.loop-walked-preserved
loop-walked-preserved c = (
  further c.args.c.now.channel c.args.forks c.args.at c.args.was c.args.is c.args.records.now.items c.loop-walked.records.items c.loop-walked.here c.loop-walked.walked c.step_up-next.new.records.items c.in-Some.next (omega (arith, c.loop-walked-test.true))
      c.loop-walked.invariant.0 (subst (λ z. StepsUp c.args.c.now.channel c.loop-walked.records.items c.loop-walked.here z c.step_up-next.result.1 c.step_up-next.new.records.items) c.in-Some.is c.step_up-next.ensures),
  led_on c.args.c.now.channel c.args.at c.args.records.now.items c.loop-walked.walked c.loop-walked.records.items c.loop-walked.here c.loop-walked.invariant.1 c.loop-walked.invariant.0.1 c.in-Some.next c.step_up-next.new.records.items
      (subst (λ z. ChangesParent c.args.c.now.channel c.loop-walked.records.items c.loop-walked.here z c.step_up-next.new.records.items) c.in-Some.is c.step_up-next.ensures.2),
  still_falls c.args.c.now.channel c.args.was c.args.is c.args.records.now.items c.loop-walked.records.items c.loop-walked.here c.loop-walked.invariant.2 c.step_up-next.result.0 c.step_up-next.result.1 c.step_up-next.new.records.items c.step_up-next.ensures.2
      c.step_up-next.ensures.3 c.in-Some.next c.in-Some.is,
)

pub returns-clause-counts : goal.returns-clause-counts
returns-clause-counts c =
    stopped c.args.c.now.channel c.args.forks c.args.at c.args.was c.args.is c.args.records.now.items c.loop-walked.records.items c.loop-walked.here c.loop-walked.walked (omega (arith, c.loop-walked-test.false)) c.loop-walked.invariant.0

pub returns-clause-reaches : goal.returns-clause-reaches
returns-clause-reaches c =
    farther c.args.c.now.channel c.loop-walked.walked c.args.forks c.args.at c.args.records.now.items c.loop-walked.records.items c.loop-walked.auto.walked-end c.loop-walked.invariant.1.reached

pub returns-clause-falls : goal.returns-clause-falls
returns-clause-falls c = λ e f. (c.loop-walked.invariant.2 e f).1
