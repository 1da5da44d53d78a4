use Rattle.std.proofs.Common.{◌≡◌, ◌+◌, ◌-◌, zero, sym, ap, ◌∙◌, arith}
use Rattle.std.specs.Option.{option_map}
use Rattle.shim_run_log.specs.Events.{event_of}
use Rattle.shim_semantics.specs.Walks.{meaning}
use Rattle.shim_reference.proofs.FirstEvents.{stays, goes_on, no_more, one_less}
use Rattle.shim_reference.proofs.run.do_first_events.Goals as goal

pub returns-in-None-clause-tree : goal.returns-in-None-clause-tree
returns-in-None-clause-tree g c =
    sym (stays g.L.Local.ops (c.args.budget - c.loop.counter) c.loop.tree (sym c.in_ok-first.ensures.first ∙ ap (option_map event_of) c.in-None.is)) ∙ c.loop.invariant.rest

pub loop-preserved : goal.loop-preserved
loop-preserved g c =
    let o = g.L.Local.ops in
    let left = c.args.budget - (c.loop.counter + 1) in
    record {
      rest = sym (goes_on o left c.loop.tree c.do_event.new.self (event_of c.in-Some.event) (sym c.in_ok-first.ensures.first ∙ ap (option_map event_of) c.in-Some.is) c.in_ok-do_event-in-Some.ensures.ok)
          ∙ (ap (λ k. meaning o k c.loop.tree) (sym (one_less c.args.budget c.loop.counter c.loop-test.true)) ∙ c.loop.invariant.rest);
      steps = c.in_ok-do_event-in-Some.ensures.counted ∙ ap (λ n. n + 1) c.loop.invariant.steps;
    }

pub returns-clause-tree : goal.returns-clause-tree
returns-clause-tree g c =
    let o = g.L.Local.ops in
    let over : zero ≡ c.args.budget - c.loop.counter = omega (arith, c.loop-test.false) in
    sym (no_more o c.loop.tree) ∙ (ap (λ k. meaning o k c.loop.tree) over ∙ c.loop.invariant.rest)
