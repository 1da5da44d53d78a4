use Rattle.std.proofs.Common.{inl, sym, ap, ◌∙◌, arith}
use lib.ListN.{get_or}
use Rattle.shim_run_log.specs.Events.{event_of}
use Rattle.shim_tests_runs.proofs.OtherOrders.{among_at, none_enabled}
use Rattle.shim_tests_runs.proofs.orders.do_events_by.Goals as goal

pub returns-then-count-eq0 : goal.returns-then-count-eq0
returns-then-count-eq0 g c =
    let rests = none_enabled g.L.Local.ops c.loop-turn.tree event_of c.in_ok-events.events c.in_ok-events.ensures.exactly (sym c.len-count.ensures ∙ c.if-count-eq0.true) in
    record { end = inl (omega (arith, c.loop-turn.invariant, c.loop-turn.auto.turn-end), rests) }

pub do_event-requires-clause-enabled : goal.do_event-requires-clause-enabled
do_event-requires-clause-enabled g c κs within =
    let event = c.index-as_slice-at.result in
    let there = among_at event_of c.in_ok-events.events c.place-at.result event (omega (arith, c.place-at.ensures, c.len-count.ensures))
    (c.index-as_slice-at.is ∙ ap (λ xs. get_or xs c.place-at.result event) c.as_slice.ensures) in
    (c.in_ok-events.ensures.exactly (event_of event)).0 there
