use Rattle.std.proofs.Common.{◌<◌, refl, sym, subst}
use Rattle.shim_records.specs.Waiting.{set_flags}
use Rattle.shim_process_table.specs.Due.{DueIs}
use Rattle.shim_run_state.proofs.Flags.{fewer_flags}
use Rattle.shim_run_state.proofs.NextDue.{idle_dropped}
use Rattle.shim_run_state.proofs.settling.first_due.Goals as goal

pub loop-number-smaller : goal.loop-number-smaller
loop-number-smaller g c =
    let took = c.in-Some.ensures in
    subst (λ z. set_flags z < set_flags c.loop-number.event_queue) (sym took.1) (fewer_flags c.loop-number.event_queue c.in-Some.number took.0)

pub loop-number-preserved : goal.loop-number-preserved
loop-number-preserved g c =
    let o = g.L.Local.ops in
    let law = (g.met.L.Local g.world.𝓛 g.world.𝓜 g.world.𝓡 ((λ s x. x), (λ x. x), (λ x. x), λ x. x)).laws in
    let took = c.in-Some.ensures in
    let idle = subst (DueIs o c.args.table.now c.in-Some.number) (c.if-is_something.ensures.nothing refl) c.due-due.ensures in
    idle_dropped o law c.args.table.now c.args.event_queue.now c.loop-number.event_queue c.loop-number.invariant c.in-Some.number took.0 c.take.new.self took.1 idle
