use Rattle.std.proofs.Common.{◌≡◌, false, sym, ap, rules}
use Rattle.shim_base.specs.Paths.{Channel}
use Rattle.shim_semantics.specs.Nodes.{is_next}
use Rattle.shim_process_table.proofs.HereMeets.{stays_there, at_other_channel}
use Rattle.shim_process_table.proofs.Readied.{stayed_there, moved_there, moved_nowhere}
use Rattle.shim_process_table.proofs.meeting.move_on.Goals as goal

pub returns-then-eq-clause-moves : goal.returns-then-eq-clause-moves
returns-then-eq-clause-moves g c = stays_there g.L.Local.ops c.args.process.now c.args.c.now.channel 4294967295 c.args.at c.in-Next.chan.now c.args.records.now.items (sym c.in-Next.ensures) c.if-eq.ensures

pub returns-then-eq-clause-newly_ready : goal.returns-then-eq-clause-newly_ready
returns-then-eq-clause-newly_ready g c = stayed_there g.L.Local.ops c.args.process.now c.args.c.now.channel c.in-Next.chan.now c.args.at c.args.records.now.items (sym c.in-Next.ensures) c.if-eq.ensures

pub returns-then-eq-clause-queue : goal.returns-then-eq-clause-queue
returns-then-eq-clause-queue g c v i f has = c.queue_at-queue.ensures v i f has (sym c.in-Next.ensures)

pub returns-else-eq-clause-moves : goal.returns-else-eq-clause-moves
returns-else-eq-clause-moves g c =
    let come = c.propagate_stop_above-forks in
    let way = come.ensures.counts in
    at_other_channel g.L.Local.ops c.args.process.now c.args.c.now.channel 4294967295 c.args.at c.in-Next.chan.now way.0 way.1 c.args.records.now.items c.leave_channel.new.records.items come.new.records.items (sym c.in-Next.ensures) c.if-eq.ensures
    c.leave_channel.ensures.leaves way.2 way.3 way.4

pub returns-else-eq-clause-newly_ready : goal.returns-else-eq-clause-newly_ready
returns-else-eq-clause-newly_ready g c =
    let left = c.leave_channel in
    let come = c.propagate_stop_above-forks in
    moved_there g.L.Local.ops c.args.process.now c.args.c.now.channel c.in-Next.chan.now come.result c.args.at c.args.records.now.items left.new.records.items come.new.records.items (sym c.in-Next.ensures) left.ensures.leaves.4.1 left.ensures.none
    come.ensures.counts.4.1 come.ensures.readies

pub returns-else-eq-clause-queue : goal.returns-else-eq-clause-queue
returns-else-eq-clause-queue g c v i f has = c.queue_at-queue.ensures v i f has (sym c.in-Next.ensures)

pub returns-in-Quiet-clause-queue : goal.returns-in-Quiet-clause-queue
returns-in-Quiet-clause-queue g c v i f has = (f, c.args.process.now, has, sym c.in-Quiet.ensures)

pub returns-in-Quiet-clause-newly_ready : goal.returns-in-Quiet-clause-newly_ready
returns-in-Quiet-clause-newly_ready g c =
    let left = c.leave_channel-in-Quiet in
    moved_nowhere g.L.Local.ops c.args.process.now c.args.c.now.channel c.args.at c.args.records.now.items left.new.records.items (λ d. ap (λ z. is_next z d) (sym c.in-Quiet.ensures)) left.ensures.leaves.4.1 left.ensures.none

pub returns-in-Put-clause-newly_ready : goal.returns-in-Put-clause-newly_ready
returns-in-Put-clause-newly_ready g c =
    let left = c.leave_channel-in-Put in
    let none : (d : Channel) → is_next (g.L.Local.ops.stop c.args.process.now) d ≡ false = search rules in
    moved_nowhere g.L.Local.ops c.args.process.now c.args.c.now.channel c.args.at c.args.records.now.items left.new.records.items none left.ensures.leaves.4.1 left.ensures.none
