use Rattle.std.proofs.Common.{refl, subst, arith, w64, to_z, of_z, FitsSigned, rules}
use Rattle.std.proofs.lemmas.Int.{to_z-of_z}
use Rattle.std.proofs.lemmas.Option.{slice_get-get_or}
use Rattle.shim_laws_table_events.specs.meetings.Meetings.{ReceiveAll}
use Rattle.shim_process_table.proofs.HereMeets.{one_received, all_received}
use Rattle.shim_run_state.proofs.Passing.{passes_none, passes_on}
use Rattle.shim_run_state.proofs.meeting.receive_each.Goals as goal

pub loop-place-init : goal.loop-place-init
loop-place-init g c = (λ end rest. rest, passes_none g.L.Local.ops c.args.table.now c.args.table.now c.args.process_lists.now c.args.process_lists.now refl refl)

pub receive_one-requires : goal.receive_one-requires
receive_one-requires g c = (search rules, c.loop-place.invariant.1.serves c.requires.serves)

pub loop-place-preserved : goal.loop-place-preserved
loop-place-preserved g c =
    let o = g.L.Local.ops in
    let numbers = c.args.numbers.now in
    let there = slice_get-get_or numbers c.loop-place.place 0 c.loop-place-test.true in (
      one_received o c.args.c.now.channel (to_z w64 (of_z w64 c.args.value)) numbers c.loop-place.place _ c.args.table.now c.loop-place.table c.receive_one.new.table there c.receive_one.ensures.receives c.loop-place.invariant.0,
      passes_on o c.args.table.now c.loop-place.table c.receive_one.new.table c.args.process_lists.now c.loop-place.process_lists c.receive_one.new.process_lists c.loop-place.invariant.1 c.receive_one.ensures.passes,
    )

pub returns-clause-receive : goal.returns-clause-receive
returns-clause-receive g c =
    let o = g.L.Local.ops in
    let fits : FitsSigned w64 c.args.value = search rules in
    subst (λ z. ReceiveAll o c.args.c.now.channel z c.args.numbers.now c.args.table.now c.loop-place.table) (to_z-of_z w64 c.args.value fits)
    (all_received o c.args.c.now.channel (to_z w64 (of_z w64 c.args.value)) c.args.numbers.now c.loop-place.place c.args.table.now c.loop-place.table (omega (arith, c.loop-place-test.false)) c.loop-place.invariant.0)

pub returns-clause-passes : goal.returns-clause-passes
returns-clause-passes g c = c.loop-place.invariant.1
