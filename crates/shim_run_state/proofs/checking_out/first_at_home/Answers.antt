use Rattle.std.proofs.Common.{◌<◌, true, slice_set, refl, sym, ap, subst, ◌∙◌}
use Rattle.shim_records.specs.Waiting.{set_flags}
use Rattle.shim_run_state.proofs.Flags.{dropped, put_back, fewer_flags}
use Rattle.shim_run_state.proofs.checking_out.first_at_home.Goals as goal

pub returns-then-is_at_home-clause-still : goal.returns-then-is_at_home-clause-still
returns-then-is_at_home-clause-still g c =
    let took = c.in-Some.ensures in
    let n = c.in-Some.number in
    put_back g.L.Local.ops c.args.table.now c.args.checked_out.now c.args.ready_queue.now c.loop-number.ready_queue c.loop-number.invariant n took.0 c.add.new.self (c.add.ensures ∙ ap (λ z. slice_set z n true) took.1)

pub loop-number-smaller : goal.loop-number-smaller
loop-number-smaller g c =
    let took = c.in-Some.ensures in
    subst (λ z. set_flags z < set_flags c.loop-number.ready_queue) (sym took.1) (fewer_flags c.loop-number.ready_queue c.in-Some.number took.0)

pub loop-number-preserved : goal.loop-number-preserved
loop-number-preserved g c =
    let took = c.in-Some.ensures in
    dropped g.L.Local.ops c.args.table.now c.args.checked_out.now c.args.ready_queue.now c.loop-number.ready_queue c.loop-number.invariant c.in-Some.number took.0 c.take.new.self took.1 (c.if-is_at_home.ensures.other refl)
