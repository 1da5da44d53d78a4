use Rattle.std.proofs.Common.{sym, ap, ◌∙◌, arith, false, refl, subst, None}
use Rattle.shim_records.specs.Pairs.{pair_index, counts_at, up_at}
use Rattle.shim_records.specs.Ways.{StepsUp}
use Rattle.shim_records.proofs.Pairing.{place_within, no_place}
use Rattle.shim_records.proofs.Stepping.{top, uncounted, its, up_is, past_end, same_items, same_bools, other_bool, closed_by, ends, goes, fork_read}
use Rattle.shim_records.proofs.upward.step_up.Goals as goal

pub returns-then-here-len : goal.returns-then-here-len
returns-then-here-len c =
    let rs = c.args.records.now in
    top c.args.c.now.channel rs.items c.args.here (ap up_at (past_end rs.items c.args.here.at (let len = c.len.ensures in let same = rs.ok.0 in let past = c.if-here-len.true in omega (arith, len, same, past))))

pub returns-in-None : goal.returns-in-None
returns-in-None c =
    let rs = c.args.records.now in
    let record_before = its c.args.c.now.channel rs.items c.args.here c.len.result c.args.here.at c.index.result.now (c.len.ensures ∙ rs.ok.0) (omega (arith, c.if-here-len.false)) c.index.ensures in
    top c.args.c.now.channel rs.items c.args.here (up_is c.args.c.now.channel rs.items c.args.here c.index.result.now None record_before c.in-None.is)

pub returns-then-above-len : goal.returns-then-above-len
returns-then-above-len c =
    let rs = c.args.records.now in
    let record_before = its c.args.c.now.channel rs.items c.args.here c.len.result c.args.here.at c.index.result.now (c.len.ensures ∙ rs.ok.0) (omega (arith, c.if-here-len.false)) c.index.ensures in
    uncounted c.args.c.now.channel rs.items c.args.here c.in-Some.above (up_is c.args.c.now.channel rs.items c.args.here c.index.result.now _ record_before c.in-Some.is)
    (ap (counts_at c.args.c.now.channel) (past_end rs.items c.in-Some.above (let len = c.len-2.ensures in let same = rs.ok.0 in let past = c.if-above-len.true in omega (arith, len, same, past))))

pub returns-in-None-place_in : goal.returns-in-None-place_in
returns-in-None-place_in c =
    let rs = c.args.records.now in
    let ch = c.args.c.now.channel in
    let record_before = its ch rs.items c.args.here c.len.result c.args.here.at c.index.result.now (c.len.ensures ∙ rs.ok.0) (omega (arith, c.if-here-len.false)) c.index.ensures in
    let fork = its ch rs.items c.args.here c.len-2.result c.in-Some.above c.index_mut-record.result.now (c.len-2.ensures ∙ rs.ok.0) (omega (arith, c.if-above-len.false)) c.index_mut-record.ensures.value in
    subst (StepsUp ch rs.items c.args.here None false) (sym (same_items rs.items c.in-Some.above c.index_mut-record.result.now fork))
    (uncounted ch rs.items c.args.here c.in-Some.above (up_is ch rs.items c.args.here c.index.result.now _ record_before c.in-Some.is)
    (ap (counts_at ch) fork ∙ no_place ch c.index_mut-record.result.now.pairs.items (ap (pair_index ch) (sym c.as_slice.ensures.value) ∙ (sym c.place_in.ensures ∙ c.in-None-place_in.is))))

pub index_mut-pair-requires : goal.index_mut-pair-requires
index_mut-pair-requires c =
    let ps = c.index_mut-record.result.now.pairs in
    let inside = place_within c.args.c.now.channel ps.items c.in-Some-place_in.place (ap (pair_index c.args.c.now.channel) (sym c.as_slice.ensures.value) ∙ (sym c.place_in.ensures ∙ c.in-Some-place_in.is)) in
    let same = ps.ok.0 in
    omega (arith, inside, same)

pub returns-then-before-after : goal.returns-then-before-after
returns-then-before-after c =
    let rs = c.args.records.now in
    let ch = c.args.c.now.channel in
    let record_before = its ch rs.items c.args.here c.len.result c.args.here.at c.index.result.now (c.len.ensures ∙ rs.ok.0) (omega (arith, c.if-here-len.false)) c.index.ensures in
    let fork = its ch rs.items c.args.here c.len-2.result c.in-Some.above c.index_mut-record.result.now (c.len-2.ensures ∙ rs.ok.0) (omega (arith, c.if-above-len.false)) c.index_mut-record.ensures.value in
    ends ch rs.items c.args.here c.in-Some.above c.in-Some-place_in.place c.index_mut-record.result.now c.index_mut-pair.result.now c.move_pair.new.pair
    (up_is ch rs.items c.args.here c.index.result.now _ record_before c.in-Some.is) fork (ap (pair_index ch) (sym c.as_slice.ensures.value) ∙ (sym c.place_in.ensures ∙ c.in-Some-place_in.is)) c.index_mut-pair.ensures.value
    c.move_pair.ensures.same c.move_pair.ensures.sharing c.move_pair.ensures.label c.move_pair.ensures.moved c.may_be_due-due.result (closed_by c.may_be_due-due.result c.tally_ready-after.result c.move_pair.new.pair c.tally_ready-after.ensures c.may_be_due-due.ensures) c.move_pair.ensures.falls
    (sym c.tally_ready-before.ensures ∙ (same_bools c.tally_ready-before.result c.tally_ready-after.result c.if-before-after.true ∙ c.tally_ready-after.ensures))

pub returns : goal.returns
returns c =
    let rs = c.args.records.now in
    let ch = c.args.c.now.channel in
    let record_before = its ch rs.items c.args.here c.len.result c.args.here.at c.index.result.now (c.len.ensures ∙ rs.ok.0) (omega (arith, c.if-here-len.false)) c.index.ensures in
    let fork = its ch rs.items c.args.here c.len-2.result c.in-Some.above c.index_mut-record.result.now (c.len-2.ensures ∙ rs.ok.0) (omega (arith, c.if-above-len.false)) c.index_mut-record.ensures.value in
    goes ch rs.items c.args.here c.in-Some.above c.in-Some-place_in.place c.index_mut-record.result.now c.index_mut-pair.result.now c.move_pair.new.pair
    (up_is ch rs.items c.args.here c.index.result.now _ record_before c.in-Some.is) fork (ap (pair_index ch) (sym c.as_slice.ensures.value) ∙ (sym c.place_in.ensures ∙ c.in-Some-place_in.is)) c.index_mut-pair.ensures.value
    c.move_pair.ensures.same c.move_pair.ensures.sharing c.move_pair.ensures.label c.move_pair.ensures.moved c.may_be_due-due.result (closed_by c.may_be_due-due.result c.tally_ready-after.result c.move_pair.new.pair c.tally_ready-after.ensures c.may_be_due-due.ensures) c.move_pair.ensures.falls
    (record { at = c.in-Some.above; was = c.going_child_status.result; is = c.going_child_status-2.result }) (λ e. sym c.tally_ready-before.ensures ∙ other_bool c.tally_ready-before.result c.tally_ready-after.result c.if-before-after.false (c.tally_ready-after.ensures ∙ e)) refl
    (fork_read c.going_child_status.result c.tally_ready-before.result c.index_mut-pair.result.now c.going_child_status.ensures c.tally_ready-before.ensures)
    (fork_read c.going_child_status-2.result c.tally_ready-after.result c.move_pair.new.pair c.going_child_status-2.ensures c.tally_ready-after.ensures)
