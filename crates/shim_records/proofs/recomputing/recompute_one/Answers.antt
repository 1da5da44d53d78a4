use Rattle.std.proofs.Common.{sym, ap, ◌∙◌, arith, subst, None, slice_set}
use Rattle.std.proofs.lemmas.Option.{slice_get_read}
use Rattle.shim_records.specs.Pairs.{pair_index, counts_at, up_at}
use Rattle.shim_records.specs.Recomputing.{RecomputesOne}
use Rattle.shim_records.proofs.Pairing.{place_within, no_place}
use Rattle.shim_records.proofs.Stepping.{past_end, same_items, with_pair}
use Rattle.shim_records.proofs.Lowering.{relabelled}
use Rattle.shim_records.proofs.ReadOff.{read, top, without, stops, goes}
use Rattle.shim_records.proofs.recomputing.recompute_one.Goals as goal

pub returns-then-at-len : goal.returns-then-at-len
returns-then-at-len g c =
    let rs = c.args.records.now in
    top g.L.Local.ops c.args.c.now.channel c.args.states.now rs.items c.args.at (ap up_at (past_end rs.items c.args.at (let len = c.len.ensures in let same = rs.ok.0 in let past = c.if-at-len.true in omega (arith, len, same, past))))

pub returns-in-None : goal.returns-in-None
returns-in-None g c =
    let rs = c.args.records.now in
    let record_before = slice_get_read rs.items c.len.result c.args.at c.index.result.now (c.len.ensures ∙ rs.ok.0) (omega (arith, c.if-at-len.false)) c.index.ensures in
    top g.L.Local.ops c.args.c.now.channel c.args.states.now rs.items c.args.at (ap up_at record_before ∙ c.in-None.is)

pub returns-then-above-len : goal.returns-then-above-len
returns-then-above-len g c =
    let rs = c.args.records.now in
    let record_before = slice_get_read rs.items c.len.result c.args.at c.index.result.now (c.len.ensures ∙ rs.ok.0) (omega (arith, c.if-at-len.false)) c.index.ensures in
    without g.L.Local.ops c.args.c.now.channel c.args.states.now rs.items c.args.at c.in-Some.above (ap up_at record_before ∙ c.in-Some.is)
    (ap (counts_at c.args.c.now.channel) (past_end rs.items c.in-Some.above (let len = c.len-2.ensures in let same = rs.ok.0 in let past = c.if-above-len.true in omega (arith, len, same, past))))

pub returns-in-None-place_in : goal.returns-in-None-place_in
returns-in-None-place_in g c =
    let rs = c.args.records.now in
    let ch = c.args.c.now.channel in
    let record_before = slice_get_read rs.items c.len.result c.args.at c.index.result.now (c.len.ensures ∙ rs.ok.0) (omega (arith, c.if-at-len.false)) c.index.ensures in
    let fork = slice_get_read rs.items c.len-2.result c.in-Some.above c.index_mut-record.result.now (c.len-2.ensures ∙ rs.ok.0) (omega (arith, c.if-above-len.false)) c.index_mut-record.ensures.value in
    subst (RecomputesOne g.L.Local.ops ch c.args.states.now rs.items c.args.at None) (sym (same_items rs.items c.in-Some.above c.index_mut-record.result.now fork))
    (without g.L.Local.ops ch c.args.states.now rs.items c.args.at c.in-Some.above (ap up_at record_before ∙ c.in-Some.is)
    (ap (counts_at ch) fork ∙ no_place ch c.index_mut-record.result.now.pairs.items (ap (pair_index ch) (sym c.as_slice-2.ensures.value) ∙ (sym c.place_in.ensures ∙ c.in-None-place_in.is))))

pub index_mut-requires : goal.index_mut-requires
index_mut-requires g c =
    let ch = c.args.c.now.channel in
    let ps = c.index_mut-record.result.now.pairs in
    let inside = place_within ch ps.items c.in-Some-place_in.place (ap (pair_index ch) (sym c.as_slice-2.ensures.value) ∙ (sym c.place_in.ensures ∙ c.in-Some-place_in.is)) in
    let same = ps.ok.0 in
    omega (arith, inside, same)

pub returns-then-other : goal.returns-then-other
returns-then-other g c =
    let rs = c.args.records.now in
    let ch = c.args.c.now.channel in
    let record_before = slice_get_read rs.items c.len.result c.args.at c.index.result.now (c.len.ensures ∙ rs.ok.0) (omega (arith, c.if-at-len.false)) c.index.ensures in
    let fork = slice_get_read rs.items c.len-2.result c.in-Some.above c.index_mut-record.result.now (c.len-2.ensures ∙ rs.ok.0) (omega (arith, c.if-above-len.false)) c.index_mut-record.ensures.value in
    let first_there = slice_get_read rs.items c.len-2.result c.in-Some.above c.index-2.result.now (c.len-2.ensures ∙ rs.ok.0) (omega (arith, c.if-above-len.false)) c.index-2.ensures in
    let many_there = slice_get_read rs.items c.len-2.result c.in-Some.above c.index-3.result.now (c.len-2.ensures ∙ rs.ok.0) (omega (arith, c.if-above-len.false)) c.index-3.ensures in
    let relabels =
    relabelled ch rs.items c.in-Some.above c.in-Some-place_in.place c.index_mut-record.result.now c.index_mut.result.now c.put_label-other.new.pair fork (ap (pair_index ch) (sym c.as_slice-2.ensures.value) ∙ (sym c.place_in.ensures ∙ c.in-Some-place_in.is)) c.index_mut.ensures.value c.put_label-other.ensures.chan
    c.put_label-other.ensures.sharing c.put_label-other.ensures.counts in
    let off =
    read g.L.Local.ops ch c.args.states.now rs.items c.as_slice.result.now c.in-Some.above c.fork_size-count.result c.index-2.result.now c.index-3.result.now c.put_label-other.new.pair.min_dead_label first_there many_there c.as_slice.ensures.value
    c.fork_size-count.ensures (c.put_label-other.ensures.put ∙ c.label_of_children-label.ensures) in
    goes g.L.Local.ops ch c.args.states.now rs.items c.args.at c.in-Some.above (slice_set rs.items c.in-Some.above (with_pair c.index_mut-record.result.now c.in-Some-place_in.place c.put_label-other.new.pair)) c.index_mut.result.now.min_dead_label
    c.put_label-other.new.pair.min_dead_label (ap up_at record_before ∙ c.in-Some.is) relabels off

pub returns-else-other : goal.returns-else-other
returns-else-other g c =
    let rs = c.args.records.now in
    let ch = c.args.c.now.channel in
    let record_before = slice_get_read rs.items c.len.result c.args.at c.index.result.now (c.len.ensures ∙ rs.ok.0) (omega (arith, c.if-at-len.false)) c.index.ensures in
    let fork = slice_get_read rs.items c.len-2.result c.in-Some.above c.index_mut-record.result.now (c.len-2.ensures ∙ rs.ok.0) (omega (arith, c.if-above-len.false)) c.index_mut-record.ensures.value in
    let first_there = slice_get_read rs.items c.len-2.result c.in-Some.above c.index-2.result.now (c.len-2.ensures ∙ rs.ok.0) (omega (arith, c.if-above-len.false)) c.index-2.ensures in
    let many_there = slice_get_read rs.items c.len-2.result c.in-Some.above c.index-3.result.now (c.len-2.ensures ∙ rs.ok.0) (omega (arith, c.if-above-len.false)) c.index-3.ensures in
    let relabels =
    relabelled ch rs.items c.in-Some.above c.in-Some-place_in.place c.index_mut-record.result.now c.index_mut.result.now c.put_label-other.new.pair fork (ap (pair_index ch) (sym c.as_slice-2.ensures.value) ∙ (sym c.place_in.ensures ∙ c.in-Some-place_in.is)) c.index_mut.ensures.value c.put_label-other.ensures.chan
    c.put_label-other.ensures.sharing c.put_label-other.ensures.counts in
    let off =
    read g.L.Local.ops ch c.args.states.now rs.items c.as_slice.result.now c.in-Some.above c.fork_size-count.result c.index-2.result.now c.index-3.result.now c.put_label-other.new.pair.min_dead_label first_there many_there c.as_slice.ensures.value
    c.fork_size-count.ensures (c.put_label-other.ensures.put ∙ c.label_of_children-label.ensures) in
    stops g.L.Local.ops ch c.args.states.now rs.items c.args.at c.in-Some.above (slice_set rs.items c.in-Some.above (with_pair c.index_mut-record.result.now c.in-Some-place_in.place c.put_label-other.new.pair)) c.index_mut.result.now.min_dead_label
    c.put_label-other.new.pair.min_dead_label (ap up_at record_before ∙ c.in-Some.is) relabels off (c.put_label-other.ensures.stays c.if-other.false)
