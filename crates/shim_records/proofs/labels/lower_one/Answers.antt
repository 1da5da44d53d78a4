use Rattle.std.proofs.Common.{sym, ap, ◌∙◌, arith, subst, None, slice_set}
use Rattle.std.proofs.lemmas.Option.{slice_get_read}
use Rattle.shim_records.specs.Pairs.{pair_index, counts_at, up_at}
use Rattle.shim_records.specs.Labels.{LowersOne}
use Rattle.shim_records.proofs.Pairing.{place_within, no_place}
use Rattle.shim_records.proofs.Stepping.{past_end, same_items, with_pair}
use Rattle.shim_records.proofs.Lowering.{relabelled, top, without, stops, goes}
use Rattle.shim_records.proofs.labels.lower_one.Goals as goal

pub returns-then-at-len : goal.returns-then-at-len
returns-then-at-len c =
    let rs = c.args.records.now in
    top c.args.c.now.channel c.args.label rs.items c.args.at (ap up_at (past_end rs.items c.args.at (let len = c.len.ensures in let same = rs.ok.0 in let past = c.if-at-len.true in omega (arith, len, same, past))))

pub returns-in-None : goal.returns-in-None
returns-in-None c =
    let rs = c.args.records.now in
    let record_before = slice_get_read rs.items c.len.result c.args.at c.index.result.now (c.len.ensures ∙ rs.ok.0) (omega (arith, c.if-at-len.false)) c.index.ensures in
    top c.args.c.now.channel c.args.label rs.items c.args.at (ap up_at record_before ∙ c.in-None.is)

pub returns-then-above-len : goal.returns-then-above-len
returns-then-above-len c =
    let rs = c.args.records.now in
    let record_before = slice_get_read rs.items c.len.result c.args.at c.index.result.now (c.len.ensures ∙ rs.ok.0) (omega (arith, c.if-at-len.false)) c.index.ensures in
    without c.args.c.now.channel c.args.label rs.items c.args.at c.in-Some.above (ap up_at record_before ∙ c.in-Some.is)
    (ap (counts_at c.args.c.now.channel) (past_end rs.items c.in-Some.above (let len = c.len-2.ensures in let same = rs.ok.0 in let past = c.if-above-len.true in omega (arith, len, same, past))))

pub returns-in-None-place_in : goal.returns-in-None-place_in
returns-in-None-place_in c =
    let rs = c.args.records.now in
    let ch = c.args.c.now.channel in
    let record_before = slice_get_read rs.items c.len.result c.args.at c.index.result.now (c.len.ensures ∙ rs.ok.0) (omega (arith, c.if-at-len.false)) c.index.ensures in
    let fork = slice_get_read rs.items c.len-2.result c.in-Some.above c.index_mut-record.result.now (c.len-2.ensures ∙ rs.ok.0) (omega (arith, c.if-above-len.false)) c.index_mut-record.ensures.value in
    subst (LowersOne ch c.args.label rs.items c.args.at None) (sym (same_items rs.items c.in-Some.above c.index_mut-record.result.now fork))
    (without ch c.args.label rs.items c.args.at c.in-Some.above (ap up_at record_before ∙ c.in-Some.is)
    (ap (counts_at ch) fork ∙ no_place ch c.index_mut-record.result.now.pairs.items (ap (pair_index ch) (sym c.as_slice.ensures.value) ∙ (sym c.place_in.ensures ∙ c.in-None-place_in.is))))

pub index_mut-requires : goal.index_mut-requires
index_mut-requires c =
    let ps = c.index_mut-record.result.now.pairs in
    let inside = place_within c.args.c.now.channel ps.items c.in-Some-place_in.place (ap (pair_index c.args.c.now.channel) (sym c.as_slice.ensures.value) ∙ (sym c.place_in.ensures ∙ c.in-Some-place_in.is)) in
    let same = ps.ok.0 in
    omega (arith, inside, same)

pub returns-then-lower : goal.returns-then-lower
returns-then-lower c =
    let rs = c.args.records.now in
    let ch = c.args.c.now.channel in
    let record_before = slice_get_read rs.items c.len.result c.args.at c.index.result.now (c.len.ensures ∙ rs.ok.0) (omega (arith, c.if-at-len.false)) c.index.ensures in
    let fork = slice_get_read rs.items c.len-2.result c.in-Some.above c.index_mut-record.result.now (c.len-2.ensures ∙ rs.ok.0) (omega (arith, c.if-above-len.false)) c.index_mut-record.ensures.value in
    goes ch c.args.label rs.items c.args.at c.in-Some.above (slice_set rs.items c.in-Some.above (with_pair c.index_mut-record.result.now c.in-Some-place_in.place c.lower_label-lower.new.pair)) c.index_mut.result.now.min_dead_label c.lower_label-lower.new.pair.min_dead_label (ap up_at record_before ∙ c.in-Some.is)
    (relabelled ch rs.items c.in-Some.above c.in-Some-place_in.place c.index_mut-record.result.now c.index_mut.result.now c.lower_label-lower.new.pair fork
    (ap (pair_index ch) (sym c.as_slice.ensures.value) ∙ (sym c.place_in.ensures ∙ c.in-Some-place_in.is)) c.index_mut.ensures.value c.lower_label-lower.ensures.chan c.lower_label-lower.ensures.sharing c.lower_label-lower.ensures.counts)
    c.lower_label-lower.ensures.taken

pub returns-else-lower : goal.returns-else-lower
returns-else-lower c =
    let rs = c.args.records.now in
    let ch = c.args.c.now.channel in
    let record_before = slice_get_read rs.items c.len.result c.args.at c.index.result.now (c.len.ensures ∙ rs.ok.0) (omega (arith, c.if-at-len.false)) c.index.ensures in
    let fork = slice_get_read rs.items c.len-2.result c.in-Some.above c.index_mut-record.result.now (c.len-2.ensures ∙ rs.ok.0) (omega (arith, c.if-above-len.false)) c.index_mut-record.ensures.value in
    stops ch c.args.label rs.items c.args.at c.in-Some.above (slice_set rs.items c.in-Some.above (with_pair c.index_mut-record.result.now c.in-Some-place_in.place c.lower_label-lower.new.pair)) c.index_mut.result.now.min_dead_label c.lower_label-lower.new.pair.min_dead_label (ap up_at record_before ∙ c.in-Some.is)
    (relabelled ch rs.items c.in-Some.above c.in-Some-place_in.place c.index_mut-record.result.now c.index_mut.result.now c.lower_label-lower.new.pair fork
    (ap (pair_index ch) (sym c.as_slice.ensures.value) ∙ (sym c.place_in.ensures ∙ c.in-Some-place_in.is)) c.index_mut.ensures.value c.lower_label-lower.ensures.chan c.lower_label-lower.ensures.sharing c.lower_label-lower.ensures.counts)
    c.lower_label-lower.ensures.taken (c.lower_label-lower.ensures.stays c.if-lower.false)
