use Rattle.std.proofs.Common.{map, ap, ◌∙◌}
use Rattle.shim_laws_table.specs.Dooms.{lesser}
use Rattle.shim_records.specs.Pairs.{record_view, min_labels_in}
use Rattle.shim_records.proofs.ReadOff.{none_yet, one_more, all_read}
use Rattle.shim_records.proofs.recomputing.label_of_children.Goals as goal

pub loop-i-init : goal.loop-i-init
loop-i-init g c = none_yet g.L.Local.ops c.args.c.now.channel c.args.states.now (map record_view c.args.records.now) (min_labels_in c.args.c.now.channel c.args.records.now) c.args.first c.args.count

pub loop-i-preserved : goal.loop-i-preserved
loop-i-preserved g c =
    one_more g.L.Local.ops c.args.c.now.channel c.args.states.now (map record_view c.args.records.now) (min_labels_in c.args.c.now.channel c.args.records.now) c.args.first c.args.count c.loop-i.i c.loop-i.min_dead_label
    c.lesser_of-min_dead_label.result c.loop-i-test.true (c.lesser_of-min_dead_label.ensures ∙ ap (lesser c.loop-i.min_dead_label) c.label_of_child.ensures) c.loop-i.invariant

pub returns : goal.returns
returns g c =
    all_read g.L.Local.ops c.args.c.now.channel c.args.states.now (map record_view c.args.records.now) (min_labels_in c.args.c.now.channel c.args.records.now) c.args.first c.args.count c.loop-i.i c.loop-i.min_dead_label
    c.loop-i-test.false c.loop-i.invariant
