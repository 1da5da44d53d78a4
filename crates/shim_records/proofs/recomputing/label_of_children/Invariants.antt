use Rattle.std.proofs.Common.{◌≡◌, map, ◌+◌, ◌-◌}
use Rattle.shim_laws_table.specs.Dooms.{lesser}
use Rattle.shim_laws_table.specs.Recomputing.{min_label_among}
use Rattle.shim_records.specs.Pairs.{record_view, min_labels_in}
use Rattle.shim_records.proofs.recomputing.label_of_children.Given as goal

abbrev pub invariant-loop-i : goal.invariant-loop-i
invariant-loop-i g l =
    lesser l.min_dead_label (min_label_among g.L.Local.ops l.c.channel l.states (map record_view l.records) (min_labels_in l.c.channel l.records) (l.first + l.i) (l.count - l.i))
    ≡ min_label_among g.L.Local.ops l.c.channel l.states (map record_view l.records) (min_labels_in l.c.channel l.records) l.first l.count
