use Rattle.std.proofs.Common.{arith}
use Rattle.std.proofs.lemmas.Option.{slice_get_read}
use Rattle.shim_records.specs.Acted.{process_status_of}
use Rattle.shim_process_table.proofs.Touching.{touches_more}
use Rattle.shim_process_table.proofs.TouchingOwn.{all_reach, leaves}
use Rattle.shim_process_table.proofs.terminating.terminate.Goals as goal

pub returns-clause-leaves : goal.returns-clause-leaves
returns-clause-leaves g c =
    let rs = c.args.records.now in
    let r = c.index_mut.result.now in
    record {
      was = r;
      there = slice_get_read rs.items rs.len c.args.at r rs.ok.0 c.requires.within c.index_mut.ensures.value;
      labelled = c.take_label-labelled.new.records.items;
      counted = c.update_all_counts-counted.new.records.items;
      takes = c.take_label-labelled.ensures.takes;
      updated = c.update_all_counts-counted.ensures.counts;
      left = c.count_off.ensures;
    }

pub returns-clause-touches : goal.returns-clause-touches
returns-clause-touches g c =
    let rs = c.args.records.now in
    let r = c.index_mut.result.now in
    let at = c.args.at in
    let labels = c.take_label-labelled in
    let counts = c.update_all_counts-counted in
    let one = c.max.ensures in
    let two = c.max-2.ensures in
    leaves c.max-2.result at c.args.status r rs.items labels.new.records.items counts.new.records.items c.count_off.new.records.items (slice_get_read rs.items rs.len at r rs.ok.0 c.requires.within c.index_mut.ensures.value)
    (touches_more labels.result c.max-2.result at _ labels.new.records.items (omega (arith, one, two)) labels.ensures.touches)
    (touches_more counts.result c.max-2.result at labels.new.records.items counts.new.records.items (omega (arith, one, two))
    (all_reach g.L.Local.ops c.args.process.now (process_status_of c.args.status) counts.result 4294967295 at labels.new.records.items counts.new.records.items counts.ensures.counts counts.ensures.reaches)) c.count_off.ensures (omega (arith, two))
