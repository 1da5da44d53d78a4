use Rattle.std.proofs.Common.{refl, arith}
use Rattle.std.proofs.lemmas.Option.{slice_get_read}
use Rattle.shim_records.specs.Acted.{process_status_of}
use Rattle.shim_process_table.proofs.Touching.{touches_more}
use Rattle.shim_process_table.proofs.TouchingCloses.{record_closes}
use Rattle.shim_process_table.proofs.TouchingOwn.{all_reach}
use Rattle.shim_process_table.proofs.closing.close_record.Goals as goal

pub update_all_counts-counted-requires-clause-few : goal.update_all_counts-counted-requires-clause-few
update_all_counts-counted-requires-clause-few g c κs within = c.requires.few c.index-states-at.result (slice_get_read c.args.states.now _ c.args.at c.index-states-at.result refl c.requires.of_state c.index-states-at.is)

pub returns-clause-closes : goal.returns-clause-closes
returns-clause-closes g c =
    let s = c.index-states-at.result in
    let there = slice_get_read c.args.states.now _ c.args.at s refl c.requires.of_state c.index-states-at.is in
    record {
      process = s;
      was = c.index_mut.result.now;
      is = c.come_to.new.parent;
      left = c.count_off_if_over.new.records.items;
      between = c.update_all_counts-counted.new.records.items;
      state_is = there;
      there = slice_get_read c.args.records.now.items _ c.args.at c.index_mut.result.now refl c.requires.of_record c.index_mut.ensures.value;
      come = c.come_to.ensures;
      leaves = c.count_off_if_over.ensures;
      walked = c.update_all_counts-counted.ensures.counts;
      again = c.recompute_if-labelled.ensures.recomputes s there;
    }

pub returns-clause-touches : goal.returns-clause-touches
returns-clause-touches g c =
    let at = c.args.at in
    let k = process_status_of c.args.status in
    let left = c.count_off_if_over.new.records.items in
    let counts = c.update_all_counts-counted in
    let labels = c.recompute_if-labelled in
    let one = c.max.ensures in
    let two = c.max-2.ensures in
    record_closes c.max-2.result at k c.index_mut.result.now c.come_to.new.parent c.args.records.now.items left counts.new.records.items labels.new.records.items
    (slice_get_read c.args.records.now.items _ at c.index_mut.result.now refl c.requires.of_record c.index_mut.ensures.value) c.come_to.ensures c.count_off_if_over.ensures
    (touches_more counts.result c.max-2.result at left counts.new.records.items (omega (arith, one, two))
    (all_reach g.L.Local.ops c.index-states-at.result k counts.result 4294967295 at left counts.new.records.items counts.ensures.counts counts.ensures.reaches))
    (touches_more labels.result c.max-2.result at counts.new.records.items labels.new.records.items (omega (arith, one, two)) labels.ensures.touches) (omega (arith, two))
