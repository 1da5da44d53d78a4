use Rattle.std.proofs.Common.{rules, refl, subst, arith, ◌≡◌, ◌≤◌, length, get_or, slice_set}
use Rattle.std.proofs.lemmas.Option.{slice_get_read}
use Rattle.shim_records.specs.Blocks.{with_block}
use Rattle.shim_records.specs.Fresh.{channels, FreshPairs}
use Rattle.shim_laws_table_events.specs.forks.Forking.{AreOfChildren, EachUpdatedAbove, ready_chans}
use Rattle.shim_process_table.specs.Forking.{IsFreeBlock}
use Rattle.shim_process_table.specs.Touching.{ChangesOnlyRecords}
use Rattle.shim_process_table.proofs.ForkPut.{put, its_record}
use Rattle.shim_process_table.proofs.TouchingForks.{forks_touch}
use Rattle.shim_process_table.proofs.forking.put_fork.Goals as goal

pub returns-clause-ok : goal.returns-clause-ok
returns-clause-ok g c =
    let o = g.L.Local.ops in
    let rs = c.args.records.now in
    let inside = c.requires.inside in
    let same = rs.ok.0 in
    let value : c.index_mut-2.result.now ≡ get_or rs.items c.args.fork.number c.index_mut-2.result.now = search rules in
    let had = slice_get_read rs.items _ c.args.fork.number c.index_mut-2.result.now refl (omega (arith, inside, same)) value in
    let children : AreOfChildren o c.args.fork.number c.args.fork.children.items c.in_ok-born.born.items = search rules in
    let block : IsFreeBlock c.in_ok-first.first c.in_ok-count.count c.args.records.now.items = search rules in
    let many : length c.args.fork.children.items ≡ c.in_ok-count.count = search rules in
    let few : c.in_ok-count.count ≤ 4294967295 = search rules in
    let fresh : FreshPairs o c.args.fork.parent c.args.fork.children.items c.in_ok-pairs.pairs.items = search rules in
    let put_in : c.put_block.new.items.items ≡ with_block c.in_ok-first.first c.args.fork.children.items (slice_set c.args.states.now.items c.args.fork.number c.args.fork.parent) = search rules in
    let ready : channels c.in_ok-chans.chans.items ≡ ready_chans c.note_fork.new.parent.pairs.items = search rules in
    let records : c.put_block-2.new.items.items ≡ with_block c.in_ok-first.first c.in_ok-born.born.items (slice_set c.args.records.now.items c.args.fork.number c.note_fork.new.parent) = search rules in
    let walked : EachUpdatedAbove 4294967295 c.args.fork.number (channels c.in_ok-chans.chans.items) c.put_block-2.new.items.items c.update_ready-forks.new.records.items = search rules in
    put o c.args.fork.number c.in_ok-first.first c.in_ok-count.count c.args.fork.parent c.args.fork.children.items c.args.states.now.items _ c.args.records.now.items c.put_block-2.new.items.items c.update_ready-forks.new.records.items
    c.index_mut-2.result.now c.note_fork.new.parent c.in_ok-born.born.items c.in_ok-chans.chans.items had block many few children
    (its_record o c.in_ok-first.first c.in_ok-count.count c.args.fork.parent c.args.fork.children.items c.index_mut-2.result.now c.note_fork.new.parent c.in_ok-pairs.pairs.items many c.note_fork.ensures.forked c.note_fork.ensures.parent c.note_fork.ensures.path c.note_fork.ensures.going_children c.note_fork.ensures.pairs fresh)
    put_in ready records walked

pub returns-clause-touches : goal.returns-clause-touches
returns-clause-touches g c =
    let o = g.L.Local.ops in
    let x = c.args.fork.number in
    let children : AreOfChildren o x c.args.fork.children.items c.in_ok-born.born.items = search rules in
    let block : IsFreeBlock c.in_ok-first.first c.in_ok-count.count c.args.records.now.items = search rules in
    let put_in : c.put_block.new.items.items ≡ with_block c.in_ok-first.first c.args.fork.children.items (slice_set c.args.states.now.items x c.args.fork.parent) = search rules in
    let records : c.put_block-2.new.items.items ≡ with_block c.in_ok-first.first c.in_ok-born.born.items (slice_set c.args.records.now.items x c.note_fork.new.parent) = search rules in
    let behind = c.update_ready-forks.new.records.items in
    let touched = subst (λ z. ChangesOnlyRecords c.update_ready-forks.result x z behind) records c.update_ready-forks.ensures.touches in
    forks_touch o c.update_ready-forks.result x c.in_ok-first.first c.args.fork.parent c.args.fork.children.items c.note_fork.new.parent c.in_ok-born.born.items (record { states = c.args.states.now.items; records = c.args.records.now.items })
    (record { states = c.put_block.new.items.items; records = behind }) c.requires.beside block.inside children put_in touched
