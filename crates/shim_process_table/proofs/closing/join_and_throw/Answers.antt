use Rattle.shim_laws_table.specs.Changes.{segment}
use Rattle.shim_process_table.specs.declared.closing.CloseOutcome.TheVariants.{Threw}
use Rattle.shim_process_table.proofs.ClosingTakes.{still_within, goes, below, throws}
use Rattle.shim_process_table.proofs.closing.join_and_throw.Goals as goal

pub index_mut-requires : goal.index_mut-requires
index_mut-requires g c =
    let xs = c.args.states.now.items in
    still_within xs c.join_children.new.states.items c.args.parent _ (λ l. g.L.Local.ops.join l (segment c.args.first c.args.count xs) c.is_none.result) c.requires.parent c.join_children.ensures c.join_children.new.states.ok.0

pub throw_in-requires-after_bounds : goal.throw_in-requires-after_bounds
throw_in-requires-after_bounds g c κs within =
    let xs = c.args.states.now.items in
    below g.L.Local.ops xs c.join_children.new.states.items (segment c.args.first c.args.count xs) c.args.parent c.args.death c.is_none.result c.is_none.ensures c.join_children.ensures c.in-Some.death c.in-Some.is c.index_mut.result.now c.index_mut.ensures.value
    c.requires.parent c.requires.below

pub returns-in-None : goal.returns-in-None
returns-in-None g c l e =
    let xs = c.args.states.now.items in
    goes g.L.Local.ops xs c.join_children.new.states.items (segment c.args.first c.args.count xs) c.args.parent c.args.death c.is_none.result c.is_none.ensures c.join_children.ensures l e c.in-None.is

pub returns-in-Some : goal.returns-in-Some
returns-in-Some g c l e =
    let xs = c.args.states.now.items in
    throws g.L.Local.ops xs c.join_children.new.states.items (segment c.args.first c.args.count xs) c.args.parent c.args.death c.is_none.result c.is_none.ensures c.join_children.ensures c.in-Some.death c.in-Some.is c.index_mut.result.now c.index_mut.ensures.value
    (Threw c.throw_in.result) c.throw_in.new.process l e c.throw_in.ensures
