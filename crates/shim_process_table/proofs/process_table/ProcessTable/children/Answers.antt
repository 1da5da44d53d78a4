use Rattle.std.proofs.Common.{sym, subst}
use Rattle.shim_laws_table.specs.NodeStatus.{forks}
use Rattle.shim_laws_table_events.specs.keeping.Tables.{HasProcessState}
use Rattle.shim_process_table.proofs.ClosingMoves.{children_read}
use Rattle.shim_process_table.proofs.process_table.ProcessTable.children.Goals as goal

pub returns : goal.returns
returns g c first n l has =
    let v = c.self.inside in
    children_read (record { states = v.states.items; records = v.records.items }) c.args.number first n l c.index-fork.result.now c.fork_size.result
    (subst (λ z. HasProcessState z c.args.number first l (forks n)) (sym c.self.view_is) has) c.index-fork.ensures c.fork_size.ensures
