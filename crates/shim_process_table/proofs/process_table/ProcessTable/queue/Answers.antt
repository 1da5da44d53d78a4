use Rattle.std.proofs.Common.{false, sym, subst}
use Rattle.shim_laws_table_events.specs.queues.RecordDecisions.{HasNothingDue}
use Rattle.shim_laws_table_events.specs.keeping.Tables.{TableView}
use Rattle.shim_process_table.specs.Lookups.{IsInUse}
use Rattle.shim_process_table.specs.Queue.{QueueIs}
use Rattle.shim_process_table.specs.Stepping.{IsBeforeQuiet}
use Rattle.shim_process_table.proofs.QueueFacts.{rests, is_fork, lives_there}
use Rattle.shim_process_table.proofs.process_table.ProcessTable.queue.Goals as goal

pub returns-in-Free : goal.returns-in-Free
returns-in-Free g c =
    let v = c.self.inside in
    let w : TableView g.row.L.Denot = record { states = v.states.items; records = v.records.items } in
    let used = subst (λ z. IsInUse z c.args.number) (sym c.self.view_is) c.requires in
    subst (λ z. HasNothingDue g.L.Local.ops z c.args.number × IsBeforeQuiet g.L.Local.ops c.args.number z false) c.self.view_is
    (rests g.L.Local.ops w c.args.number used c.index.result.now c.index.ensures c.in-Free.is)

pub returns-in-Live : goal.returns-in-Live
returns-in-Live g c =
    let v = c.self.inside in
    let w : TableView g.row.L.Denot = record { states = v.states.items; records = v.records.items } in
    let used = subst (λ z. IsInUse z c.args.number) (sym c.self.view_is) c.requires in
    subst (λ z. QueueIs g.L.Local.ops z c.args.number c.queue_alone.result) c.self.view_is
    (c.queue_alone.ensures w c.args.number c.index.result.now.first (lives_there g.L.Local.ops w c.args.number used c.index.result.now c.index.ensures c.index-in-Live.result.now c.index-in-Live.ensures c.in-Live.is))

pub returns-in-Forked : goal.returns-in-Forked
returns-in-Forked g c =
    let v = c.self.inside in
    let w : TableView g.row.L.Denot = record { states = v.states.items; records = v.records.items } in
    let used = subst (λ z. IsInUse z c.args.number) (sym c.self.view_is) c.requires in
    subst (λ z. IsBeforeQuiet g.L.Local.ops c.args.number z false) c.self.view_is
    (is_fork g.L.Local.ops w c.args.number used c.index.result.now c.index.ensures c.in-Forked.field-0 c.in-Forked.is)
