use Rattle.std.proofs.Common.{ap, sym, map, ◌≡◌, ◌∙◌}
use Rattle.std.specs.FinMap.{entries}
use Rattle.std.proofs.lemmas.Result.{IfOk-weaker}
use Rattle.shim_tree.specs.NodeStatus.{node}
use Rattle.shim_semantics.specs.Endings.{waits_of, wait_at}
use Rattle.shim_run_log.proofs.WaitsAdded.{blocked_waits}
use Rattle.shim_tree.proofs.reading.waits_of.Goals as goal

pub returns-in_ok-gather-in-Blocked : goal.returns-in_ok-gather-in-Blocked
returns-in_ok-gather-in-Blocked g c =
    let o = g.L.Local.ops in
    let n = node c.args.root.now c.args.status.now in
    IfOk-weaker c.list.result (λ list. list ≡ map wait_at (entries c.gather.new.waits)) (λ list. list ≡ waits_of o n c.args.outcome)
    (λ list is. is ∙ blocked_waits o c.gather.new.waits c.new-waits.result n c.new-waits.ensures c.in_ok-gather-in-Blocked.ensures ∙ ap (waits_of o n) (sym c.in-Blocked.is))
    c.list.ensures
