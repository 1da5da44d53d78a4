use Rattle.std.proofs.Common.{◌≡◌, ◌∙◌, sym, ap, map}
use Rattle.std.specs.FinMap.{entries}
use Rattle.std.proofs.lemmas.Result.{IfOk-weaker}
use Rattle.shim_semantics.specs.Nodes.{Node}
use Rattle.shim_semantics.specs.Endings.{waits_of, wait_at}
use Rattle.shim_run_state.specs.Endings.{IsRoot}
use Rattle.shim_run_state.proofs.RootRead.{root_waits}
use Rattle.shim_run_state.proofs.ended.waits_of.Goals as goal

pub returns-in_ok-gather-in-Blocked : goal.returns-in_ok-gather-in-Blocked
returns-in_ok-gather-in-Blocked g c =
    let o = g.L.Local.ops in
    let v = c.args.table.now in
    IfOk-weaker c.list.result (λ list. list ≡ map wait_at (entries c.gather.new.waits)) (λ list. (root : Node g.row.L.Denot) → IsRoot v c.args.levels root → list ≡ waits_of o root c.args.outcome)
    (λ list h root is. h ∙ (root_waits o v c.args.levels root c.new-waits.result c.gather.new.waits is c.new-waits.ensures c.in_ok-gather-in-Blocked.ensures ∙ ap (waits_of o root) (sym c.in-Blocked.is)))
    c.list.ensures
