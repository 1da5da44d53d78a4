use Rattle.std.proofs.Common.{ap, sym, ◌∙◌, ◌++◌, map}
use Rattle.std.proofs.lemmas.List.{append_assoc, append-nil}
use Rattle.std.specs.FinMap as finite
use Rattle.shim_base.specs.PathLaws.{path_order_total}
use Rattle.shim_semantics.specs.Endings.{log_at, all_logs}
use Rattle.shim_run_log.proofs.Mapped.{entries_of}
use Rattle.shim_run_log.proofs.logs.Logs.list.Goals as goal

pub loop-path-init : goal.loop-path-init
loop-path-init c =
    (λ i. c.new-list.ensures i ++ all_logs (c.into_iter-path-iterator.ensures.into_iter_gives i))
    ∙ ap all_logs (c.iter-path-items.ensures.rest ∙ sym (entries_of path_order_total c.self.inside.kept.entries c.iter-path-items.ensures.ordered) ∙ ap finite.entries c.self.view_is)

pub loop-path-preserved : goal.loop-path-preserved
loop-path-preserved c =
    let rest = all_logs c.next.new.self in
    ap (λ z. z ++ rest) c.in_ok-add_logs.ensures
    ∙ append_assoc c.loop-path.list _ rest
    ∙ ap (λ z. c.loop-path.list ++ (map (log_at c.in-Some.path.now) z ++ rest)) c.as_slice.ensures
    ∙ ap (λ z. c.loop-path.list ++ all_logs z) (sym c.in-Some.ensures.steps)
    ∙ c.loop-path.invariant

pub returns : goal.returns
returns c = sym (append-nil c.loop-path.list) ∙ ap (λ z. c.loop-path.list ++ all_logs z) (sym c.in-None.ensures.steps.0) ∙ c.loop-path.invariant
