use Rattle.std.proofs.Common.{ap, sym, ◌∙◌, ◌++◌, ◌∷◌, map}
use Rattle.std.proofs.lemmas.List.{append_assoc, append-nil}
use Rattle.std.specs.FinMap as finite
use Rattle.shim_base.specs.PathLaws.{path_order_total}
use Rattle.shim_semantics.specs.Endings.{wait_at}
use Rattle.shim_run_log.proofs.Mapped.{entries_of}
use Rattle.shim_run_log.proofs.waits.Waits.list.Goals as goal

pub loop-path-init : goal.loop-path-init
loop-path-init c =
    (λ i. c.new-list.ensures i ++ map wait_at (c.into_iter-path-iterator.ensures.into_iter_gives i))
    ∙ ap (map wait_at) (c.iter-path-items.ensures.rest ∙ sym (entries_of path_order_total c.self.inside.kept.entries c.iter-path-items.ensures.ordered) ∙ ap finite.entries c.self.view_is)

pub loop-path-preserved : goal.loop-path-preserved
loop-path-preserved c =
    ap (λ z. z ++ map wait_at c.next.new.self) c.in_ok-push.ensures.ok
    ∙ append_assoc c.loop-path.list _ (map wait_at c.next.new.self)
    ∙ (λ i. c.loop-path.list ++ record { path = c.in_ok-copy.ensures i; chan = c.in_ok-copy-2.ensures i } ∷ map wait_at c.next.new.self)
    ∙ ap (λ z. c.loop-path.list ++ map wait_at z) (sym c.in-Some.ensures.steps)
    ∙ c.loop-path.invariant

pub returns : goal.returns
returns c = sym (append-nil c.loop-path.list) ∙ ap (λ z. c.loop-path.list ++ map wait_at z) (sym c.in-None.ensures.steps.0) ∙ c.loop-path.invariant
