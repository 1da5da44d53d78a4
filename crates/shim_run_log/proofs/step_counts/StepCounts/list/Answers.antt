use Rattle.std.proofs.Common.{ap, sym, ◌∙◌, ◌++◌, map}
use Rattle.std.specs.Prelude.{filter}
use Rattle.std.proofs.lemmas.List.{append_assoc, append-nil}
use Rattle.std.specs.FinMap as finite
use Rattle.shim_base.specs.PathLaws.{path_order_total}
use Rattle.shim_semantics.specs.Endings.{own_steps}
use Rattle.shim_run_log.specs.Maps.{has_stepped}
use Rattle.shim_run_log.proofs.Mapped.{entries_of}
use Rattle.shim_run_log.proofs.Reserved.{entries_stepped, one_and_rest}
use Rattle.shim_run_log.proofs.step_counts.StepCounts.list.Goals as goal

pub loop-path-init : goal.loop-path-init
loop-path-init c =
    (λ i. c.new-list.ensures i ++ map own_steps (filter has_stepped (c.into_iter-path-iterator.ensures.into_iter_gives i)))
    ∙ ap (λ es. map own_steps (filter has_stepped es)) (c.iter-path-items.ensures.rest ∙ sym (entries_of path_order_total c.self.inside.kept.entries c.iter-path-items.ensures.ordered) ∙ ap finite.entries c.self.view_is)
    ∙ ap (map own_steps) (sym (entries_stepped c.args.self.now))

pub loop-path-preserved : goal.loop-path-preserved
loop-path-preserved c =
    let rest = map own_steps (filter has_stepped c.next.new.self) in
    ap (λ z. z ++ rest) c.in_ok-list_steps.ensures
    ∙ append_assoc c.loop-path.list _ rest
    ∙ ap (λ z. c.loop-path.list ++ z) (one_and_rest (c.in-Some.path.now, c.in-Some.count.now) c.next.new.self)
    ∙ ap (λ z. c.loop-path.list ++ map own_steps (filter has_stepped z)) (sym c.in-Some.ensures.steps)
    ∙ c.loop-path.invariant

pub returns : goal.returns
returns c = sym (append-nil c.loop-path.list) ∙ ap (λ z. c.loop-path.list ++ map own_steps (filter has_stepped z)) (sym c.in-None.ensures.steps.0) ∙ c.loop-path.invariant
