use Rattle.std.proofs.Common.{ap, sym, cond, ◌∙◌}
use Rattle.shim_local.specs.declared.Outcome.TheVariants.{Spent}
use Rattle.shim_tree.specs.NodeStatus.{node}
use Rattle.shim_semantics.specs.Endings.{outcome_of_root}
use Rattle.shim_tree.proofs.reading.outcome_of.Goals as goal

pub returns-then-quiescent : goal.returns-then-quiescent
returns-then-quiescent g c = λ l. c.outcome_of_root.ensures l ∙ ap (λ b. cond b (outcome_of_root (node l c.args.status.now)) Spent) (sym c.if-quiescent.true)
