use Rattle.std.proofs.Common.{ap, ◌∙◌}
use Rattle.shim_workers.proofs.Weaker.{if_ok_weaker}
use Rattle.shim_workers.proofs.driving.run_by_workers.Goals as goal

pub returns-clause-root : goal.returns-clause-root
returns-clause-root g c = if_ok_weaker c.rounds-2.result _ _ (λ n e. e ∙ ap (λ p. p.0) c.in_ok-over.ensures.name ∙ c.in_ok-redo_all.ensures.goes_on.root) c.rounds-2.ensures.root

pub returns-clause-budget : goal.returns-clause-budget
returns-clause-budget g c = if_ok_weaker c.rounds-2.result _ _ (λ n e. e ∙ ap (λ p. p.1) c.in_ok-over.ensures.name ∙ c.in_ok-redo_all.ensures.goes_on.budget) c.rounds-2.ensures.budget
