-- Counts that are read off entries have none of a process that did no step.
use Rattle.std.proofs.Common.{◌≡◌, ℕ, zero, suc, List, [], ◌∷◌, refl, ap, ◌∙◌}
use Rattle.std.specs.FinMap.{FinMap}
use Rattle.shim_base.specs.Paths.{Path, path_order}
use Rattle.shim_semantics.specs.Advancing.{steps_taken}
use Rattle.shim_run_log.specs.Counted.{StepCount, counted}
use Rattle.shim_run_log.specs.Reserved.{stepped}
use Rattle.shim_run_log.proofs.Reserved.{none_stepped, steps_more}
use Rattle.shim_run_log.proofs.Summed.{at_once}

stepped_taken : (n : ℕ) (m : FinMap path_order ℕ) (p : Path) → stepped (steps_taken m p n) ≡ steps_taken (stepped m) p n
stepped_taken zero m p = refl
stepped_taken (suc n) m p = ap stepped (at_once n m p) ∙ steps_more m p (suc n)

pub all_stepped : (es : List StepCount) → stepped (counted es) ≡ counted es
all_stepped [] = none_stepped
all_stepped (e ∷ es) = stepped_taken e.count (counted es) e.path ∙ ap (λ z. steps_taken z e.path e.count) (all_stepped es)
