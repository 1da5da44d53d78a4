use Rattle.shim_results.proofs.ExecuteLemmas.{reference_was}
use Rattle.shim_results.proofs.meaning.end_of_syntax.Goals as goal

pub returns : goal.returns
returns c = reference_was c.reference.result _ _ _ _ _ c.in_ok-share.ensures c.in_ok-input.ensures c.reference.ensures.end
