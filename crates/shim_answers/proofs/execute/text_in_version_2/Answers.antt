use Rattle.shim_results.proofs.ExecuteLemmas.{if_ok_weaker}
use Rattle.shim_answers.proofs.execute.text_in_version_2.Goals as goal

pub returns : goal.returns
returns c = if_ok_weaker c.print.result _ _ (λ text is. (c.in_ok-newer.newer, c.in_ok-newer.ensures, is)) c.print.ensures.canonical
