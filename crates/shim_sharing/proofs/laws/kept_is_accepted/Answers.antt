use Rattle.shim_sharing.proofs.Kept.{kept_is_answered, answered_is_kept}
use Rattle.shim_sharing.proofs.laws.kept_is_accepted.Goals as goal

pub returns : goal.returns
returns c = λ form. (kept_is_answered form, answered_is_kept form)
