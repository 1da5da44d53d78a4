use Rattle.shim_sharing.proofs.Rule.{obeys_unless_refused, none_where_obeyed}
use Rattle.shim_sharing.proofs.laws.refused_unless_obeyed.Goals as goal

pub returns : goal.returns
returns c = λ p. (obeys_unless_refused p, none_where_obeyed p)
