use Rattle.shim_laws_up.proofs.NewNames.{keeps_names}
use Rattle.shim_laws_up.proofs.laws.numbered_name_may_replace_the_word.Goals as goal

pub returns : goal.returns
returns c = keeps_names
