use Rattle.shim_laws_up.proofs.LeastNumber.{has_text_in_version_2}
use Rattle.shim_laws_up.proofs.laws.least_new_name_gives_a_text.Goals as goal

pub returns : goal.returns
returns c = has_text_in_version_2
