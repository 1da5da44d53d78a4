use Rattle.shim_laws_up.proofs.TextInVersion2.{text_in_version_2}
use Rattle.shim_laws_up.proofs.laws.replaced_names_have_a_text_of_version_2.Goals as goal

pub returns : goal.returns
returns c = text_in_version_2
