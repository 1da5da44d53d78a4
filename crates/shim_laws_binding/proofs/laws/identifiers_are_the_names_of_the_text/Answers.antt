use Rattle.shim_laws_binding.proofs.NamesRead.{identifiers_are_the_names_of_the_text}
use Rattle.shim_laws_binding.proofs.laws.identifiers_are_the_names_of_the_text.Goals as goal

pub returns : goal.returns
returns c = identifiers_are_the_names_of_the_text
