use Rattle.shim_laws_binding.proofs.NewWord.{new_word_is_no_identifier}
use Rattle.shim_laws_binding.proofs.laws.new_word_is_no_identifier.Goals as goal

pub returns : goal.returns
returns c = new_word_is_no_identifier
