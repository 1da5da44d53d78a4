use Rattle.shim_command.proofs.ModeWords.{asks, only}
use Rattle.shim_command.proofs.laws.a_word_asks_for_its_mode.Goals as goal

pub returns-clause-asks : goal.returns-clause-asks
returns-clause-asks c = asks

pub returns-clause-only : goal.returns-clause-only
returns-clause-only c = only
