use Rattle.std.proofs.Common.{◌-◌, length}
use Rattle.shim_lexer.proofs.Passes.{IsPassedTo}
use Rattle.shim_lexer.proofs.lexer.token_from.Given as goal

abbrev pub invariant-passing : goal.invariant-passing
invariant-passing l = IsPassedTo l.text (record { at = l.from; line = l.first_line }) l.at l.line

abbrev pub decreases-passing : goal.decreases-passing
decreases-passing l = length l.text - l.at
