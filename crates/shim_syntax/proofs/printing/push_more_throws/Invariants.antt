use Rattle.std.proofs.Common.{◌≡◌, ◌++◌, drop}
use Rattle.shim_syntax.specs.Printing.{pieces_text, more_throws_pieces}
use Rattle.shim_syntax.proofs.printing.push_more_throws.Given as goal

abbrev pub invariant-loop-exception : goal.invariant-loop-exception
invariant-loop-exception l = l.text ++ pieces_text (more_throws_pieces (drop l.exception-index l.throws)) ≡ l.initial.text ++ pieces_text (more_throws_pieces l.throws)
