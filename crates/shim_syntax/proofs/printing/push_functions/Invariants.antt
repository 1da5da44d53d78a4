use Rattle.std.proofs.Common.{◌≡◌, ◌++◌, drop}
use Rattle.shim_syntax.specs.Printing.{pieces_text, functions_pieces}
use Rattle.shim_syntax.proofs.printing.push_functions.Given as goal

abbrev pub invariant-loop-function : goal.invariant-loop-function
invariant-loop-function l = l.text ++ pieces_text (functions_pieces (drop l.function-index l.functions)) ≡ l.initial.text ++ pieces_text (functions_pieces l.functions)
