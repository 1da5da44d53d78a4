use Rattle.std.proofs.Common.{◌≡◌, ◌++◌, drop}
use Rattle.shim_syntax.specs.Printing.{pieces_text, more_params_pieces}
use Rattle.shim_syntax.proofs.printing.push_more_params.Given as goal

abbrev pub invariant-loop-param : goal.invariant-loop-param
invariant-loop-param l = l.text ++ pieces_text (more_params_pieces (drop l.param-index l.params)) ≡ l.initial.text ++ pieces_text (more_params_pieces l.params)
