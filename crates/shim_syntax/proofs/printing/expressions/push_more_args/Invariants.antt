use Rattle.std.proofs.Common.{◌≡◌, ◌++◌, drop}
use Rattle.shim_syntax.specs.Printing.{pieces_text, more_args_pieces}
use Rattle.shim_syntax.proofs.printing.expressions.push_more_args.Given as goal

abbrev pub invariant-loop-arg : goal.invariant-loop-arg
invariant-loop-arg l = l.text ++ pieces_text (more_args_pieces (drop l.arg-index l.args)) ≡ l.initial.text ++ pieces_text (more_args_pieces l.args)
