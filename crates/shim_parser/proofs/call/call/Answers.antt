use Rattle.shim_parser.proofs.Exits.{propagates}
use Rattle.shim_parser.proofs.CallExits.{call_punctuation_fails}
use Rattle.shim_parser.proofs.call.call.Goals as goal

pub returns-in_err-punctuation : goal.returns-in_err-punctuation
returns-in_err-punctuation c = propagates _ _ _ _ _ _ c.from_residual-in_err-punctuation.ensures
    (call_punctuation_fails c.args.level c.args.tokens.now c.arguments.new.tokens c.punctuation.new.tokens c.in_ok-all.all _ c.in_ok-all.ensures c.in_err-punctuation.ensures)
