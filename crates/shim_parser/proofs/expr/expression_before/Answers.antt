use Rattle.shim_parser.proofs.Exits.{propagates}
use Rattle.shim_parser.proofs.ExprExits.{whole_punctuation_fails}
use Rattle.shim_parser.proofs.expr.expression_before.Goals as goal

pub returns-in_err-punctuation : goal.returns-in_err-punctuation
returns-in_err-punctuation c = propagates _ _ _ _ _ _ c.from_residual-in_err-punctuation.ensures
    (whole_punctuation_fails c.args.behind c.args.level c.args.tokens.now c.expression.new.tokens c.punctuation.new.tokens c.in_ok-value.value _ c.in_ok-value.ensures.reads c.in_ok-value.ensures.stops c.in_err-punctuation.ensures)
