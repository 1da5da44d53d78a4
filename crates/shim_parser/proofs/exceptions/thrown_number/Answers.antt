use Rattle.std.proofs.Common.{rules}
use Rattle.shim_parser.proofs.Exits.{propagates}
use Rattle.shim_parser.proofs.ExceptionExits.{number_end_fails, number_reads}
use Rattle.shim_parser.proofs.exceptions.thrown_number.Goals as goal

pub returns-in_err-punctuation : goal.returns-in_err-punctuation
returns-in_err-punctuation c = propagates _ _ _ _ _ _ c.from_residual-in_err-punctuation.ensures
    (number_end_fails c.args.level c.args.tokens.now c.advance.new.self c.requires.paren (search rules) c.advance.ensures c.expression_before.new.tokens c.in_ok-number.number
    c.in_ok-number.ensures _ _ c.in_err-punctuation.ensures)

pub returns : goal.returns
returns c = number_reads c.args.level c.args.tokens.now c.advance.new.self c.requires.paren (search rules) c.advance.ensures c.expression_before.new.tokens c.in_ok-number.number
    c.in_ok-number.ensures c.punctuation.new.tokens c.in_ok-punctuation.ensures
