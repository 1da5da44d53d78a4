use Rattle.shim_parser.proofs.PlainExits.{throw_fails, throw_reads}
use Rattle.shim_parser.proofs.Exits.{propagates}
use Rattle.shim_parser.proofs.plain.throw.Goals as goal

pub returns-in_err-number : goal.returns-in_err-number
returns-in_err-number c = propagates _ _ _ _ _ _ c.from_residual-in_err-number.ensures
    (throw_fails c.args.level c.args.tokens.now c.name.new.tokens c.throw_rest.new.tokens c.in_ok-exception.exception _ c.in_ok-exception.ensures c.in_err-number.ensures)

pub returns : goal.returns
returns c = throw_reads c.args.level c.args.tokens.now c.name.new.tokens c.throw_rest.new.tokens c.in_ok-exception.exception c.in_ok-number.number c.in_ok-exception.ensures c.in_ok-number.ensures
