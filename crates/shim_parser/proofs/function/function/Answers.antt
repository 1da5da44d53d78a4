use Rattle.shim_parser.proofs.Exits.{propagates}
use Rattle.shim_parser.proofs.FunctionsExits.{function_throws_fails, function_body_fails, function_reads}
use Rattle.shim_parser.proofs.function.function.Goals as goal

pub returns-in_err-throws : goal.returns-in_err-throws
returns-in_err-throws c = propagates _ _ _ _ _ _ c.from_residual-in_err-throws.ensures
    (function_throws_fails c.args.tokens.now c.name_before.new.tokens c.in_ok-name.name c.in_ok-name.ensures c.parameters.new.tokens c.in_ok-params.params c.in_ok-params.ensures
    c.throws.new.tokens _ c.in_err-throws.ensures)

pub returns-in_err-body : goal.returns-in_err-body
returns-in_err-body c = propagates _ _ _ _ _ _ c.from_residual-in_err-body.ensures
    (function_body_fails c.args.tokens.now c.name_before.new.tokens c.in_ok-name.name c.in_ok-name.ensures c.parameters.new.tokens c.in_ok-params.params c.in_ok-params.ensures
    c.throws.new.tokens c.in_ok-throws.throws c.in_ok-throws.ensures c.block.new.tokens _ c.in_err-body.ensures)

pub returns : goal.returns
returns c = function_reads c.args.tokens.now c.name_before.new.tokens c.in_ok-name.name c.in_ok-name.ensures c.parameters.new.tokens c.in_ok-params.params c.in_ok-params.ensures
    c.throws.new.tokens c.in_ok-throws.throws c.in_ok-throws.ensures c.block.new.tokens c.args.line c.in_ok-body.body c.in_ok-body.ensures
