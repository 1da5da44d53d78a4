use Rattle.std.proofs.Common.{add-one}
use Rattle.shim_parser.proofs.Exits.{propagates}
use Rattle.shim_parser.proofs.HeaderExits.{header_first_fails, header_test_fails, header_step_fails}
use Rattle.shim_parser.proofs.header.header.Goals as goal

pub returns-in_err-first : goal.returns-in_err-first
returns-in_err-first c = propagates _ _ _ _ _ _ c.from_residual-in_err-first.ensures
    (header_first_fails c.args.level _ (add-one c.args.level) c.args.tokens.now c.punctuation.new.tokens c.in_ok-punctuation.ensures c.first_statement.new.tokens _ c.in_err-first.ensures)

pub returns-in_err-test : goal.returns-in_err-test
returns-in_err-test c = propagates _ _ _ _ _ _ c.from_residual-in_err-test.ensures
    (header_test_fails c.args.level _ (add-one c.args.level) c.args.tokens.now c.punctuation.new.tokens c.in_ok-punctuation.ensures c.first_statement.new.tokens c.in_ok-first.first c.in_ok-first.ensures
    c.test.new.tokens _ c.in_err-test.ensures)

pub returns-in_err-step : goal.returns-in_err-step
returns-in_err-step c = propagates _ _ _ _ _ _ c.from_residual-in_err-step.ensures
    (header_step_fails c.args.level _ (add-one c.args.level) c.args.tokens.now c.punctuation.new.tokens c.in_ok-punctuation.ensures c.first_statement.new.tokens c.in_ok-first.first c.in_ok-first.ensures
    c.test.new.tokens c.step.new.tokens c.in_ok-test.test _ c.in_ok-test.ensures c.in_err-step.ensures)
