use Rattle.std.proofs.Common.{◌≡◌, false, subst, rules}
use Rattle.shim_grammar.proofs.Runs.{is_semicolon}
use Rattle.shim_parser.proofs.Exits.{propagates}
use Rattle.shim_parser.proofs.HeaderExits.{no_test_reads, not_semicolon, test_fails, test_reads}
use Rattle.shim_parser.proofs.header.test.Goals as goal

pub returns-in-Sign-Semicolon : goal.returns-in-Sign-Semicolon
returns-in-Sign-Semicolon c = no_test_reads c.args.level c.args.tokens.now c.advance.new.self (record { at = c.peek.result.at; line = c.peek.result.line }) (search rules) c.advance.ensures

pub returns-in_err-test : goal.returns-in_err-test
returns-in_err-test c = propagates _ _ _ _ _ _ c.from_residual.ensures
    (test_fails c.args.level c.args.tokens.now c.expression_before.new.tokens _ (subst (λ t. is_semicolon t ≡ false) c.peek.ensures.is
    (not_semicolon c.peek.result.what _ (λ e. search rules))) c.in_err-test.ensures)

pub returns : goal.returns
returns c = test_reads c.args.level c.args.tokens.now c.expression_before.new.tokens c.in_ok-test.test c.in_ok-test.ensures
