use Rattle.std.proofs.Common.{rules}
use Rattle.shim_parser.proofs.HeaderExits.{no_step_reads, step_reads}
use Rattle.shim_parser.proofs.header.step.Goals as goal

pub returns-in-Sign-RightParen : goal.returns-in-Sign-RightParen
returns-in-Sign-RightParen c = no_step_reads c.args.level c.args.tokens.now c.advance.new.self (record { at = c.peek-token.result.at; line = c.peek-token.result.line }) _ (search rules)
    c.advance.ensures c.new.ensures

pub returns-in_ok-assignment-in-Name : goal.returns-in_ok-assignment-in-Name
returns-in_ok-assignment-in-Name c = step_reads c.args.level c.args.tokens.now c.enter.new.self c.advance-in-Name.new.self c.value_after_equal.new.tokens c.in-Name.text.now c.in_ok-name-in-Name.name
    (record { at = c.peek-token.result.at; line = c.peek-token.result.line }) c.in_ok-value-in-Name.value _ (search rules) c.in_ok-enter-in-Name.ensures.0 c.in_ok-enter-in-Name.ensures.1
    c.advance-in-Name.ensures
    c.in_ok-name-in-Name.ensures (search rules) c.in_ok-value-in-Name.ensures
