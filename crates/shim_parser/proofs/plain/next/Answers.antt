use Rattle.std.proofs.Common.{rules}
use Rattle.shim_parser.proofs.PlainExits.{next_reads, next_assign_reads, next_unwanted}
use Rattle.shim_parser.proofs.plain.next.Goals as goal

pub returns-in-Sign-Semicolon : goal.returns-in-Sign-Semicolon
returns-in-Sign-Semicolon c = next_reads c.args.level c.args.tokens.now c.name.new.tokens c.advance.new.self c.in_ok-variable.variable
    (record { at = c.peek.result.at; line = c.peek.result.line }) c.in_ok-variable.ensures (search rules) c.advance.ensures

pub returns-in_ok-value-in-Sign-Equal : goal.returns-in_ok-value-in-Sign-Equal
returns-in_ok-value-in-Sign-Equal c = next_assign_reads c.args.level c.args.tokens.now c.name.new.tokens c.advance-in-Sign-Equal.new.self c.expression_before.new.tokens
    c.in_ok-variable.variable c.in_ok-value-in-Sign-Equal.value (record { at = c.peek.result.at; line = c.peek.result.line }) c.in_ok-variable.ensures (search rules)
    c.advance-in-Sign-Equal.ensures c.in_ok-value-in-Sign-Equal.ensures

pub returns-in_default : goal.returns-in_default
returns-in_default c = next_unwanted c.args.level c.args.tokens.now c.name.new.tokens c.in_ok-variable.variable _ c.peek.result.what _ c.in_ok-variable.ensures c.peek.ensures.is
    (λ e. search rules) (λ e. search rules) c.unexpected.ensures
