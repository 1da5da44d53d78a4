use Rattle.std.proofs.Common.{rules}
use Rattle.shim_parser.proofs.ExceptionExits.{no_variable_reads, variable_reads}
use Rattle.shim_parser.proofs.exceptions.catch_rest.Goals as goal

pub returns-in_ok-punctuation-in-Sign-RightParen : goal.returns-in_ok-punctuation-in-Sign-RightParen
returns-in_ok-punctuation-in-Sign-RightParen c = no_variable_reads c.args.tokens.now c.advance.new.self (record { at = c.peek.result.at; line = c.peek.result.line }) (search rules)
    c.advance.ensures c.punctuation.new.tokens c.in_ok-punctuation-in-Sign-RightParen.ensures

pub returns-in_ok-new-in-Name : goal.returns-in_ok-new-in-Name
returns-in_ok-new-in-Name c = variable_reads c.args.tokens.now c.in-Name.text.now (record { at = c.peek.result.at; line = c.peek.result.line }) (search rules) (search rules)
    c.count_local.new.self c.advance-in-Name.new.self c.in_ok-count_local-in-Name.ensures.0 c.in_ok-count_local-in-Name.ensures.1 c.advance-in-Name.ensures
    c.punctuation-in-Name.new.tokens c.in_ok-punctuation-in-Name.ensures c.punctuation-in-Name-2.new.tokens c.in_ok-new-in-Name.field-0 c.in_ok-punctuation-in-Name-2.ensures c.in_ok-new-in-Name.ensures
