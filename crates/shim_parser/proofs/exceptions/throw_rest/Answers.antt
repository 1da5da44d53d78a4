use Rattle.std.proofs.Common.{rules}
use Rattle.shim_parser.proofs.ExceptionExits.{no_number_reads}
use Rattle.shim_parser.proofs.exceptions.throw_rest.Goals as goal

pub returns-in-Sign-Semicolon : goal.returns-in-Sign-Semicolon
returns-in-Sign-Semicolon c = no_number_reads c.args.level c.args.tokens.now c.advance.new.self (record { at = c.peek.result.at; line = c.peek.result.line }) (search rules) c.advance.ensures
