use Rattle.shim_parser.proofs.CallExits.{argument_reads}
use Rattle.shim_parser.proofs.call.argument.Goals as goal

pub returns-clause-reads : goal.returns-clause-reads
returns-clause-reads c = argument_reads c.args.n c.args.level c.args.tokens.now c.expression.new.tokens _ c.in_ok-number.ensures.0 c.expression.ensures.reads
