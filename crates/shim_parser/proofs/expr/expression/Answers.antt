use Rattle.shim_parser.proofs.ExprExits.{whole_is, whole_stops}
use Rattle.shim_parser.proofs.expr.expression.Goals as goal

pub returns-clause-reads : goal.returns-clause-reads
returns-clause-reads c = whole_is c.args.level c.args.tokens.now c.begin_expression.new.self _ _ c.begin_expression.ensures c.row.ensures.reads

pub returns-clause-stops : goal.returns-clause-stops
returns-clause-stops c = whole_stops c.row.new.tokens.rest c.row.result c.row.ensures.stops
