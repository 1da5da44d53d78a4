use Rattle.std.proofs.Common.{length}
use Rattle.shim_parser.proofs.DeclareExits.{DeclaredSoFar}
use Rattle.shim_parser.proofs.declare.declarations.Given as goal

abbrev pub invariant-names : goal.invariant-names
invariant-names l = DeclaredSoFar l.level l.ty l.line l.fn.tokens l.tokens l.all

abbrev pub decreases-names : goal.decreases-names
decreases-names l = length l.tokens.rest
