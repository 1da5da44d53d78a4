use Rattle.std.proofs.Common.{◌-◌, length}
use Rattle.shim_parser.specs.TokenView.{token_views}
use Rattle.shim_parser.proofs.CutSteps.{IsCutTo}
use Rattle.shim_parser.proofs.text.cut.Given as goal

abbrev pub invariant-tokens : goal.invariant-tokens
invariant-tokens l = IsCutTo l.text (token_views l.tokens.items) l.lexer

abbrev pub decreases-tokens : goal.decreases-tokens
decreases-tokens l = length l.text - l.lexer.place.at
