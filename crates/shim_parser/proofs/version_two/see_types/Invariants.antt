use Rattle.std.proofs.Common.{◌≡◌, ◌++◌, length, drop, take, map, true}
use Rattle.shim_syntax.specs.Terminals.{of_version}
use Rattle.shim_parser.specs.TokenView.{token_views}
use Rattle.shim_parser.proofs.version_two.see_types.Given as goal

abbrev pub invariant-loop-at : goal.invariant-loop-at
invariant-loop-at l =
    (length l.tokens ≡ l.at-end)
    × (token_views (take l.at l.tokens) ++ map (of_version true) (token_views (drop l.at l.tokens)) ≡ map (of_version true) (token_views l.initial.tokens))
