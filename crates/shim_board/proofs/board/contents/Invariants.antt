use Rattle.std.proofs.Common.{◌≡◌, ◌∷◌, replicate}
use Rattle.shim_board.specs.declared.content.Content.TheVariants.{Nothing, Net}
use Rattle.shim_board.proofs.board.contents.Given as goal

abbrev pub invariant-loop : goal.invariant-loop
invariant-loop g l = l.contents.items ≡ Net l.fn.net ∷ replicate l.counter Nothing
