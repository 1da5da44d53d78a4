use Rattle.std.proofs.Common.{◌≡◌, ◌++◌, drop}
use Rattle.shim_code.specs.Listing.{lines_text}
use Rattle.shim_code.proofs.text.push_lines.Given as goal

abbrev pub invariant-loop-at : goal.invariant-loop-at
invariant-loop-at l = l.text ++ lines_text l.at (drop l.at l.code) ≡ l.initial.text ++ lines_text 0 l.code
