use Rattle.std.proofs.Common.{◌≡◌, ◌++◌, map, drop}
use Rattle.shim_waits.specs.Rings.{path_of_wait}
use Rattle.shim_waits.proofs.ring.push_paths.Given as goal

-- what was added, with what is left
abbrev pub invariant-loop-i : goal.invariant-loop-i
invariant-loop-i l = l.paths ++ map (path_of_wait l.waits) (drop l.i l.numbers) ≡ l.fn.paths ++ map (path_of_wait l.waits) l.numbers
