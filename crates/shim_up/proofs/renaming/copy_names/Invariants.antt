use Rattle.std.proofs.Common.{◌≡◌, ◌++◌, drop, map}
use Rattle.shim_up.specs.Up.{replaced}
use Rattle.shim_up.proofs.renaming.copy_names.Given as goal

abbrev pub invariant-loop-name : goal.invariant-loop-name
invariant-loop-name l = l.made ++ map (replaced l.to) (drop l.name-index l.names) ≡ map (replaced l.to) l.names
