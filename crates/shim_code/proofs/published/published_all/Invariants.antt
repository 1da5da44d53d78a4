use Rattle.std.proofs.Common.{◌≡◌, ◌++◌, drop}
use Rattle.shim_code.specs.Published.{published_all}
use Rattle.shim_code.proofs.published.published_all.Given as goal

abbrev pub invariant-loop-instr : goal.invariant-loop-instr
invariant-loop-instr l = l.made ++ published_all (drop l.instr-index l.code) ≡ published_all l.code
