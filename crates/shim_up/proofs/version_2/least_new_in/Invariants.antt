use Rattle.std.proofs.Common.{ℕ, ◌<◌}
use Rattle.shim_syntax.specs.Distinct.{IsNew}
use Rattle.shim_up.specs.Up.{fresh_name}
use Rattle.shim_up.proofs.version_2.least_new_in.Given as goal

abbrev pub invariant-loop-number : goal.invariant-loop-number
invariant-loop-number l = (m : ℕ) → m < l.number → IsNew (fresh_name m) l.names → ⊥
