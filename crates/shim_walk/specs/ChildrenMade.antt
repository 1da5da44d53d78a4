-- The children of a fork, made one after another, each with its arguments and of what the ones before it left.
use Rattle.std.specs.Prelude.{◌≡◌, ℕ, ◌+◌, List, [], ◌∷◌, ◌++◌, Result, Ok, Err}
use Rattle.shim_base.specs.declared.operators.Trap.{Trap}
use Rattle.shim_units.specs.declared.unit.UBranch.{UBranch}
use Rattle.shim_process.specs.LocalState.{LocalState, unit_at}
use Rattle.shim_process.specs.Arguments.{on_value, arguments}
use Rattle.shim_process.specs.Forks.{child, lending}
use Rattle.shim_locations.specs.declared.argument_fault.ArgumentFault.{ArgumentFault}
use Rattle.shim_locations.specs.declared.argument_fault.ArgumentFault.TheVariants as fault

-- The children of the branches from number `i` on, or the first trap of their arguments. `l` is the process before the fork, in which the arguments are computed. `remainder` is what the branches before number `i` have left of it.
abbrev pub children_made : LocalState → LocalState → ℕ → List UBranch → Result (List LocalState) Trap
children_made l remainder i [] = Ok []
children_made l remainder i (b ∷ branches) =
    on_value (λ given. on_value (λ others. Ok (child remainder i b given ∷ others)) (children_made l (lending remainder b) (i + 1) branches))
    (arguments l.locations l.frame.slots (unit_at l.program b.call.unit).params b.call.args)

-- the children already made, followed by the others; a trap of the others stays
abbrev pub children_before : List LocalState → Result (List LocalState) Trap → Result (List LocalState) Trap
children_before children rest = on_value (λ others. Ok (children ++ others)) rest

-- the answer is the one that is meant, and `NoMemory` may come in its place
abbrev pub MakesChildren : Result (List LocalState) ArgumentFault → Result (List LocalState) Trap → Type 0
MakesChildren (Ok children) meant = meant ≡ Ok children
MakesChildren (Err (fault.Trapped t)) meant = meant ≡ Err t
MakesChildren (Err fault.NoMemory) meant = Unit {0}
