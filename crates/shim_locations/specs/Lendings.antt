-- What a process has left while the children of a fork are made.
use Rattle.std.specs.Prelude.{ℕ, nat_eq, Bool, false, ◌||◌, List, [], ◌∷◌}
use Rattle.shim_process.specs.Locations.{Locations, lend_at}
use Rattle.shim_process.specs.LocalState.{LocalState}
use Rattle.shim_locations.specs.declared.remainder.Remainder.{Remainder}

-- the number is one of these
abbrev pub is_lent_out : ℕ → List ℕ → Bool
is_lent_out n [] = false
is_lent_out n (m ∷ ms) = nat_eq m n || is_lent_out n ms

-- the locations of a process after it gave those of these numbers by reference, one after another
abbrev pub lent_at : List ℕ → Locations → Locations
lent_at [] locations = locations
lent_at (n ∷ ns) locations = lent_at ns (lend_at locations n)

-- the process with what it has left
abbrev pub remainder_of : LocalState → Remainder → LocalState
remainder_of l remainder = record l { locations = lent_at remainder.taken l.locations; input_at = remainder.input_at; holds_output = remainder.holds_output }
