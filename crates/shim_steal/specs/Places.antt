-- Where the deques of the other lanes stand: in the order of the lanes, the own one left out.
use Rattle.std.specs.Prelude.{nat_lt, cond, ℕ, ◌+◌, ◌-◌, List, [], ◌∷◌}

-- the lane whose deque stands at this place
abbrev pub lane_at : ℕ → ℕ → ℕ
lane_at home place = cond (nat_lt place home) place (place + 1)

-- the place of that lane's deque
abbrev pub deque_index : ℕ → ℕ → ℕ
deque_index home from = cond (nat_lt from home) from (from - 1)

-- these pieces, each with its home
abbrev pub from_home : {T : Type 0} → ℕ → List (ℕ × T) → List (ℕ × (ℕ × T))
from_home home [] = []
from_home home (p ∷ ps) = (home, p) ∷ from_home home ps
