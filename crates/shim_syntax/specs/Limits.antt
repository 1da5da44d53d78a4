-- The limits of a source, and what they are limits of.
use Rattle.std.specs.Prelude.{ℕ, Bool, true, false, List, nat_le, not, ◌||◌, length}
use Rattle.shim_syntax.specs.declared.limits.Many.{Many}
use Rattle.shim_syntax.specs.declared.limits.Many.TheVariants as m
use Rattle.shim_syntax.specs.Terminals.{Terminal}

-- the greatest count of each kind: of functions in a source, of parameters of one function, of arguments of one call, and so on
abbrev pub most_of : Many → ℕ
most_of m.Functions = 1024
most_of m.Parameters = 32
most_of m.Arguments = 32
most_of m.Throws = 16
most_of m.Locals = 64
most_of m.Branches = 64
most_of m.Operators = 256

-- what a limit is on: how deep a thing stands, or the number that it has among things of its kind
pub data Limit : Type 0 where
  Nesting : Limit
  Count : Many → Limit

-- the greatest level and the greatest number
abbrev pub most : Limit → ℕ
most Nesting = 64
most (Count what) = most_of what

-- whether the level or the number is at most the greatest that the limit allows
abbrev pub is_within : Limit → ℕ → Bool
is_within limit n = nat_le n (most limit)

-- Whether a thing that begins with the first of these terminals may have that level or that number.
abbrev pub Limits : Type 0
Limits = List Terminal → Limit → ℕ → Bool

-- the limits of the language
abbrev pub limits : Limits
limits s limit n = is_within limit n

-- no limits: each level and each number is within them
abbrev pub no_limits : Limits
no_limits s limit n = true

-- the limit on nesting, and no limit on a count
abbrev pub nesting_alone : Limits
nesting_alone s Nesting n = is_within Nesting n
nesting_alone s (Count what) n = true

-- whether both are the same kind of count
abbrev pub is_same : Many → Many → Bool
is_same m.Functions m.Functions = true
is_same m.Parameters m.Parameters = true
is_same m.Arguments m.Arguments = true
is_same m.Throws m.Throws = true
is_same m.Locals m.Locals = true
is_same m.Branches m.Branches = true
is_same m.Operators m.Operators = true
is_same _ _ = false

-- the limit on nesting, and the limit on the count of one kind
abbrev pub nesting_and : Many → Limits
nesting_and what s Nesting n = is_within Nesting n
nesting_and what s (Count other) n = not (is_same what other) || is_within (Count other) n

-- these limits, but none of them holds for what begins in the terminals `more` that are still to come
abbrev pub until : List Terminal → Limits → Limits
until more c s limit n = c s limit n || nat_le (length s) (length more)
