-- Terminals with their names replaced, at other places of the same lines.
use Rattle.std.specs.Prelude.{ℕ, List, [], ◌∷◌, length}
use Rattle.shim_base.specs.Tokens.{Place}
use Rattle.shim_syntax.specs.Terminals.{Terminal, Name, Number, Sort, Key, Sign, End, Broken}
use Rattle.shim_up.specs.Renaming.{Renaming}

-- a place of the same line, at another byte
abbrev pub at_byte : ℕ → Place → Place
at_byte at p = record { at = at; line = p.line }

-- The terminal at the byte `at` of its line, and its name replaced if it is a name. The end of the text stands at the place `end`.
abbrev pub rewritten_one : Renaming → Place → ℕ → Terminal → Terminal
rewritten_one f end at (Name x p) = Name (f x) (at_byte at p)
rewritten_one f end at (Number n p) = Number n (at_byte at p)
rewritten_one f end at (Sort sort p) = Sort sort (at_byte at p)
rewritten_one f end at (Key key p) = Key key (at_byte at p)
rewritten_one f end at (Sign sign p) = Sign sign (at_byte at p)
rewritten_one f end at (End p) = End end
rewritten_one f end at (Broken kind p) = Broken kind (at_byte at p)

-- The terminals, each as `rewritten_one` gives it. `place` gives the byte of a terminal by the number of terminals after it.
abbrev pub rewritten : Renaming → Place → (ℕ → ℕ) → List Terminal → List Terminal
rewritten f end place [] = []
rewritten f end place (t ∷ ts) = rewritten_one f end (place (length ts)) t ∷ rewritten f end place ts
