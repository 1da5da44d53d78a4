-- What the functions for declared names read, within the limits.
use Rattle.std.specs.Prelude.{ℕ, ◌≡◌, List, Bool, true, false, Option, Some, None}
use Rattle.shim_base.specs.declared.token.Sign.TheVariants.{Equal}
use Rattle.shim_syntax.specs.declared.Expr.{Expr}
use Rattle.shim_syntax.specs.Terminals.{Terminal, Sign, first}
use Rattle.shim_syntax.specs.Limits.{limits}
use Rattle.shim_syntax.specs.Grammar.{TextCounts, IsDeclared}
use Rattle.shim_grammar.specs.Machine.{is_operator}
use Rattle.shim_parser.specs.declared.name_value.Declared.{Declared}

-- whether the terminal is the sign `=`
abbrev pub is_equal : Terminal → Bool
is_equal (Sign Equal p) = true
is_equal _ = false

-- no value follows a name without one, and no operator a value
abbrev pub IsOver : Option Expr → Terminal → Type 0
IsOver None t = is_equal t ≡ false
IsOver (Some value) t = is_operator t ≡ false

-- a declared name, with its value where one follows
abbrev pub IsDeclaredHere : ℕ → TextCounts → TextCounts → List Terminal → List Terminal → Declared → Type 0
IsDeclaredHere l v w s r d = IsDeclared limits l v w s r d.name d.value × IsOver d.value (first r)
