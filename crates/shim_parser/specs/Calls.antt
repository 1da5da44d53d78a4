-- What the functions for calls read, within the limits.
use Rattle.std.specs.Prelude.{ℕ, ◌≡◌, List, ◌∷◌, true}
use Rattle.shim_base.specs.declared.token.Sign.TheVariants.{Semicolon}
use Rattle.shim_base.specs.Tokens.{Place}
use Rattle.shim_syntax.specs.declared.limits.Many.TheVariants.{Arguments}
use Rattle.shim_syntax.specs.declared.Expr.{Expr}
use Rattle.shim_syntax.specs.Terminals.{Terminal, Sign}
use Rattle.shim_syntax.specs.Limits.{Count, limits, is_within}
use Rattle.shim_syntax.specs.Grammar.{TextCounts, IsWhole, IsArguments}

-- the argument of that number, which is within the limit on arguments
abbrev pub IsArgument : ℕ → ℕ → TextCounts → TextCounts → List Terminal → List Terminal → Expr → Type 0
IsArgument n l v w s r x = (is_within (Count Arguments) n ≡ true) × IsWhole limits l v w s r x

-- the arguments of a call after the left parenthesis, with the right one and the semicolon
abbrev pub IsCall : ℕ → TextCounts → TextCounts → List Terminal → List Terminal → List Expr → Type 0
IsCall l v w s r xs = (p : Place) × IsArguments limits l v w s (Sign Semicolon p ∷ r) xs
