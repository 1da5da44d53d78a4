-- The value of an expression: a number, or the trap that comes first.
use Rattle.std.specs.Prelude.{ℕ, ℤ, pos, not, Result, Ok, Err, if◌then◌else◌}
use Rattle.shim_base.specs.declared.operators.BinOp.{BinOp}
use Rattle.shim_base.specs.declared.operators.BinOp.TheVariants.{And, Or}
use Rattle.shim_base.specs.declared.operators.Trap.{Trap}
use Rattle.shim_base.specs.Operators.{applied, applied1, is_zero, truth}
use Rattle.shim_scopes.specs.declared.tree.UExpr.{UExpr, fold-UExpr, UExpr-F}

-- a number, or why there is none
abbrev pub Value : Type 0
Value = Result ℤ Trap

-- the numbers that the variables hold, by their slots
abbrev pub Env : Type 0
Env = ℕ → ℤ

-- what follows from the number, where there is one
abbrev pub on_number : (ℤ → Value) → Value → Value
on_number f (Ok a) = f a
on_number f (Err t) = Err t

-- `&&`: a left side of 0 decides, and nothing on the right is computed
abbrev both : Value → Value → Value
both a b = on_number (λ x. if is_zero x then Ok (pos 0) else on_number (λ y. Ok (truth (not (is_zero y)))) b) a

-- `||`: a left side that isn't 0 decides
abbrev pub either : Value → Value → Value
either a b = on_number (λ x. if is_zero x then on_number (λ y. Ok (truth (not (is_zero y)))) b else Ok (pos 1)) a

-- an operator with both sides computed, the left one first
abbrev pub binary : BinOp → Value → Value → Value
binary op a b = on_number (λ x. on_number (applied op x) b) a

-- the value of an expression from the values of its parts
abbrev pub value_step : UExpr-F (Env → Value) → Env → Value
value_step (UExpr-F.Number n) env = Ok n
value_step (UExpr-F.Var x) env = Ok (env x)
value_step (UExpr-F.Unary op a) env = on_number (applied1 op) (a env)
value_step (UExpr-F.Binary And a b) env = both (a env) (b env)
value_step (UExpr-F.Binary Or a b) env = either (a env) (b env)
value_step (UExpr-F.Binary op a b) env = binary op (a env) (b env)

-- the value of an expression where the variables hold these numbers
abbrev pub value : UExpr → Env → Value
value = fold-UExpr (Env → Value) value_step
