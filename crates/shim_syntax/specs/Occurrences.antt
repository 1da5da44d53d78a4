-- The identifiers of a program in the order of its text, each as often as it stands there.
use Rattle.std.specs.Prelude.{ℕ, List, [], ◌∷◌, ◌++◌, Option, Some, None, map}
use Rattle.shim_syntax.specs.declared.tree.Expr.{Expr, fold-Expr, Expr-F}
use Rattle.shim_syntax.specs.declared.tree.Call.{Call as CallOf}
use Rattle.shim_syntax.specs.declared.tree.Function.{Function}
use Rattle.shim_syntax.specs.declared.tree.Stmt.{Stmt, fold-Stmt}
use Rattle.shim_syntax.specs.declared.tree.What.{What-F}
use Rattle.shim_syntax.specs.declared.tree.BranchWhat.{BranchWhat-F}
use Rattle.shim_syntax.specs.Names.{Texts, param_names}

abbrev pub concatenated : List Texts → Texts
concatenated [] = []
concatenated (t ∷ ts) = t ++ concatenated ts

-- the names in an expression, given those in each operand
abbrev pub expr_occurs : Expr-F Texts → Texts
expr_occurs (Expr-F.Number n) = []
expr_occurs (Expr-F.Var x) = x ∷ []
expr_occurs (Expr-F.Unary op a) = a
expr_occurs (Expr-F.Binary op a b) = a ++ b

-- The names in an expression, in the order of the text. The same of expressions, of an optional one and of a call: `in_exprs`, `in_option`, `in_call`.
abbrev pub in_expr : Expr → Texts
in_expr = fold-Expr Texts expr_occurs

abbrev pub in_exprs : List Expr → Texts
in_exprs [] = []
in_exprs (e ∷ es) = in_expr e ++ in_exprs es

abbrev pub in_option : Option Expr → Texts
in_option None = []
in_option (Some e) = in_expr e

-- the variable of a handler, where it has one
abbrev pub in_variable : Option (List ℕ) → Texts
in_variable None = []
in_variable (Some x) = x ∷ []

abbrev pub in_call : CallOf → Texts
in_call c = c.function ∷ in_exprs c.args

-- the names in a branch, given those in each statement of its block
abbrev pub branch_occurs : BranchWhat-F Texts Texts Texts Texts → Texts
branch_occurs (BranchWhat-F.BranchWhat::Block body) = concatenated body
branch_occurs (BranchWhat-F.BranchWhat::Call c) = in_call c

-- the names in a statement, given those in each statement and each branch inside it
abbrev pub what_occurs : What-F Texts Texts Texts Texts → Texts
what_occurs (What-F.Declare ty x e) = x ∷ in_option e
what_occurs (What-F.Assign x e) = x ∷ in_expr e
what_occurs (What-F.Next x) = x ∷ []
what_occurs (What-F.NextAssign x e) = x ∷ in_expr e
what_occurs (What-F.AssignNext x y) = x ∷ y ∷ []
what_occurs (What-F.Get x y) = x ∷ y ∷ []
what_occurs (What-F.Put x e) = x ∷ in_expr e
what_occurs (What-F.If e first other) = in_expr e ++ (concatenated first ++ concatenated other)
what_occurs (What-F.While e body) = in_expr e ++ concatenated body
what_occurs (What-F.For first test step body) = concatenated first ++ (in_option test ++ (concatenated step ++ concatenated body))
what_occurs (What-F.What::Block body) = concatenated body
what_occurs (What-F.What::Call c) = in_call c
what_occurs (What-F.Try body x y handler) = concatenated body ++ x ∷ (in_variable y ++ concatenated handler)
what_occurs (What-F.Throw x e) = x ∷ in_option e
what_occurs (What-F.Par branches) = concatenated branches

-- the names in a statement, in the order of the text
abbrev pub in_stmt : Stmt → Texts
in_stmt = fold-Stmt Texts Texts Texts Texts branch_occurs what_occurs (λ b. b.what) (λ s. s.what)

-- the names in a function: its own, its parameters', those of the exceptions that it throws, and those in its body
abbrev pub in_function : Function → Texts
in_function f = f.name ∷ (param_names f.params ++ (f.throws ++ concatenated (map in_stmt f.body)))

-- all names in the functions, in the order of the text, each as often as it occurs
abbrev pub identifiers : List Function → Texts
identifiers [] = []
identifiers (f ∷ fs) = in_function f ++ identifiers fs
