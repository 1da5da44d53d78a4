-- The code of expressions, statements, units and programs.
use Rattle.std.specs.Prelude.{ℕ, ℤ, pos, ◌+◌, List, ◌∷◌, length, map, Option, Some, None}
use Rattle.shim_base.specs.declared.operators.BinOp.TheVariants.{And, Or}
use Rattle.shim_scopes.specs.declared.tree.UExpr.{UExpr, UExpr-F, fold-UExpr}
use Rattle.shim_units.specs.declared.unit.Arg.{Arg}
use Rattle.shim_units.specs.declared.unit.Arg.TheVariants.{Ref as ByRef, Pass as ByPass, Fresh as ByFresh}
use Rattle.shim_units.specs.declared.unit.UBranch.{UBranch}
use Rattle.shim_units.specs.declared.unit.UCall.{UCall}
use Rattle.shim_units.specs.declared.unit.UStmt.{UStmt, fold-UStmt}
use Rattle.shim_units.specs.declared.unit.UWhat.{UWhat-F}
use Rattle.shim_code.specs.declared.instr.MarkKind.{MarkKind}
use Rattle.shim_code.specs.declared.instr.MarkKind.TheVariants as kind
use Rattle.shim_code.specs.declared.instr.Instr.{Instr}
use Rattle.shim_code.specs.declared.instr.Instr.TheVariants.{Mark, Num, Var, Un, Bin, Bool, Jump, JumpZ, Declare, Set, Get, Put, Next, Ref, Pass, Fresh, Call, Branch, Fork, Try, Untry, Throw, End}
use Rattle.shim_code.specs.Layout.{CodeAt, one, sequence, all, arms, loop}

-- a piece of a unit's code, by its place
abbrev pub Code : Type 0
Code = CodeAt Instr

-- The code of an expression from the code of its operands, which come before their operator. For `a && b` the code gives 0 if a is 0, and else b as 0 or 1. For `a || b` it gives b as 0 or 1 if a is 0, and else 1.
abbrev pub compile_expr_step : UExpr-F Code → Code
compile_expr_step (UExpr-F.Number n) = one (Num n)
compile_expr_step (UExpr-F.Var x) = one (Var x)
compile_expr_step (UExpr-F.Unary op a) = sequence a (one (Un op))
compile_expr_step (UExpr-F.Binary And a b) = sequence a (arms Jump JumpZ (sequence b (one Bool)) (one (Num (pos 0))))
compile_expr_step (UExpr-F.Binary Or a b) = sequence a (arms Jump JumpZ (one (Num (pos 1))) (sequence b (one Bool)))
compile_expr_step (UExpr-F.Binary op a b) = sequence a (sequence b (one (Bin op)))

abbrev pub expr_code : UExpr → Code
expr_code = fold-UExpr Code compile_expr_step

-- the code of the expression, or of the number n where there is no expression
abbrev pub expr_or : ℤ → Option UExpr → Code
expr_or n None = one (Num n)
expr_or n (Some e) = expr_code e

-- an argument by reference, a variable by value on its channel, or the value of an expression
abbrev pub arg_code : Arg → Code
arg_code (ByRef x) = one (Ref x)
arg_code (ByPass x) = one (Pass x)
arg_code (ByFresh e) = sequence (expr_code e) (one Fresh)

-- the code of the arguments, in their order
abbrev pub args_code : List Arg → Code
args_code args = all (map arg_code args)

-- the code of the arguments, and the call of the unit, with the number of arguments
abbrev pub call_code : UCall → Code
call_code c = sequence (args_code c.args) (one (Call c.unit (length c.args) c.throws))

-- the arguments of a branch's call, and the instruction of the branch, with their number
abbrev pub branch_code : UBranch → Code
branch_code b = sequence (args_code b.call.args) (one (Branch b.call.unit (length b.call.args) b.call.throws))

abbrev pub branches_code : List UBranch → Code
branches_code branches = all (map branch_code branches)

-- the code of the branches in their order, and the fork, with the number of branches
abbrev pub fork_code : List UBranch → Code
fork_code branches = sequence (branches_code branches) (one (Fork (length branches)))

-- a mark of this kind and line, and the code c after it
abbrev pub marked_code : MarkKind → ℕ → Code → Code
marked_code k line c pc = Mark k line ∷ c (pc + 1)

-- A loop from its mark on: the test, where a 0 leads out of it, the body, and the way back to the mark.
abbrev pub looped : ℕ → Code → Code → Code
looped line test body pc = Mark kind.Quiet line ∷ sequence test (loop Jump JumpZ pc body) (pc + 1)

-- The code of each statement, from its line. An absent start and an absent number of a `throw` are 0, an absent test is 1, and an absent `else` is an empty block. `next x = e` assigns and then meets; `x = next y` meets and then assigns; both parts have marks. The handler of a `try` comes after its block, and a jump at the end of the block leads past the handler.
abbrev pub what_code : UWhat-F (ℕ → Code) Code → ℕ → Code
what_code (UWhat-F.Declare t x e) line = marked_code kind.Quiet line (sequence (expr_or (pos 0) e) (one (Declare x)))
what_code (UWhat-F.Assign x e) line = marked_code kind.Quiet line (sequence (expr_code e) (one (Set x)))
what_code (UWhat-F.Next x) line = marked_code kind.Next line (one (Next x))
what_code (UWhat-F.NextAssign x e) line = sequence (marked_code kind.Quiet line (sequence (expr_code e) (one (Set x)))) (marked_code kind.Next line (one (Next x)))
what_code (UWhat-F.AssignNext x y) line = sequence (marked_code kind.Next line (one (Next y))) (marked_code kind.Quiet line (sequence (one (Var y)) (one (Set x))))
what_code (UWhat-F.Get x i) line = marked_code kind.Quiet line (sequence (one (Get i)) (one (Set x)))
what_code (UWhat-F.Put o e) line = marked_code kind.Put line (sequence (expr_code e) (one (Put o)))
what_code (UWhat-F.If e a b) line = marked_code kind.Quiet line (sequence (expr_code e) (arms Jump JumpZ (all a) (all b)))
what_code (UWhat-F.While e a) line = looped line (expr_code e) (all a)
what_code (UWhat-F.For first e step body) line = sequence (all first) (looped line (expr_or (pos 1) e) (sequence (all body) (all step)))
what_code (UWhat-F.Block a) line = all a
what_code (UWhat-F.Call c) line = marked_code kind.Quiet line (call_code c)
what_code (UWhat-F.Try a x y b) line = marked_code kind.Quiet line (arms Jump (λ h. Try h x y) (sequence (all a) (one Untry)) (all b))
what_code (UWhat-F.Throw x e) line = marked_code kind.Throw line (sequence (expr_or (pos 0) e) (one (Throw x)))
what_code (UWhat-F.Par branches) line = marked_code kind.Fork line (fork_code branches)

abbrev pub stmt_code : UStmt → Code
stmt_code = fold-UStmt (ℕ → Code) Code what_code (λ s. s.what s.line)

-- the code of statements, one after another
abbrev pub stmts_code : List UStmt → Code
stmts_code ss = all (map stmt_code ss)

-- the code of a unit with these statements: the code of the statements, from place 0, and the end of the unit
abbrev pub unit_code : List UStmt → List Instr
unit_code body = sequence (stmts_code body) (one End) 0
