-- The rules of lexical scope: which number each name of a program has, by what is declared and in force around the point of the text where it stands.
use Rattle.std.specs.Prelude.{ℕ, ℤ, suc, ◌+◌, ◌≡◌, List, [], ◌∷◌, ◌++◌, Option, Some, None, length, codes, slice_get}
use Rattle.shim_base.specs.declared.types.Ty.{Ty}
use Rattle.shim_base.specs.declared.types.Ty.TheVariants.{Int32}
use Rattle.shim_base.specs.declared.operators.BinOp.{BinOp}
use Rattle.shim_base.specs.declared.operators.UnOp.{UnOp}
use Rattle.shim_syntax.specs.declared.tree.Sort.{Sort}
use Rattle.shim_syntax.specs.declared.tree.Sort.TheVariants.{Value}
use Rattle.shim_syntax.specs.declared.tree.Expr.{Expr}
use Rattle.shim_syntax.specs.declared.tree.Expr.TheVariants as e
use Rattle.shim_syntax.specs.declared.tree.Call.{Call}
use Rattle.shim_syntax.specs.declared.tree.Param.{Param}
use Rattle.shim_syntax.specs.declared.tree.Function.{Function}
use Rattle.shim_syntax.specs.declared.tree.Program.{Program}
use Rattle.shim_syntax.specs.declared.tree.Stmt.{Stmt}
use Rattle.shim_syntax.specs.declared.tree.What.{What}
use Rattle.shim_syntax.specs.declared.tree.What.TheVariants as st
use Rattle.shim_syntax.specs.declared.tree.Branch.{Branch}
use Rattle.shim_syntax.specs.declared.tree.BranchWhat.{BranchWhat}
use Rattle.shim_syntax.specs.declared.tree.BranchWhat.TheVariants as br
use Rattle.shim_scopes.specs.declared.form.Form.{Form}
use Rattle.shim_scopes.specs.declared.scope.LocalDeclaration.{LocalDeclaration}
use Rattle.shim_scopes.specs.declared.scope.Handled.{Handled}
use Rattle.shim_scopes.specs.declared.tree.UExpr.{UExpr}
use Rattle.shim_scopes.specs.declared.tree.UExpr.TheVariants as u
use Rattle.shim_scopes.specs.declared.tree.RCall.{RCall}
use Rattle.shim_scopes.specs.declared.tree.RFunction.{RFunction}
use Rattle.shim_scopes.specs.declared.tree.RStmt.{RStmt}
use Rattle.shim_scopes.specs.declared.tree.RWhat.{RWhat}
use Rattle.shim_scopes.specs.declared.tree.RWhat.TheVariants as rt
use Rattle.shim_scopes.specs.declared.tree.RBranch.{RBranch}
use Rattle.shim_scopes.specs.declared.tree.RBranchWhat.{RBranchWhat}
use Rattle.shim_scopes.specs.declared.tree.RBranchWhat.TheVariants as rb
use Rattle.shim_syntax.specs.Names.{Texts}
use Rattle.shim_laws_binding.specs.Innermost.{IsSlotOfInnermost, IsNumberOfInnermost}

-- The lists are equally long. `R` holds of each element of the first and the one at its place in the second.
abbrev pub Pairwise : {S T : Type 0} → (S → T → Type 0) → List S → List T → Type 0
Pairwise R [] [] = Unit {0}
Pairwise R [] (t ∷ ts) = ⊥
Pairwise R (s ∷ ss) [] = ⊥
Pairwise R (s ∷ ss) (t ∷ ts) = R s t × Pairwise R ss ts

-- A point in the text of a function. `declared` are the declarations around it, and `handled` the exceptions in force there, the outermost first. `slots` counts all declarations of the function before the point, in whatever block, its parameters among them; it is the slot of the next. `exceptions` counts the names of its `throws` and each `try` that begins before the point; it is the number of the next.
pub record Point : Type 0 where
  pub declared : List LocalDeclaration
  pub handled : List Handled
  pub slots : ℕ
  pub exceptions : ℕ

-- The point after a declaration at `p`. The declaration is around this point as the innermost, and has the next slot at `p`.
abbrev pub point_after_declaration : List ℕ → Sort → Point → Point
point_after_declaration x sort p = record p { declared = p.declared ++ record { name = x; bound = record { slot = p.slots; sort = sort } } ∷ []; slots = suc p.slots }

-- The point where the body of a `try` at `p` begins. The exception of the `try` is in force there as the innermost, and has the next number at `p`.
abbrev pub inside_try : List ℕ → Point → Point
inside_try x p = record p { handled = p.handled ++ record { name = x; number = p.exceptions } ∷ []; exceptions = suc p.exceptions }

-- The point after a block that begins at `p` and ends at `q`. The declarations around it and the exceptions in force are those of `p`. The counts are those of `q`.
abbrev pub point_after_block : Point → Point → Point
point_after_block p q = record p { slots = q.slots; exceptions = q.exceptions }

-- the point where the statements of a handler begin: after a declaration of its variable as an `int32`, if the handler has one
abbrev pub point_after_variable : Option (List ℕ) → Point → Point
point_after_variable None p = p
point_after_variable (Some y) p = point_after_declaration y (Value Int32) p

-- the slot of a handler's variable, where the handler has one: the next slot at the point
abbrev pub slot_of_variable : Option (List ℕ) → Point → Option ℕ
slot_of_variable None p = None
slot_of_variable (Some y) p = Some p.slots

-- an expression: each variable has the slot of the innermost declaration of its name
pub data BindsExpr (around : List LocalDeclaration) : Expr → UExpr → Type 0 where
  number : {n : ℤ} → BindsExpr around (e.Number n) (u.Number n)
  variable : {x : List ℕ} {slot : ℕ} → IsSlotOfInnermost x around slot → BindsExpr around (e.Var x) (u.Var slot)
  unary : {op : UnOp} {a : Expr} {r : UExpr} → BindsExpr around a r → BindsExpr around (e.Unary op a) (u.Unary op r)
  binary : {op : BinOp} {a b : Expr} {r s : UExpr} → BindsExpr around a r → BindsExpr around b s → BindsExpr around (e.Binary op a b) (u.Binary op r s)

-- an expression that may be missing
pub data BindsOption (around : List LocalDeclaration) : Option Expr → Option UExpr → Type 0 where
  missing : BindsOption around None None
  given : {a : Expr} {r : UExpr} → BindsExpr around a r → BindsOption around (Some a) (Some r)

-- A call has the number of a function of its name. Each argument is bound by the declarations around the call. Each exception of that function's `throws` has the number of the innermost one of that name that is in force at the call.
pub record BindsCall (functions : List Function) (p : Point) (c : Call) (r : RCall) : Type 0 where
  pub callee : Function
  pub called : slice_get functions r.function ≡ Some callee
  pub named : callee.name ≡ c.function
  pub arguments : Pairwise (BindsExpr p.declared) c.args r.args
  pub exceptions : Pairwise (λ x number. IsNumberOfInnermost x p.handled number) callee.throws r.throws

-- `Binds .. p s r q` says that s, which begins at the point p, is bound as r, and that what follows it in its block begins at the point q.
mutual
  -- What a statement does. Each variable or stream that it uses outside the statements in it has the slot of the innermost declaration around a point. That is the point where the statement begins, and for the test of a `for` the point after the first statement.
  pub data BindsWhat (functions : List Function) : Point → What → RWhat → Point → Type 0 where
    -- a declaration has the next slot, and its first value is read before the name is there
    declare : {p : Point} {ty : Ty} {x : List ℕ} {a : Option Expr} {r : Option UExpr} → BindsOption p.declared a r
        → BindsWhat functions p (st.Declare ty x a) (rt.Declare ty p.slots r) (point_after_declaration x (Value ty) p)
    -- `x = e;`
    assign : {p : Point} {x : List ℕ} {a : Expr} {slot : ℕ} {r : UExpr} → IsSlotOfInnermost x p.declared slot → BindsExpr p.declared a r
        → BindsWhat functions p (st.Assign x a) (rt.Assign slot r) p
    -- `next x;`
    next : {p : Point} {x : List ℕ} {slot : ℕ} → IsSlotOfInnermost x p.declared slot → BindsWhat functions p (st.Next x) (rt.Next slot) p
    -- `next x = e;`
    next_assign : {p : Point} {x : List ℕ} {a : Expr} {slot : ℕ} {r : UExpr} → IsSlotOfInnermost x p.declared slot → BindsExpr p.declared a r
        → BindsWhat functions p (st.NextAssign x a) (rt.NextAssign slot r) p
    -- `x = next y;`
    assign_next : {p : Point} {x y : List ℕ} {slot other : ℕ} → IsSlotOfInnermost x p.declared slot → IsSlotOfInnermost y p.declared other
        → BindsWhat functions p (st.AssignNext x y) (rt.AssignNext slot other) p
    -- `x = get y;`
    get : {p : Point} {x y : List ℕ} {slot stream : ℕ} → IsSlotOfInnermost x p.declared slot → IsSlotOfInnermost y p.declared stream
        → BindsWhat functions p (st.Get x y) (rt.Get slot stream) p
    -- `put x, e;`
    put : {p : Point} {x : List ℕ} {a : Expr} {stream : ℕ} {r : UExpr} → IsSlotOfInnermost x p.declared stream → BindsExpr p.declared a r
        → BindsWhat functions p (st.Put x a) (rt.Put stream r) p
    -- the two bodies of an `if` are blocks, the second after the first
    if_else : {p m q : Point} {test : Expr} {first other : List Stmt} {t : UExpr} {f o : List RStmt} → BindsExpr p.declared test t
        → BindsBlock functions p first f m → BindsBlock functions m other o q → BindsWhat functions p (st.If test first other) (rt.If t f o) q
    -- the body of a `while` is a block
    while : {p q : Point} {test : Expr} {body : List Stmt} {t : UExpr} {b : List RStmt} → BindsExpr p.declared test t
        → BindsBlock functions p body b q → BindsWhat functions p (st.While test body) (rt.While t b) q
    -- A `for` is a block. The test and the step come after the first statement, and the body is a block after the step. No text has a step that declares something.
    for_loop : {p m n q : Point} {first step body : List Stmt} {test : Option Expr} {f s b : List RStmt} {t : Option UExpr} → BindsStmts functions p first f m
        → BindsOption m.declared test t → BindsStmts functions m step s n → BindsBlock functions n body b q
        → BindsWhat functions p (st.For first test step body) (rt.For f t s b) (point_after_block p q)
    -- a block in braces
    block : {p q : Point} {body : List Stmt} {b : List RStmt} → BindsBlock functions p body b q → BindsWhat functions p (st.Block body) (rt.Block b) q
    -- a call declares nothing
    call : {p : Point} {c : Call} {r : RCall} → BindsCall functions p c r → BindsWhat functions p (st.Call c) (rt.Call r) p
    -- A `try` has the next number, and its exception is in force in its body. The handler is a block after that body, and in it this exception isn't in force. A variable of the handler is declared where the handler's block begins.
    try : {p m q : Point} {x : List ℕ} {y : Option (List ℕ)} {body handler : List Stmt} {b h : List RStmt} → BindsBlock functions (inside_try x p) body b m
        → BindsStmts functions (point_after_variable y (point_after_block p m)) handler h q
        → BindsWhat functions p (st.Try body x y handler) (rt.Try b p.exceptions (slot_of_variable y m) h) (point_after_block p q)
    -- a `throw` has the number of the innermost exception of its name that is in force
    throw : {p : Point} {x : List ℕ} {a : Option Expr} {number : ℕ} {r : Option UExpr} → IsNumberOfInnermost x p.handled number → BindsOption p.declared a r
        → BindsWhat functions p (st.Throw x a) (rt.Throw number r) p
    -- the branches of a fork
    par : {p q : Point} {branches : List Branch} {rs : List RBranch} → BindsBranches functions p branches rs q → BindsWhat functions p (st.Par branches) (rt.Par rs) q

  -- a statement, on its line
  pub data BindsStmt (functions : List Function) : Point → Stmt → RStmt → Point → Type 0 where
    stmt : {p q : Point} {line : ℕ} {what : What} {r : RWhat} → BindsWhat functions p what r q
        → BindsStmt functions p (record { line = line; what = what }) (record { line = line; what = r }) q

  -- statements, one after the other: what one declares is around those that follow
  pub data BindsStmts (functions : List Function) : Point → List Stmt → List RStmt → Point → Type 0 where
    no_stmts : {p : Point} → BindsStmts functions p [] [] p
    stmts : {p m q : Point} {s : Stmt} {body : List Stmt} {r : RStmt} {rs : List RStmt} → BindsStmt functions p s r m → BindsStmts functions m body rs q
        → BindsStmts functions p (s ∷ body) (r ∷ rs) q

  -- the statements of a block: what they declare isn't around what follows the block
  pub data BindsBlock (functions : List Function) : Point → List Stmt → List RStmt → Point → Type 0 where
    in_block : {p q : Point} {body : List Stmt} {rs : List RStmt} → BindsStmts functions p body rs q → BindsBlock functions p body rs (point_after_block p q)

  -- what a branch does: a block, or a call
  pub data BindsBranchWhat (functions : List Function) : Point → BranchWhat → RBranchWhat → Point → Type 0 where
    block_branch : {p q : Point} {body : List Stmt} {b : List RStmt} → BindsBlock functions p body b q → BindsBranchWhat functions p (br.Block body) (rb.Block b) q
    call_branch : {p : Point} {c : Call} {r : RCall} → BindsCall functions p c r → BindsBranchWhat functions p (br.Call c) (rb.Call r) p

  -- a branch, on its line
  pub data BindsBranch (functions : List Function) : Point → Branch → RBranch → Point → Type 0 where
    branch : {p q : Point} {line : ℕ} {what : BranchWhat} {r : RBranchWhat} → BindsBranchWhat functions p what r q
        → BindsBranch functions p (record { line = line; what = what }) (record { line = line; what = r }) q

  -- Branches, one after the other in the text. What one declares is around no other, since each is a block or a call.
  pub data BindsBranches (functions : List Function) : Point → List Branch → List RBranch → Point → Type 0 where
    no_branches : {p : Point} → BindsBranches functions p [] [] p
    branches : {p m q : Point} {b : Branch} {bs : List Branch} {r : RBranch} {rs : List RBranch} → BindsBranch functions p b r m → BindsBranches functions m bs rs q
        → BindsBranches functions p (b ∷ bs) (r ∷ rs) q

-- these parameters as declarations, the first of which has that slot
abbrev pub params_around : ℕ → List Param → List LocalDeclaration
params_around slot [] = []
params_around slot (p ∷ ps) = record { name = p.name; bound = record { slot = slot; sort = p.sort } } ∷ params_around (suc slot) ps

-- these names of a `throws` as exceptions, the first of which has that number
abbrev pub throws_around : ℕ → Texts → List Handled
throws_around n [] = []
throws_around n (x ∷ xs) = record { name = x; number = n } ∷ throws_around (suc n) xs

-- where the body of a function begins: its parameters stand in the block of the body, and its `throws` around it
abbrev pub body_begins : Function → Point
body_begins f = record { declared = params_around 0 f.params; handled = throws_around 0 f.throws; slots = length f.params; exceptions = length f.throws }

-- A function: its body is bound, and it has as many slots and exceptions as its text has declarations and exceptions.
pub record BindsFunction (functions : List Function) (f : Function) (r : RFunction) : Type 0 where
  pub end : Point
  pub body : BindsStmts functions (body_begins f) f.body r.body end
  pub slots : length r.slots ≡ end.slots
  pub exceptions : length r.throws + length r.tries ≡ end.exceptions

-- A program: each of its functions is bound, and the form's `main` is the number of a function named `main`.
pub record BindsProgram (p : Program) (form : Form) : Type 0 where
  pub functions : Pairwise (BindsFunction p.functions) p.functions form.functions
  pub main : Function
  pub begins : slice_get p.functions form.main ≡ Some main
  pub named : main.name ≡ codes "main"
