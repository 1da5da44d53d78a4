-- The rules of lexical scope leave no choice: what they bind a body to follows from the body and the point where it begins.
use Rattle.std.proofs.Common.{ℕ, ◌≡◌, ◌∙◌, List, [], ◌∷◌, Option, Some, None, map, refl, sym, ap}
use Rattle.std.specs.Prelude.{slice_get}
use Rattle.std.specs.Option.{option_map}
use Rattle.shim_base.specs.declared.types.Ty.{Ty}
use Rattle.shim_syntax.specs.declared.tree.Sort.TheVariants.{Value}
use Rattle.shim_syntax.specs.declared.tree.Expr.{Expr}
use Rattle.shim_syntax.specs.declared.tree.Call.{Call}
use Rattle.shim_syntax.specs.declared.tree.Function.{Function}
use Rattle.shim_syntax.specs.declared.tree.Stmt.{Stmt, Stmt-F, fold-Stmt, fold-roll-Stmt}
use Rattle.shim_syntax.specs.declared.tree.What.{What, What-F, fold-What, fold-roll-What, map-What, roll-What}
use Rattle.shim_syntax.specs.declared.tree.What.TheVariants as st
use Rattle.shim_syntax.specs.declared.tree.Branch.{Branch, Branch-F, fold-Branch, fold-roll-Branch}
use Rattle.shim_syntax.specs.declared.tree.BranchWhat.{BranchWhat, BranchWhat-F, fold-BranchWhat, fold-roll-BranchWhat, map-BranchWhat, roll-BranchWhat}
use Rattle.shim_syntax.specs.declared.tree.BranchWhat.TheVariants as br
use Rattle.shim_scopes.specs.declared.scope.LocalDeclaration.{LocalDeclaration}
use Rattle.shim_scopes.specs.declared.scope.Handled.{Handled}
use Rattle.shim_scopes.specs.declared.tree.UExpr.{UExpr}
use Rattle.shim_scopes.specs.declared.tree.UExpr.TheVariants as u
use Rattle.shim_scopes.specs.declared.tree.RCall.{RCall}
use Rattle.shim_scopes.specs.declared.tree.RStmt.{RStmt}
use Rattle.shim_scopes.specs.declared.tree.RWhat.{RWhat}
use Rattle.shim_scopes.specs.declared.tree.RWhat.TheVariants as rt
use Rattle.shim_scopes.specs.declared.tree.RBranch.{RBranch}
use Rattle.shim_scopes.specs.declared.tree.RBranchWhat.{RBranchWhat}
use Rattle.shim_scopes.specs.declared.tree.RBranchWhat.TheVariants as rb
use Rattle.shim_syntax.specs.Names.{Texts}
use Rattle.shim_scopes.specs.Binding.{slot_at, slot_of, placed, placed_all, placed_option, number_or_zero_of, exception_number}
use Rattle.shim_scopes.specs.Calls.{function_number, function_of}
use Rattle.shim_laws_binding.specs.Innermost.{exception_name, local_name, IsNumberOfInnermost, IsSlotOfInnermost}
use Rattle.shim_laws_binding.specs.LexicalScope as is
use Rattle.shim_laws_binding.specs.LexicalScope.{Point, Pairwise, point_after_declaration, inside_try, point_after_block, point_after_variable, slot_of_variable, BindsExpr, BindsOption, BindsCall, BindsWhat, BindsStmt, BindsStmts, BindsBlock, BindsBranchWhat, BindsBranch, BindsBranches}
use Rattle.shim_laws_binding.proofs.InnermostLemmas.{innermost_found}
use Rattle.shim_laws_binding.proofs.NamedExprs.{placed_number, placed_variable, placed_unary, placed_binary}

slot_determined : (x : List ℕ) (around : List LocalDeclaration) (slot : ℕ) → IsSlotOfInnermost x around slot → slot ≡ slot_of around x
slot_determined x around slot i = sym i.2 ∙ sym (ap (λ (o : Option LocalDeclaration). slot_at (option_map (λ (l : LocalDeclaration). l.bound) o)) (innermost_found local_name x around i.0 i.1))

number_determined : (x : List ℕ) (around : List Handled) (number : ℕ) → IsNumberOfInnermost x around number → number ≡ exception_number around x
number_determined x around number i = sym i.2 ∙ sym (ap (λ (o : Option Handled). number_or_zero_of (option_map (λ (h : Handled). h.number) o)) (innermost_found exception_name x around i.0 i.1))

numbers_determined : (around : List Handled) (xs : Texts) (numbers : List ℕ) → Pairwise (λ x number. IsNumberOfInnermost x around number) xs numbers → numbers ≡ map (exception_number around) xs
numbers_determined around [] [] h = refl
numbers_determined around [] (n ∷ ns) h = absurd h
numbers_determined around (x ∷ xs) [] h = absurd h
numbers_determined around (x ∷ xs) (n ∷ ns) h = ap (λ i. i ∷ ns) (number_determined x around n h.0) ∙ ap (λ more. exception_number around x ∷ more) (numbers_determined around xs ns h.1)

expr_determined : {around : List LocalDeclaration} {a : Expr} {r : UExpr} → BindsExpr around a r → r ≡ placed around a
expr_determined {around = around} (is.number {n = n}) = sym (placed_number around n)
expr_determined {around = around} (is.variable {x = x} {slot = slot} i) = ap u.Var (slot_determined x around slot i) ∙ sym (placed_variable around x)
expr_determined {around = around} (is.unary {op = op} {a = a} h) = ap (u.Unary op) (expr_determined h) ∙ sym (placed_unary around op a)
expr_determined {around = around} (is.binary {op = op} {a = a} {b = b} {s = s} h k) =
    ap (λ x. u.Binary op x s) (expr_determined h) ∙ ap (u.Binary op (placed around a)) (expr_determined k) ∙ sym (placed_binary around op a b)

option_determined : {around : List LocalDeclaration} {a : Option Expr} {r : Option UExpr} → BindsOption around a r → r ≡ placed_option around a
option_determined is.missing = refl
option_determined (is.given h) = ap Some (expr_determined h)

exprs_determined : (around : List LocalDeclaration) (es : List Expr) (rs : List UExpr) → Pairwise (BindsExpr around) es rs → rs ≡ placed_all around es
exprs_determined around [] [] h = refl
exprs_determined around [] (r ∷ rs) h = absurd h
exprs_determined around (a ∷ es) [] h = absurd h
exprs_determined around (a ∷ es) (r ∷ rs) h = ap (λ x. x ∷ rs) (expr_determined h.0) ∙ ap (λ xs. placed around a ∷ xs) (exprs_determined around es rs h.1)

-- a tree, and the point behind it
record Resolved (T : Type 0) : Type 0 where
  tree : T
  behind : Point

abbrev Resolver : Type 0 → Type 0
Resolver T = Point → Resolved T

abbrev resolved : {T : Type 0} → T → Point → Resolved T
resolved t p = record { tree = t; behind = p }

abbrev resolve_all : {T : Type 0} → List (Resolver T) → Resolver (List T)
resolve_all [] p = resolved [] p
resolve_all (f ∷ fs) p = resolved ((f p).tree ∷ (resolve_all fs (f p).behind).tree) (resolve_all fs (f p).behind).behind

abbrev resolve_block : Resolver (List RStmt) → Resolver (List RStmt)
resolve_block f p = resolved (f p).tree (point_after_block p (f p).behind)

abbrev throws_of : Option Function → Texts
throws_of None = []
throws_of (Some f) = f.throws

-- a number of a function is that of its name
abbrev pub HaveNumbers : List Function → Type 0
HaveNumbers functions = (x : List ℕ) (number : ℕ) (f : Function) → slice_get functions number ≡ Some f → f.name ≡ x → (function_number functions x ≡ number) × (function_of functions x ≡ Some f)

module _ (functions : List Function) (numbers : HaveNumbers functions) where
  abbrev resolve_call : Point → Call → RCall
  resolve_call p c = record { function = function_number functions c.function; args = placed_all p.declared c.args; throws = map (exception_number p.handled) (throws_of (function_of functions c.function)) }

  call_determined : (p : Point) (c : Call) (r : RCall) → BindsCall functions p c r → r ≡ resolve_call p c
  call_determined p c r h =
      let n = numbers c.function r.function h.callee h.called h.named in
      let throws : r.throws ≡ map (exception_number p.handled) (throws_of (function_of functions c.function)) =
      numbers_determined p.handled h.callee.throws r.throws h.exceptions ∙ ap (λ o. map (exception_number p.handled) (throws_of o)) (sym n.1) in
      ap (λ (i : ℕ). let x : RCall = record { function = i; args = r.args; throws = r.throws } in x) (sym n.0)
      ∙ ap (λ (es : List UExpr). let x : RCall = record { function = function_number functions c.function; args = es; throws = r.throws } in x) (exprs_determined p.declared c.args r.args h.arguments)
      ∙ ap (λ (ns : List ℕ). let x : RCall = record { function = function_number functions c.function; args = placed_all p.declared c.args; throws = ns } in x) throws

  abbrev branch_what_step : BranchWhat-F (Resolver RBranchWhat) (Resolver RWhat) (Resolver RBranch) (Resolver RStmt) → Resolver RBranchWhat
  branch_what_step (BranchWhat-F.BranchWhat::Block body) p = let b = resolve_block (resolve_all body) p in resolved (rb.Block b.tree) b.behind
  branch_what_step (BranchWhat-F.BranchWhat::Call c) p = resolved (rb.Call (resolve_call p c)) p

  abbrev resolve_if : UExpr → Resolver (List RStmt) → Resolver (List RStmt) → Resolver RWhat
  resolve_if t f g p = resolved (rt.If t (f p).tree (g (f p).behind).tree) (g (f p).behind).behind

  abbrev resolve_for : Option Expr → Resolver (List RStmt) → Resolver (List RStmt) → Resolver (List RStmt) → Resolver RWhat
  resolve_for test f g h p = resolved (rt.For (f p).tree (placed_option (f p).behind.declared test) (g (f p).behind).tree (h (g (f p).behind).behind).tree) (point_after_block p (h (g (f p).behind).behind).behind)

  abbrev resolve_handler : Option (List ℕ) → Point → Resolved (List RStmt) → Resolver (List RStmt) → Resolved RWhat
  resolve_handler y p body g =
      let h = g (point_after_variable y (point_after_block p body.behind)) in
      resolved (rt.Try body.tree p.exceptions (slot_of_variable y body.behind) h.tree) (point_after_block p h.behind)

  abbrev resolve_try : List ℕ → Option (List ℕ) → Resolver (List RStmt) → Resolver (List RStmt) → Resolver RWhat
  resolve_try x y f g p = resolve_handler y p (f (inside_try x p)) g

  abbrev what_step : What-F (Resolver RBranchWhat) (Resolver RWhat) (Resolver RBranch) (Resolver RStmt) → Resolver RWhat
  what_step (What-F.Declare ty x a) p = resolved (rt.Declare ty p.slots (placed_option p.declared a)) (point_after_declaration x (Value ty) p)
  what_step (What-F.Assign x a) p = resolved (rt.Assign (slot_of p.declared x) (placed p.declared a)) p
  what_step (What-F.Next x) p = resolved (rt.Next (slot_of p.declared x)) p
  what_step (What-F.NextAssign x a) p = resolved (rt.NextAssign (slot_of p.declared x) (placed p.declared a)) p
  what_step (What-F.AssignNext x y) p = resolved (rt.AssignNext (slot_of p.declared x) (slot_of p.declared y)) p
  what_step (What-F.Get x y) p = resolved (rt.Get (slot_of p.declared x) (slot_of p.declared y)) p
  what_step (What-F.Put x a) p = resolved (rt.Put (slot_of p.declared x) (placed p.declared a)) p
  what_step (What-F.If a first other) p = resolve_if (placed p.declared a) (resolve_block (resolve_all first)) (resolve_block (resolve_all other)) p
  what_step (What-F.While a body) p = let b = resolve_block (resolve_all body) p in resolved (rt.While (placed p.declared a) b.tree) b.behind
  what_step (What-F.For first test step body) p = resolve_for test (resolve_all first) (resolve_all step) (resolve_block (resolve_all body)) p
  what_step (What-F.What::Block body) p = let b = resolve_block (resolve_all body) p in resolved (rt.Block b.tree) b.behind
  what_step (What-F.What::Call c) p = resolved (rt.Call (resolve_call p c)) p
  what_step (What-F.Try body x y handler) p = resolve_try x y (resolve_block (resolve_all body)) (resolve_all handler) p
  what_step (What-F.Throw x a) p = resolved (rt.Throw (exception_number p.handled x) (placed_option p.declared a)) p
  what_step (What-F.Par branches) p = let b = resolve_all branches p in resolved (rt.Par b.tree) b.behind

  abbrev branch_step : Branch-F (Resolver RBranchWhat) (Resolver RWhat) (Resolver RBranch) (Resolver RStmt) → Resolver RBranch
  branch_step b p = resolved (record { line = b.line; what = (b.what p).tree }) (b.what p).behind

  abbrev stmt_step : Stmt-F (Resolver RBranchWhat) (Resolver RWhat) (Resolver RBranch) (Resolver RStmt) → Resolver RStmt
  stmt_step s p = resolved (record { line = s.line; what = (s.what p).tree }) (s.what p).behind

  abbrev resolve_branch_what : BranchWhat → Resolver RBranchWhat
  resolve_branch_what = fold-BranchWhat (Resolver RBranchWhat) (Resolver RWhat) (Resolver RBranch) (Resolver RStmt) branch_what_step what_step branch_step stmt_step

  abbrev resolve_what : What → Resolver RWhat
  resolve_what = fold-What (Resolver RBranchWhat) (Resolver RWhat) (Resolver RBranch) (Resolver RStmt) branch_what_step what_step branch_step stmt_step

  abbrev resolve_branch : Branch → Resolver RBranch
  resolve_branch = fold-Branch (Resolver RBranchWhat) (Resolver RWhat) (Resolver RBranch) (Resolver RStmt) branch_what_step what_step branch_step stmt_step

  abbrev resolve_stmt : Stmt → Resolver RStmt
  resolve_stmt = fold-Stmt (Resolver RBranchWhat) (Resolver RWhat) (Resolver RBranch) (Resolver RStmt) branch_what_step what_step branch_step stmt_step

  abbrev resolve_stmts : List Stmt → Resolver (List RStmt)
  resolve_stmts body = resolve_all (map resolve_stmt body)

  abbrev resolve_branches : List Branch → Resolver (List RBranch)
  resolve_branches bs = resolve_all (map resolve_branch bs)

  at_stmt : (line : ℕ) (x : What) (p : Point) → resolve_stmt (record { line = line; what = x }) p ≡ resolved (record { line = line; what = (resolve_what x p).tree }) (resolve_what x p).behind
  at_stmt line x p = ap (λ (f : Resolver RStmt). f p) (fold-roll-Stmt (Resolver RBranchWhat) (Resolver RWhat) (Resolver RBranch) (Resolver RStmt) branch_what_step what_step branch_step stmt_step (record { line = line; what = x }))

  at_branch : (line : ℕ) (x : BranchWhat) (p : Point) → resolve_branch (record { line = line; what = x }) p ≡ resolved (record { line = line; what = (resolve_branch_what x p).tree }) (resolve_branch_what x p).behind
  at_branch line x p = ap (λ (f : Resolver RBranch). f p) (fold-roll-Branch (Resolver RBranchWhat) (Resolver RWhat) (Resolver RBranch) (Resolver RStmt) branch_what_step what_step branch_step stmt_step (record { line = line; what = x }))

  abbrev mapped : What-F BranchWhat What Branch Stmt → Resolver RWhat
  mapped y = what_step (map-What BranchWhat What Branch Stmt (Resolver RBranchWhat) (Resolver RWhat) (Resolver RBranch) (Resolver RStmt) resolve_branch_what resolve_what resolve_branch resolve_stmt y)

  at_what : (y : What-F BranchWhat What Branch Stmt) (p : Point) → resolve_what (roll-What y) p ≡ mapped y p
  at_what y p = ap (λ (f : Resolver RWhat). f p) (fold-roll-What (Resolver RBranchWhat) (Resolver RWhat) (Resolver RBranch) (Resolver RStmt) branch_what_step what_step branch_step stmt_step y)

  abbrev mapped_branch : BranchWhat-F BranchWhat What Branch Stmt → Resolver RBranchWhat
  mapped_branch y = branch_what_step (map-BranchWhat BranchWhat What Branch Stmt (Resolver RBranchWhat) (Resolver RWhat) (Resolver RBranch) (Resolver RStmt) resolve_branch_what resolve_what resolve_branch resolve_stmt y)

  at_branch_what : (y : BranchWhat-F BranchWhat What Branch Stmt) (p : Point) → resolve_branch_what (roll-BranchWhat y) p ≡ mapped_branch y p
  at_branch_what y p = ap (λ (f : Resolver RBranchWhat). f p) (fold-roll-BranchWhat (Resolver RBranchWhat) (Resolver RWhat) (Resolver RBranch) (Resolver RStmt) branch_what_step what_step branch_step stmt_step y)

  -- one behind the other
  all_is : {T : Type 0} (f : Resolver T) (fs : List (Resolver T)) (p m q : Point) (t : T) (ts : List T) → f p ≡ resolved t m → resolve_all fs m ≡ resolved ts q → resolve_all (f ∷ fs) p ≡ resolved (t ∷ ts) q
  all_is f fs p m q t ts d h = ap (λ x. resolved (x.tree ∷ (resolve_all fs x.behind).tree) (resolve_all fs x.behind).behind) d ∙ ap (λ x. resolved (t ∷ x.tree) x.behind) h

  block_is : (f : Resolver (List RStmt)) (p q : Point) (ts : List RStmt) → f p ≡ resolved ts q → resolve_block f p ≡ resolved ts (point_after_block p q)
  block_is f p q ts d = ap (λ x. resolved x.tree (point_after_block p x.behind)) d

  declare_is : (ty : Ty) (x : List ℕ) (a : Option Expr) (p : Point) (t : Option UExpr) → t ≡ placed_option p.declared a
      → resolve_what (st.Declare ty x a) p ≡ resolved (rt.Declare ty p.slots t) (point_after_declaration x (Value ty) p)
  unfolding roll-What denote.Hole.Carrier.roll
  declare_is ty x a p t h = at_what (What-F.Declare ty x a) p ∙ ap (λ r. resolved (rt.Declare ty p.slots r) (point_after_declaration x (Value ty) p)) (sym h)

  assign_is : (x : List ℕ) (a : Expr) (p : Point) (slot : ℕ) (t : UExpr) → slot ≡ slot_of p.declared x → t ≡ placed p.declared a → resolve_what (st.Assign x a) p ≡ resolved (rt.Assign slot t) p
  unfolding roll-What denote.Hole.Carrier.roll
  assign_is x a p slot t i h = at_what (What-F.Assign x a) p ∙ ap (λ n. resolved (rt.Assign n (placed p.declared a)) p) (sym i) ∙ ap (λ r. resolved (rt.Assign slot r) p) (sym h)

  next_is : (x : List ℕ) (p : Point) (slot : ℕ) → slot ≡ slot_of p.declared x → resolve_what (st.Next x) p ≡ resolved (rt.Next slot) p
  unfolding roll-What denote.Hole.Carrier.roll
  next_is x p slot i = at_what (What-F.Next x) p ∙ ap (λ n. resolved (rt.Next n) p) (sym i)

  next_assign_is : (x : List ℕ) (a : Expr) (p : Point) (slot : ℕ) (t : UExpr) → slot ≡ slot_of p.declared x → t ≡ placed p.declared a → resolve_what (st.NextAssign x a) p ≡ resolved (rt.NextAssign slot t) p
  unfolding roll-What denote.Hole.Carrier.roll
  next_assign_is x a p slot t i h = at_what (What-F.NextAssign x a) p ∙ ap (λ n. resolved (rt.NextAssign n (placed p.declared a)) p) (sym i) ∙ ap (λ r. resolved (rt.NextAssign slot r) p) (sym h)

  assign_next_is : (x y : List ℕ) (p : Point) (slot other : ℕ) → slot ≡ slot_of p.declared x → other ≡ slot_of p.declared y → resolve_what (st.AssignNext x y) p ≡ resolved (rt.AssignNext slot other) p
  unfolding roll-What denote.Hole.Carrier.roll
  assign_next_is x y p slot other i h = at_what (What-F.AssignNext x y) p ∙ ap (λ n. resolved (rt.AssignNext n (slot_of p.declared y)) p) (sym i) ∙ ap (λ n. resolved (rt.AssignNext slot n) p) (sym h)

  get_is : (x y : List ℕ) (p : Point) (slot stream : ℕ) → slot ≡ slot_of p.declared x → stream ≡ slot_of p.declared y → resolve_what (st.Get x y) p ≡ resolved (rt.Get slot stream) p
  unfolding roll-What denote.Hole.Carrier.roll
  get_is x y p slot stream i h = at_what (What-F.Get x y) p ∙ ap (λ n. resolved (rt.Get n (slot_of p.declared y)) p) (sym i) ∙ ap (λ n. resolved (rt.Get slot n) p) (sym h)

  put_is : (x : List ℕ) (a : Expr) (p : Point) (slot : ℕ) (t : UExpr) → slot ≡ slot_of p.declared x → t ≡ placed p.declared a → resolve_what (st.Put x a) p ≡ resolved (rt.Put slot t) p
  unfolding roll-What denote.Hole.Carrier.roll
  put_is x a p slot t i h = at_what (What-F.Put x a) p ∙ ap (λ n. resolved (rt.Put n (placed p.declared a)) p) (sym i) ∙ ap (λ r. resolved (rt.Put slot r) p) (sym h)

  if_is : (a : Expr) (first other : List Stmt) (p m q : Point) (t : UExpr) (f o : List RStmt) → t ≡ placed p.declared a → resolve_block (resolve_stmts first) p ≡ resolved f m → resolve_block (resolve_stmts other) m ≡ resolved o q
      → resolve_what (st.If a first other) p ≡ resolved (rt.If t f o) q
  unfolding roll-What denote.Hole.Carrier.roll
  if_is a first other p m q t f o h d k =
      let g : Resolver (List RStmt) = resolve_block (resolve_stmts other) in
      at_what (What-F.If a first other) p ∙ ap (λ r. resolve_if r (resolve_block (resolve_stmts first)) g p) (sym h)
      ∙ ap (λ x. resolved (rt.If t x.tree (g x.behind).tree) (g x.behind).behind) d ∙ ap (λ x. resolved (rt.If t f x.tree) x.behind) k

  while_is : (a : Expr) (body : List Stmt) (p q : Point) (t : UExpr) (b : List RStmt) → t ≡ placed p.declared a → resolve_block (resolve_stmts body) p ≡ resolved b q → resolve_what (st.While a body) p ≡ resolved (rt.While t b) q
  unfolding roll-What denote.Hole.Carrier.roll
  while_is a body p q t b h d =
      at_what (What-F.While a body) p ∙ ap (λ r. resolved (rt.While r (resolve_block (resolve_stmts body) p).tree) (resolve_block (resolve_stmts body) p).behind) (sym h) ∙ ap (λ x. resolved (rt.While t x.tree) x.behind) d

  for_is : (first : List Stmt) (test : Option Expr) (step body : List Stmt) (p m n q : Point) (f : List RStmt) (t : Option UExpr) (s b : List RStmt)
      → resolve_stmts first p ≡ resolved f m → t ≡ placed_option m.declared test → resolve_stmts step m ≡ resolved s n → resolve_block (resolve_stmts body) n ≡ resolved b q
      → resolve_what (st.For first test step body) p ≡ resolved (rt.For f t s b) (point_after_block p q)
  unfolding roll-What denote.Hole.Carrier.roll
  for_is first test step body p m n q f t s b d h k l =
      let g : Resolver (List RStmt) = resolve_stmts step in
      let i : Resolver (List RStmt) = resolve_block (resolve_stmts body) in
      at_what (What-F.For first test step body) p
      ∙ ap (λ x. resolved (rt.For x.tree (placed_option x.behind.declared test) (g x.behind).tree (i (g x.behind).behind).tree) (point_after_block p (i (g x.behind).behind).behind)) d
      ∙ ap (λ r. resolved (rt.For f r (g m).tree (i (g m).behind).tree) (point_after_block p (i (g m).behind).behind)) (sym h)
      ∙ ap (λ x. resolved (rt.For f t x.tree (i x.behind).tree) (point_after_block p (i x.behind).behind)) k ∙ ap (λ x. resolved (rt.For f t s x.tree) (point_after_block p x.behind)) l

  in_block_is : (body : List Stmt) (p q : Point) (b : List RStmt) → resolve_block (resolve_stmts body) p ≡ resolved b q → resolve_what (st.Block body) p ≡ resolved (rt.Block b) q
  unfolding roll-What denote.Hole.Carrier.roll
  in_block_is body p q b d = at_what (What-F.What::Block body) p ∙ ap (λ x. resolved (rt.Block x.tree) x.behind) d

  call_is : (c : Call) (p : Point) (r : RCall) → r ≡ resolve_call p c → resolve_what (st.Call c) p ≡ resolved (rt.Call r) p
  unfolding roll-What denote.Hole.Carrier.roll
  call_is c p r h = at_what (What-F.What::Call c) p ∙ ap (λ x. resolved (rt.Call x) p) (sym h)

  try_is : (body : List Stmt) (x : List ℕ) (y : Option (List ℕ)) (handler : List Stmt) (p m q : Point) (b h : List RStmt) → resolve_block (resolve_stmts body) (inside_try x p) ≡ resolved b m
      → resolve_stmts handler (point_after_variable y (point_after_block p m)) ≡ resolved h q → resolve_what (st.Try body x y handler) p ≡ resolved (rt.Try b p.exceptions (slot_of_variable y m) h) (point_after_block p q)
  unfolding roll-What denote.Hole.Carrier.roll
  try_is body x y handler p m q b h d k =
      at_what (What-F.Try body x y handler) p ∙ ap (λ z. resolve_handler y p z (resolve_stmts handler)) d
      ∙ ap (λ z. resolved (rt.Try b p.exceptions (slot_of_variable y m) z.tree) (point_after_block p z.behind)) k

  throw_is : (x : List ℕ) (a : Option Expr) (p : Point) (number : ℕ) (r : Option UExpr) → number ≡ exception_number p.handled x → r ≡ placed_option p.declared a
      → resolve_what (st.Throw x a) p ≡ resolved (rt.Throw number r) p
  unfolding roll-What denote.Hole.Carrier.roll
  throw_is x a p number r i h = at_what (What-F.Throw x a) p ∙ ap (λ n. resolved (rt.Throw n (placed_option p.declared a)) p) (sym i) ∙ ap (λ v. resolved (rt.Throw number v) p) (sym h)

  par_is : (bs : List Branch) (p q : Point) (rs : List RBranch) → resolve_branches bs p ≡ resolved rs q → resolve_what (st.Par bs) p ≡ resolved (rt.Par rs) q
  unfolding roll-What denote.Hole.Carrier.roll
  par_is bs p q rs d = at_what (What-F.Par bs) p ∙ ap (λ x. resolved (rt.Par x.tree) x.behind) d

  stmt_is : (line : ℕ) (x : What) (p q : Point) (r : RWhat) → resolve_what x p ≡ resolved r q → resolve_stmt (record { line = line; what = x }) p ≡ resolved (record { line = line; what = r }) q
  stmt_is line x p q r d = at_stmt line x p ∙ ap (λ (y : Resolved RWhat). let s : RStmt = record { line = line; what = y.tree } in resolved s y.behind) d

  block_branch_is : (body : List Stmt) (p q : Point) (b : List RStmt) → resolve_block (resolve_stmts body) p ≡ resolved b q → resolve_branch_what (br.Block body) p ≡ resolved (rb.Block b) q
  unfolding roll-BranchWhat denote.Hole.Carrier.roll
  block_branch_is body p q b d = at_branch_what (BranchWhat-F.BranchWhat::Block body) p ∙ ap (λ x. resolved (rb.Block x.tree) x.behind) d

  call_branch_is : (c : Call) (p : Point) (r : RCall) → r ≡ resolve_call p c → resolve_branch_what (br.Call c) p ≡ resolved (rb.Call r) p
  unfolding roll-BranchWhat denote.Hole.Carrier.roll
  call_branch_is c p r h = at_branch_what (BranchWhat-F.BranchWhat::Call c) p ∙ ap (λ x. resolved (rb.Call x) p) (sym h)

  branch_is : (line : ℕ) (x : BranchWhat) (p q : Point) (r : RBranchWhat) → resolve_branch_what x p ≡ resolved r q → resolve_branch (record { line = line; what = x }) p ≡ resolved (record { line = line; what = r }) q
  branch_is line x p q r d = at_branch line x p ∙ ap (λ (y : Resolved RBranchWhat). let s : RBranch = record { line = line; what = y.tree } in resolved s y.behind) d

  mutual
    what_determined : {p q : Point} {x : What} {r : RWhat} → BindsWhat functions p x r q → resolve_what x p ≡ resolved r q
    what_determined (is.declare {p = p} {ty = ty} {x = x} {a = a} {r = r} h) = declare_is ty x a p r (option_determined h)
    what_determined (is.assign {p = p} {x = x} {a = a} {slot = slot} {r = r} i h) = assign_is x a p slot r (slot_determined x p.declared slot i) (expr_determined h)
    what_determined (is.next {p = p} {x = x} {slot = slot} i) = next_is x p slot (slot_determined x p.declared slot i)
    what_determined (is.next_assign {p = p} {x = x} {a = a} {slot = slot} {r = r} i h) = next_assign_is x a p slot r (slot_determined x p.declared slot i) (expr_determined h)
    what_determined (is.assign_next {p = p} {x = x} {y = y} {slot = slot} {other = other} i h) = assign_next_is x y p slot other (slot_determined x p.declared slot i) (slot_determined y p.declared other h)
    what_determined (is.get {p = p} {x = x} {y = y} {slot = slot} {stream = stream} i h) = get_is x y p slot stream (slot_determined x p.declared slot i) (slot_determined y p.declared stream h)
    what_determined (is.put {p = p} {x = x} {a = a} {stream = stream} {r = r} i h) = put_is x a p stream r (slot_determined x p.declared stream i) (expr_determined h)
    what_determined (is.if_else {p = p} {m = m} {q = q} {test = a} {first = first} {other = other} {t = t} {f = f} {o = o} h d k) = if_is a first other p m q t f o (expr_determined h) (block_determined d) (block_determined k)
    what_determined (is.while {p = p} {q = q} {test = a} {body = body} {t = t} {b = b} h d) = while_is a body p q t b (expr_determined h) (block_determined d)
    what_determined (is.for_loop {p = p} {m = m} {n = n} {q = q} {first = first} {step = step} {body = body} {test = test} {f = f} {s = s} {b = b} {t = t} d h k l) =
        for_is first test step body p m n q f t s b (stmts_determined d) (option_determined h) (stmts_determined k) (block_determined l)
    what_determined (is.block {p = p} {q = q} {body = body} {b = b} d) = in_block_is body p q b (block_determined d)
    what_determined (is.call {p = p} {c = c} {r = r} h) = call_is c p r (call_determined p c r h)
    what_determined (is.try {p = p} {m = m} {q = q} {x = x} {y = y} {body = body} {handler = handler} {b = b} {h = h} d k) = try_is body x y handler p m q b h (block_determined d) (stmts_determined k)
    what_determined (is.throw {p = p} {x = x} {a = a} {number = number} {r = r} i h) = throw_is x a p number r (number_determined x p.handled number i) (option_determined h)
    what_determined (is.par {p = p} {q = q} {branches = bs} {rs = rs} d) = par_is bs p q rs (branches_determined d)

    stmt_determined : {p q : Point} {s : Stmt} {r : RStmt} → BindsStmt functions p s r q → resolve_stmt s p ≡ resolved r q
    stmt_determined (is.stmt {p = p} {q = q} {line = line} {what = x} {r = r} d) = stmt_is line x p q r (what_determined d)

    stmts_determined : {p q : Point} {body : List Stmt} {rs : List RStmt} → BindsStmts functions p body rs q → resolve_stmts body p ≡ resolved rs q
    stmts_determined is.no_stmts = refl
    stmts_determined (is.stmts {p = p} {m = m} {q = q} {s = s} {body = body} {r = r} {rs = rs} d k) = all_is (resolve_stmt s) (map resolve_stmt body) p m q r rs (stmt_determined d) (stmts_determined k)

    block_determined : {p q : Point} {body : List Stmt} {rs : List RStmt} → BindsBlock functions p body rs q → resolve_block (resolve_stmts body) p ≡ resolved rs q
    block_determined (is.in_block {p = p} {q = q} {body = body} {rs = rs} d) = block_is (resolve_stmts body) p q rs (stmts_determined d)

    branch_what_determined : {p q : Point} {x : BranchWhat} {r : RBranchWhat} → BindsBranchWhat functions p x r q → resolve_branch_what x p ≡ resolved r q
    branch_what_determined (is.block_branch {p = p} {q = q} {body = body} {b = b} d) = block_branch_is body p q b (block_determined d)
    branch_what_determined (is.call_branch {p = p} {c = c} {r = r} h) = call_branch_is c p r (call_determined p c r h)

    branch_determined : {p q : Point} {s : Branch} {r : RBranch} → BindsBranch functions p s r q → resolve_branch s p ≡ resolved r q
    branch_determined (is.branch {p = p} {q = q} {line = line} {what = x} {r = r} d) = branch_is line x p q r (branch_what_determined d)

    branches_determined : {p q : Point} {bs : List Branch} {rs : List RBranch} → BindsBranches functions p bs rs q → resolve_branches bs p ≡ resolved rs q
    branches_determined is.no_branches = refl
    branches_determined (is.branches {p = p} {m = m} {q = q} {b = b} {bs = bs} {r = r} {rs = rs} d k) = all_is (resolve_branch b) (map resolve_branch bs) p m q r rs (branch_determined d) (branches_determined k)

  -- two bodies that the rules allow are one
  pub one_body : {p q m : Point} {body : List Stmt} {rs ss : List RStmt} → BindsStmts functions p body rs q → BindsStmts functions p body ss m → rs ≡ ss
  one_body d h = ap (λ (x : Resolved (List RStmt)). x.tree) (sym (stmts_determined d) ∙ stmts_determined h)
