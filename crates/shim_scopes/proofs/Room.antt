-- The numbers of a function's slots and exceptions fit, with those that what is still to be read may add.
use Rattle.std.proofs.Common.{ℕ, zero, suc, ◌+◌, ◌≡◌, ◌≤◌, ◌<◌, List, [], ◌∷◌, ◌++◌, Option, Ok, length, drop, get_or, ap, arith}
use Rattle.std.proofs.lemmas.List.{length-append}
use Rattle.shim_base.specs.declared.types.Ty.{Ty}
use Rattle.shim_syntax.specs.declared.tree.Expr.{Expr}
use Rattle.shim_syntax.specs.declared.tree.Stmt.{Stmt}
use Rattle.shim_syntax.specs.declared.tree.Branch.{Branch}
use Rattle.shim_syntax.specs.declared.tree.BranchWhat.TheVariants as br
use Rattle.shim_syntax.specs.declared.tree.What.{What}
use Rattle.shim_syntax.specs.declared.tree.What.TheVariants as st
use Rattle.shim_syntax.specs.declared.tree.Param.{Param}
use Rattle.shim_syntax.specs.declared.tree.Function.{Function}
use Rattle.shim_scopes.specs.declared.scope.Handled.{Handled}
use Rattle.shim_scopes.specs.declared.scope.Scope.{Scope}
use Rattle.shim_scopes.specs.declared.tree.RStmt.{RStmt}
use Rattle.shim_scopes.specs.declared.tree.RBranch.{RBranch}
use Rattle.shim_syntax.specs.Names.{Texts, name_index}
use Rattle.shim_syntax.specs.Sizes.{what_size, stmt_size, stmts_size, branch_size, branches_size, variable_size, function_size, functions_size}
use Rattle.shim_scopes.specs.Statements.{Whole, Before, bind_block}
use Rattle.shim_scopes.specs.Bodies.{bind_stmt, bind_stmts, bind_branch}
use Rattle.shim_scopes.specs.Functions.{params_from, with_param, function_begin}
use Rattle.shim_scopes.specs.State.{HasRoom, IsBegun, IsNumber, IsOpened, IsTried, Kept, around_of, before_of}
use Rattle.shim_scopes.proofs.BindSizes.{given, variable_added, block_adds, stmt_adds, branch_adds, body_adds}
use Rattle.shim_syntax.proofs.SizeSteps.{of_stmt, declare_size, if_size, while_size, for_size, block_size, try_size, par_size, block_branch_size}

-- room for so many is room for fewer
room_for_fewer : (m n : ℕ) (s : Scope) → m ≤ n → HasRoom n s → HasRoom m s
unfolding HasRoom
room_for_fewer m n s h r = omega (arith, h, r)

pub room_for_first : (m n : ℕ) (s : Scope) → HasRoom (m + n) s → HasRoom m s
room_for_first m n s r = room_for_fewer m (m + n) s (omega arith) r

-- what was read takes no more than its own room
room_behind : (m n start : ℕ) (s t : Scope) → given (before_of start t) ≤ given (before_of start s) + m → t.throws ≡ s.throws → HasRoom (m + n) s → HasRoom n t
unfolding HasRoom
room_behind m n start s t g e r = omega (arith, g, e, r)

pub behind_block : (w : Whole) (start n : ℕ) (s t : Scope) (body : List Stmt) (made : List RStmt)
    → bind_block (bind_stmts w body) (around_of start s) (before_of start s) ≡ Ok (record { tree = made; before = before_of start t }) → Kept start s t
    → HasRoom (stmts_size body + n) s → HasRoom n t
behind_block w start n s t body made e k r =
    room_behind (stmts_size body) n start s t (block_adds (bind_stmts w body) (stmts_size body) (body_adds w body) (around_of start s) (before_of start s) _ e) k.throws r

pub behind_body : (w : Whole) (start n : ℕ) (s t : Scope) (body : List Stmt) (made : List RStmt)
    → bind_stmts w body (around_of start s) (before_of start s) ≡ Ok (record { tree = made; before = before_of start t }) → Kept start s t
    → HasRoom (stmts_size body + n) s → HasRoom n t
behind_body w start n s t body made e k r = room_behind (stmts_size body) n start s t (body_adds w body (around_of start s) (before_of start s) _ e) k.throws r

-- after one statement of a list, and one branch of a fork

pub behind_stmt : (w : Whole) (start i : ℕ) (s t : Scope) (body : List Stmt) (stmt : Stmt) (made : RStmt) → drop i body ≡ stmt ∷ drop (i + 1) body
    → bind_stmt w stmt (around_of start s) (before_of start s) ≡ Ok (record { tree = made; before = before_of start t }) → Kept start s t
    → HasRoom (stmts_size (drop i body)) s → HasRoom (stmts_size (drop (i + 1) body)) t
behind_stmt w start i s t body stmt made d e k r =
    let all : HasRoom (stmt_size stmt + stmts_size (drop (i + 1) body)) s = room_for_fewer _ _ s (omega (arith, ap (λ (xs : List Stmt). stmts_size xs) d)) r in
    room_behind (stmt_size stmt) (stmts_size (drop (i + 1) body)) start s t (stmt_adds w stmt (around_of start s) (before_of start s) _ e) k.throws all

pub room_for_stmt : (i : ℕ) (s : Scope) (body : List Stmt) (stmt : Stmt) → drop i body ≡ stmt ∷ drop (i + 1) body → HasRoom (stmts_size (drop i body)) s → HasRoom (stmt_size stmt) s
room_for_stmt i s body stmt d r = room_for_fewer _ _ s (omega (arith, ap (λ (xs : List Stmt). stmts_size xs) d)) r

pub behind_branch : (w : Whole) (start i : ℕ) (s t : Scope) (bs : List Branch) (b : Branch) (made : RBranch) → drop i bs ≡ b ∷ drop (i + 1) bs
    → bind_branch w b (around_of start s) (before_of start s) ≡ Ok (record { tree = made; before = before_of start t }) → Kept start s t
    → HasRoom (branches_size (drop i bs)) s → HasRoom (branches_size (drop (i + 1) bs)) t
behind_branch w start i s t bs b made d e k r =
    let all : HasRoom (branch_size b + branches_size (drop (i + 1) bs)) s = room_for_fewer _ _ s (omega (arith, ap (λ (xs : List Branch). branches_size xs) d)) r in
    room_behind (branch_size b) (branches_size (drop (i + 1) bs)) start s t (branch_adds w b (around_of start s) (before_of start s) _ e) k.throws all

pub room_for_branch : (i : ℕ) (s : Scope) (bs : List Branch) (b : Branch) → drop i bs ≡ b ∷ drop (i + 1) bs → HasRoom (branches_size (drop i bs)) s → HasRoom (branch_size b) s
room_for_branch i s bs b d r = room_for_fewer _ _ s (omega (arith, ap (λ (xs : List Branch). branches_size xs) d)) r

-- what a statement has room for, its parts have

room_in : (m : ℕ) (stmt : Stmt) (what : What) (s : Scope) → stmt.what ≡ what → m ≤ what_size what → HasRoom (stmt_size stmt) s → HasRoom m s
room_in m stmt what s is h r = room_for_fewer m (stmt_size stmt) s (omega (arith, of_stmt stmt, ap (λ (v : What). what_size v) is, h)) r

pub room_in_declare : (stmt : Stmt) (s : Scope) (ty : Ty) (x : List ℕ) (value : Option Expr) → stmt.what ≡ st.Declare ty x value → HasRoom (stmt_size stmt) s → HasRoom 1 s
room_in_declare stmt s ty x value is r = room_in 1 stmt _ s is (omega (arith, declare_size ty x value)) r

pub room_in_if : (stmt : Stmt) (s : Scope) (e : Expr) (first other : List Stmt) → stmt.what ≡ st.If e first other → HasRoom (stmt_size stmt) s
    → HasRoom (stmts_size first + stmts_size other) s
room_in_if stmt s e first other is r = room_in _ stmt _ s is (omega (arith, if_size e first other)) r

pub room_in_while : (stmt : Stmt) (s : Scope) (e : Expr) (body : List Stmt) → stmt.what ≡ st.While e body → HasRoom (stmt_size stmt) s → HasRoom (stmts_size body) s
room_in_while stmt s e body is r = room_in _ stmt _ s is (omega (arith, while_size e body)) r

pub room_in_for : (stmt : Stmt) (s : Scope) (first : List Stmt) (test : Option Expr) (step body : List Stmt) → stmt.what ≡ st.For first test step body → HasRoom (stmt_size stmt) s
    → HasRoom (stmts_size first + (stmts_size step + stmts_size body)) s
room_in_for stmt s first test step body is r = room_in _ stmt _ s is (omega (arith, for_size first test step body)) r

-- what the first statement declares stands for the test, too
pub room_for_test : (stmt : Stmt) (s : Scope) (first : List Stmt) (test : Option Expr) (step body : List Stmt) → stmt.what ≡ st.For first test step body → HasRoom (stmt_size stmt) s
    → HasRoom 1 s
room_for_test stmt s first test step body is r = room_in 1 stmt _ s is (omega (arith, for_size first test step body)) r

pub room_in_block : (stmt : Stmt) (s : Scope) (body : List Stmt) → stmt.what ≡ st.Block body → HasRoom (stmt_size stmt) s → HasRoom (stmts_size body) s
room_in_block stmt s body is r = room_in _ stmt _ s is (omega (arith, block_size body)) r

pub room_in_try : (stmt : Stmt) (s : Scope) (body : List Stmt) (x : List ℕ) (y : Option (List ℕ)) (handler : List Stmt) → stmt.what ≡ st.Try body x y handler → HasRoom (stmt_size stmt) s
    → HasRoom (1 + (stmts_size body + (variable_size y + stmts_size handler))) s
room_in_try stmt s body x y handler is r = room_in _ stmt _ s is (omega (arith, try_size body x y handler)) r

pub room_in_par : (stmt : Stmt) (s : Scope) (bs : List Branch) → stmt.what ≡ st.Par bs → HasRoom (stmt_size stmt) s → HasRoom (branches_size bs) s
room_in_par stmt s bs is r = room_in _ stmt _ s is (omega (arith, par_size bs)) r

pub room_in_branch : (b : Branch) (s : Scope) (body : List Stmt) → b.what ≡ br.Block body → HasRoom (branch_size b) s → HasRoom (stmts_size body) s
room_in_branch b s body is r =
    room_for_fewer _ _ s (omega (arith, block_branch_size b.line body, ap (λ (v : _). branch_size (record { line = b.line; what = v })) is)) r

-- a `try` takes one exception
pub behind_try : (names : Texts) (x : List ℕ) (s t : Scope) (made n : ℕ) → IsTried names x s made t → HasRoom (1 + n) s → HasRoom n t
unfolding HasRoom
behind_try names x s t made n tried r =
    let throws : t.throws ≡ s.throws = ap (λ (v : Scope). v.throws) tried.after in
    let slots : length t.slots ≡ length s.slots = ap (λ (v : Scope). length v.slots) tried.after in
    let tries : length t.tries ≡ length (s.tries ++ name_index names x ∷ []) = ap (λ (v : Scope). length v.tries) tried.after in
    omega (arith, throws, slots, tries, length-append s.tries (name_index names x ∷ []), r)

-- and its handler's variable one slot
pub after_variable : (names : Texts) (y : Option (List ℕ)) (start : ℕ) (s t : Scope) (made : Option ℕ) (n : ℕ) → IsBegun names y (before_of start s) made (before_of start t) → Kept start s t
    → HasRoom (variable_size y + n) s → HasRoom n t
after_variable names y start s t made n begun k r =
    room_behind (variable_size y) n start s t (omega (arith, ap (λ (b : Before). given b) begun.after, variable_added names y (before_of start s))) k.throws r

-- which exceptions are in scope takes no room
pub room_outside : (s : Scope) (handled : List Handled) (n : ℕ) → HasRoom n s → HasRoom n (record s { handled = handled })
unfolding HasRoom
room_outside s handled n r = r

-- the header of a function leaves room for its body

params_given : (names : Texts) (b : Before) (ps : List Param) → given (params_from names b ps) ≡ given b + length ps
params_given names b [] = omega arith
params_given names b (p ∷ ps) = omega (arith, params_given names (with_param names b p) ps, length-append b.slots (p.sort ∷ []))

pub room_in_function : (names : Texts) (f : Function) (s : Scope) → IsOpened names f s → IsNumber (function_size f) → HasRoom (stmts_size f.body) s
unfolding HasRoom
room_in_function names f s o h = omega (arith, o.throws, ap (λ (b : Before). given b) o.before, params_given names function_begin f.params, h)

pub size_of_one : (fs : List Function) (i : ℕ) (f : Function) → i < length fs → function_size (get_or fs i f) ≤ functions_size fs
size_of_one [] i f h = absurd (omega (arith, h))
size_of_one (g ∷ fs) zero f h = omega arith
size_of_one (g ∷ fs) (suc i) f h = omega (arith, size_of_one fs i f (omega (arith, h)))
