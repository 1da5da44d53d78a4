-- What each form of a statement shows as, and what it is without its lines.
use Rattle.std.proofs.Common.{ℕ, ◌≡◌, true, List, [], ◌∷◌, ◌++◌, map, Option, refl, sym, ap, ◌∙◌}
use Rattle.shim_base.specs.declared.Keyword.TheVariants as k
use Rattle.shim_base.specs.declared.Sign.TheVariants as g
use Rattle.shim_base.specs.declared.Ty.{Ty}
use Rattle.shim_syntax.specs.declared.tree.Expr.{Expr}
use Rattle.shim_syntax.specs.declared.tree.Call.{Call}
use Rattle.shim_syntax.specs.declared.tree.Stmt.{Stmt, Stmt-F, roll-Stmt, fold-roll-Stmt}
use Rattle.shim_syntax.specs.declared.tree.What.{What, What-F, roll-What, fold-What, fold-roll-What}
use Rattle.shim_syntax.specs.declared.tree.What.TheVariants as st
use Rattle.shim_syntax.specs.declared.tree.Branch.{Branch, Branch-F, roll-Branch, fold-Branch, fold-roll-Branch}
use Rattle.shim_syntax.specs.declared.tree.BranchWhat.{BranchWhat, BranchWhat-F, roll-BranchWhat, fold-BranchWhat, fold-roll-BranchWhat}
use Rattle.shim_syntax.specs.declared.tree.BranchWhat.TheVariants as br
use Rattle.shim_syntax.specs.Printing.{PrintedPiece, StmtShown, print_stmt_step, print_branch_step, stmt_shown, branch_pieces, key_piece, sign_piece, name_piece, line_end_piece, simple, without_semicolon, type_piece, expr_pieces, first_value_pieces, test_pieces, variable_pieces, thrown_number_pieces, call_pieces, block_pieces, else_pieces, part_pieces, fork_pieces}
use Rattle.shim_syntax.specs.Same.{stmt_without_lines}

-- what a statement does, as it shows
abbrev what_shown : What → StmtShown
what_shown = fold-What (List PrintedPiece) StmtShown (List PrintedPiece) StmtShown print_branch_step print_stmt_step (λ b. b.what) (λ s. s.what)

abbrev branch_what_pieces : BranchWhat → List PrintedPiece
branch_what_pieces = fold-BranchWhat (List PrintedPiece) StmtShown (List PrintedPiece) StmtShown print_branch_step print_stmt_step (λ b. b.what) (λ s. s.what)

stmt_is : (n : ℕ) (w : What) → stmt_shown (record { line = n; what = w }) ≡ what_shown w
unfolding denote.Hole.Carrier.roll
stmt_is n w = fold-roll-Stmt (List PrintedPiece) StmtShown (List PrintedPiece) StmtShown print_branch_step print_stmt_step (λ b. b.what) (λ s. s.what) (record { line = n; what = w })

branch_is : (n : ℕ) (w : BranchWhat) → branch_pieces (record { line = n; what = w }) ≡ branch_what_pieces w
unfolding denote.Hole.Carrier.roll
branch_is n w = fold-roll-Branch (List PrintedPiece) StmtShown (List PrintedPiece) StmtShown print_branch_step print_stmt_step (λ b. b.what) (λ s. s.what) (record { line = n; what = w })

pub declare_shown : (n : ℕ) (ty : Ty) (x : List ℕ) (value : Option Expr) → stmt_shown (record { line = n; what = st.Declare ty x value }) ≡
    simple (type_piece ty ∷ name_piece x ∷ first_value_pieces value)
unfolding roll-What denote.Hole.Carrier.roll
declare_shown n ty x value =
    stmt_is n (st.Declare ty x value)
    ∙ fold-roll-What (List PrintedPiece) StmtShown (List PrintedPiece) StmtShown print_branch_step print_stmt_step (λ b. b.what) (λ s. s.what) (What-F.Declare ty x value)

pub assign_shown : (n : ℕ) (x : List ℕ) (value : Expr) → stmt_shown (record { line = n; what = st.Assign x value }) ≡ simple (name_piece x ∷ sign_piece g.Equal ∷ expr_pieces value)
unfolding roll-What denote.Hole.Carrier.roll
assign_shown n x value = stmt_is n (st.Assign x value) ∙ fold-roll-What (List PrintedPiece) StmtShown (List PrintedPiece) StmtShown print_branch_step print_stmt_step (λ b. b.what) (λ s. s.what) (What-F.Assign x value)

pub next_shown : (n : ℕ) (x : List ℕ) → stmt_shown (record { line = n; what = st.Next x }) ≡ simple (key_piece k.Next ∷ name_piece x ∷ [])
unfolding roll-What denote.Hole.Carrier.roll
next_shown n x = stmt_is n (st.Next x) ∙ fold-roll-What (List PrintedPiece) StmtShown (List PrintedPiece) StmtShown print_branch_step print_stmt_step (λ b. b.what) (λ s. s.what) (What-F.Next x)

pub next_assign_shown : (n : ℕ) (x : List ℕ) (value : Expr) → stmt_shown (record { line = n; what = st.NextAssign x value }) ≡ simple (key_piece k.Next ∷ name_piece x ∷ sign_piece g.Equal ∷ expr_pieces value)
unfolding roll-What denote.Hole.Carrier.roll
next_assign_shown n x value =
    stmt_is n (st.NextAssign x value)
    ∙ fold-roll-What (List PrintedPiece) StmtShown (List PrintedPiece) StmtShown print_branch_step print_stmt_step (λ b. b.what) (λ s. s.what) (What-F.NextAssign x value)

pub assign_next_shown : (n : ℕ) (x y : List ℕ) → stmt_shown (record { line = n; what = st.AssignNext x y }) ≡ simple (name_piece x ∷ sign_piece g.Equal ∷ key_piece k.Next ∷ name_piece y ∷ [])
unfolding roll-What denote.Hole.Carrier.roll
assign_next_shown n x y = stmt_is n (st.AssignNext x y) ∙ fold-roll-What (List PrintedPiece) StmtShown (List PrintedPiece) StmtShown print_branch_step print_stmt_step (λ b. b.what) (λ s. s.what) (What-F.AssignNext x y)

pub get_shown : (n : ℕ) (x y : List ℕ) → stmt_shown (record { line = n; what = st.Get x y }) ≡ simple (name_piece x ∷ sign_piece g.Equal ∷ key_piece k.Get ∷ name_piece y ∷ [])
unfolding roll-What denote.Hole.Carrier.roll
get_shown n x y = stmt_is n (st.Get x y) ∙ fold-roll-What (List PrintedPiece) StmtShown (List PrintedPiece) StmtShown print_branch_step print_stmt_step (λ b. b.what) (λ s. s.what) (What-F.Get x y)

pub put_shown : (n : ℕ) (x : List ℕ) (value : Expr) → stmt_shown (record { line = n; what = st.Put x value }) ≡ simple (key_piece k.Put ∷ name_piece x ∷ sign_piece g.Comma ∷ expr_pieces value)
unfolding roll-What denote.Hole.Carrier.roll
put_shown n x value = stmt_is n (st.Put x value) ∙ fold-roll-What (List PrintedPiece) StmtShown (List PrintedPiece) StmtShown print_branch_step print_stmt_step (λ b. b.what) (λ s. s.what) (What-F.Put x value)

pub if_shown : (n : ℕ) (x : Expr) (xs ys : List Stmt) → stmt_shown (record { line = n; what = st.If x xs ys }) ≡
    without_semicolon (key_piece k.If ∷ sign_piece g.LeftParen ∷ (expr_pieces x ++ sign_piece g.RightParen ∷ (block_pieces (map stmt_shown xs) ++ else_pieces (map stmt_shown ys))))
unfolding roll-What denote.Hole.Carrier.roll
if_shown n x xs ys = stmt_is n (st.If x xs ys) ∙ fold-roll-What (List PrintedPiece) StmtShown (List PrintedPiece) StmtShown print_branch_step print_stmt_step (λ b. b.what) (λ s. s.what) (What-F.If x xs ys)

pub while_shown : (n : ℕ) (x : Expr) (xs : List Stmt) → stmt_shown (record { line = n; what = st.While x xs }) ≡
    without_semicolon (key_piece k.While ∷ sign_piece g.LeftParen ∷ (expr_pieces x ++ sign_piece g.RightParen ∷ block_pieces (map stmt_shown xs)))
unfolding roll-What denote.Hole.Carrier.roll
while_shown n x xs = stmt_is n (st.While x xs) ∙ fold-roll-What (List PrintedPiece) StmtShown (List PrintedPiece) StmtShown print_branch_step print_stmt_step (λ b. b.what) (λ s. s.what) (What-F.While x xs)

pub for_shown : (n : ℕ) (xs : List Stmt) (x : Option Expr) (ys zs : List Stmt) → stmt_shown (record { line = n; what = st.For xs x ys zs }) ≡
    without_semicolon (key_piece k.For ∷ sign_piece g.LeftParen ∷ (part_pieces (map stmt_shown xs)
    ++ sign_piece g.Semicolon ∷ (test_pieces x ++ sign_piece g.Semicolon ∷ (part_pieces (map stmt_shown ys) ++ sign_piece g.RightParen ∷ block_pieces (map stmt_shown zs)))))
unfolding roll-What denote.Hole.Carrier.roll
for_shown n xs x ys zs = stmt_is n (st.For xs x ys zs) ∙ fold-roll-What (List PrintedPiece) StmtShown (List PrintedPiece) StmtShown print_branch_step print_stmt_step (λ b. b.what) (λ s. s.what) (What-F.For xs x ys zs)

pub block_shown : (n : ℕ) (xs : List Stmt) → stmt_shown (record { line = n; what = st.Block xs }) ≡ without_semicolon (block_pieces (map stmt_shown xs))
unfolding roll-What denote.Hole.Carrier.roll
block_shown n xs = stmt_is n (st.Block xs) ∙ fold-roll-What (List PrintedPiece) StmtShown (List PrintedPiece) StmtShown print_branch_step print_stmt_step (λ b. b.what) (λ s. s.what) (What-F.What::Block xs)

pub call_shown : (n : ℕ) (c : Call) → stmt_shown (record { line = n; what = st.Call c }) ≡ simple (call_pieces c)
unfolding roll-What denote.Hole.Carrier.roll
call_shown n c = stmt_is n (st.Call c) ∙ fold-roll-What (List PrintedPiece) StmtShown (List PrintedPiece) StmtShown print_branch_step print_stmt_step (λ b. b.what) (λ s. s.what) (What-F.What::Call c)

pub try_shown : (n : ℕ) (xs : List Stmt) (x : List ℕ) (y : Option (List ℕ)) (ys : List Stmt) → stmt_shown (record { line = n; what = st.Try xs x y ys }) ≡
    without_semicolon (key_piece k.Try ∷ (block_pieces (map stmt_shown xs) ++ key_piece k.Catch ∷ sign_piece g.LeftParen ∷ name_piece x ∷ (variable_pieces y ++ sign_piece g.RightParen ∷ block_pieces (map stmt_shown ys))))
unfolding roll-What denote.Hole.Carrier.roll
try_shown n xs x y ys = stmt_is n (st.Try xs x y ys) ∙ fold-roll-What (List PrintedPiece) StmtShown (List PrintedPiece) StmtShown print_branch_step print_stmt_step (λ b. b.what) (λ s. s.what) (What-F.Try xs x y ys)

pub throw_shown : (n : ℕ) (x : List ℕ) (value : Option Expr) → stmt_shown (record { line = n; what = st.Throw x value }) ≡ simple (key_piece k.Throw ∷ name_piece x ∷ thrown_number_pieces value)
unfolding roll-What denote.Hole.Carrier.roll
throw_shown n x value =
    stmt_is n (st.Throw x value)
    ∙ fold-roll-What (List PrintedPiece) StmtShown (List PrintedPiece) StmtShown print_branch_step print_stmt_step (λ b. b.what) (λ s. s.what) (What-F.Throw x value)

pub par_shown : (n : ℕ) (bs : List Branch) → stmt_shown (record { line = n; what = st.Par bs }) ≡ without_semicolon (fork_pieces true (map branch_pieces bs))
unfolding roll-What denote.Hole.Carrier.roll
par_shown n bs = stmt_is n (st.Par bs) ∙ fold-roll-What (List PrintedPiece) StmtShown (List PrintedPiece) StmtShown print_branch_step print_stmt_step (λ b. b.what) (λ s. s.what) (What-F.Par bs)

pub block_branch_pieces : (n : ℕ) (xs : List Stmt) → branch_pieces (record { line = n; what = br.Block xs }) ≡ block_pieces (map stmt_shown xs)
unfolding roll-BranchWhat denote.Hole.Carrier.roll
block_branch_pieces n xs =
    branch_is n (br.Block xs)
    ∙ fold-roll-BranchWhat (List PrintedPiece) StmtShown (List PrintedPiece) StmtShown print_branch_step print_stmt_step (λ b. b.what) (λ s. s.what) (BranchWhat-F.BranchWhat::Block xs)

pub call_branch_pieces : (n : ℕ) (c : Call) → branch_pieces (record { line = n; what = br.Call c }) ≡ call_pieces c ++ line_end_piece g.Semicolon ∷ []
unfolding roll-BranchWhat denote.Hole.Carrier.roll
call_branch_pieces n c =
    branch_is n (br.Call c)
    ∙ fold-roll-BranchWhat (List PrintedPiece) StmtShown (List PrintedPiece) StmtShown print_branch_step print_stmt_step (λ b. b.what) (λ s. s.what) (BranchWhat-F.BranchWhat::Call c)

abbrev branch_zero : Branch-F BranchWhat What Branch Stmt → Branch
branch_zero b = roll-Branch (record { line = 0; what = b.what })

abbrev stmt_zero : Stmt-F BranchWhat What Branch Stmt → Stmt
stmt_zero s = roll-Stmt (record { line = 0; what = s.what })

abbrev what_without_lines : What → What
what_without_lines = fold-What BranchWhat What Branch Stmt roll-BranchWhat roll-What branch_zero stmt_zero

abbrev branch_what_without_lines : BranchWhat → BranchWhat
branch_what_without_lines = fold-BranchWhat BranchWhat What Branch Stmt roll-BranchWhat roll-What branch_zero stmt_zero

-- a branch with each line 0
abbrev pub branch_without_lines : Branch → Branch
branch_without_lines = fold-Branch BranchWhat What Branch Stmt roll-BranchWhat roll-What branch_zero stmt_zero

stmt_lines : (n : ℕ) (w : What) → stmt_without_lines (record { line = n; what = w }) ≡ stmt_zero (record { line = 0; what = what_without_lines w })
unfolding denote.Hole.Carrier.roll
stmt_lines n w = fold-roll-Stmt BranchWhat What Branch Stmt roll-BranchWhat roll-What branch_zero stmt_zero (record { line = n; what = w })

branch_lines : (n : ℕ) (w : BranchWhat) → branch_without_lines (record { line = n; what = w }) ≡ branch_zero (record { line = 0; what = branch_what_without_lines w })
unfolding denote.Hole.Carrier.roll
branch_lines n w = fold-roll-Branch BranchWhat What Branch Stmt roll-BranchWhat roll-What branch_zero stmt_zero (record { line = n; what = w })

-- statements that do the same but for lines are the same but for lines
same_stmt : (n m : ℕ) (w u : What) → what_without_lines w ≡ what_without_lines u → stmt_without_lines (record { line = n; what = w }) ≡ stmt_without_lines (record { line = m; what = u })
same_stmt n m w u same = stmt_lines n w ∙ ap (λ (x : What). stmt_zero (record { line = 0; what = x })) same ∙ sym (stmt_lines m u)

same_branch : (n m : ℕ) (w u : BranchWhat) → branch_what_without_lines w ≡ branch_what_without_lines u → branch_without_lines (record { line = n; what = w }) ≡
    branch_without_lines (record { line = m; what = u })
same_branch n m w u same = branch_lines n w ∙ ap (λ (x : BranchWhat). branch_zero (record { line = 0; what = x })) same ∙ sym (branch_lines m u)

-- the line of a statement doesn't count
pub other_line : (n m : ℕ) (w : What) → stmt_without_lines (record { line = n; what = w }) ≡ stmt_without_lines (record { line = m; what = w })
other_line n m w = same_stmt n m w w refl

-- nor that of a branch
pub other_branch_line : (n m : ℕ) (w : BranchWhat) → branch_without_lines (record { line = n; what = w }) ≡ branch_without_lines (record { line = m; what = w })
other_branch_line n m w = same_branch n m w w refl

-- the same statements but for lines
abbrev pub AreSame : List Stmt → List Stmt → Type 0
AreSame xs ys = map stmt_without_lines xs ≡ map stmt_without_lines ys

abbrev pub AreSameBranches : List Branch → List Branch → Type 0
AreSameBranches bs cs = map branch_without_lines bs ≡ map branch_without_lines cs

if_lines : (x : Expr) (xs ys : List Stmt) → what_without_lines (st.If x xs ys) ≡ roll-What (What-F.If x (map stmt_without_lines xs) (map stmt_without_lines ys))
unfolding roll-What denote.Hole.Carrier.roll
if_lines x xs ys = fold-roll-What BranchWhat What Branch Stmt roll-BranchWhat roll-What branch_zero stmt_zero (What-F.If x xs ys)

pub same_if : (n m : ℕ) (x : Expr) (xs us ys vs : List Stmt) → AreSame us xs → AreSame vs ys → stmt_without_lines (record { line = n; what = st.If x us vs }) ≡
    stmt_without_lines (record { line = m; what = st.If x xs ys })
same_if n m x xs us ys vs same_xs same_ys =
    same_stmt n m (st.If x us vs) (st.If x xs ys)
    (if_lines x us vs
    ∙ ap (λ (z : List Stmt). roll-What (What-F.If x z (map stmt_without_lines vs))) same_xs
    ∙ ap (λ (z : List Stmt). roll-What (What-F.If x (map stmt_without_lines xs) z)) same_ys
    ∙ sym (if_lines x xs ys))

while_lines : (x : Expr) (xs : List Stmt) → what_without_lines (st.While x xs) ≡ roll-What (What-F.While x (map stmt_without_lines xs))
unfolding roll-What denote.Hole.Carrier.roll
while_lines x xs = fold-roll-What BranchWhat What Branch Stmt roll-BranchWhat roll-What branch_zero stmt_zero (What-F.While x xs)

pub same_while : (n m : ℕ) (x : Expr) (xs us : List Stmt) → AreSame us xs → stmt_without_lines (record { line = n; what = st.While x us }) ≡
    stmt_without_lines (record { line = m; what = st.While x xs })
same_while n m x xs us same_xs =
    same_stmt n m (st.While x us) (st.While x xs)
    (while_lines x us
    ∙ ap (λ (z : List Stmt). roll-What (What-F.While x z)) same_xs
    ∙ sym (while_lines x xs))

for_lines : (xs : List Stmt) (x : Option Expr) (ys zs : List Stmt) → what_without_lines (st.For xs x ys zs) ≡
    roll-What (What-F.For (map stmt_without_lines xs) x (map stmt_without_lines ys) (map stmt_without_lines zs))
unfolding roll-What denote.Hole.Carrier.roll
for_lines xs x ys zs = fold-roll-What BranchWhat What Branch Stmt roll-BranchWhat roll-What branch_zero stmt_zero (What-F.For xs x ys zs)

pub same_for : (n m : ℕ) (xs us : List Stmt) (x : Option Expr) (ys vs zs ws : List Stmt) → AreSame us xs → AreSame vs ys → AreSame ws zs →
    stmt_without_lines (record { line = n; what = st.For us x vs ws }) ≡ stmt_without_lines (record { line = m; what = st.For xs x ys zs })
same_for n m xs us x ys vs zs ws same_xs same_ys same_zs =
    same_stmt n m (st.For us x vs ws) (st.For xs x ys zs)
    (for_lines us x vs ws
    ∙ ap (λ (z : List Stmt). roll-What (What-F.For z x (map stmt_without_lines vs) (map stmt_without_lines ws))) same_xs
    ∙ ap (λ (z : List Stmt). roll-What (What-F.For (map stmt_without_lines xs) x z (map stmt_without_lines ws))) same_ys
    ∙ ap (λ (z : List Stmt). roll-What (What-F.For (map stmt_without_lines xs) x (map stmt_without_lines ys) z)) same_zs
    ∙ sym (for_lines xs x ys zs))

block_lines : (xs : List Stmt) → what_without_lines (st.Block xs) ≡ roll-What (What-F.What::Block (map stmt_without_lines xs))
unfolding roll-What denote.Hole.Carrier.roll
block_lines xs = fold-roll-What BranchWhat What Branch Stmt roll-BranchWhat roll-What branch_zero stmt_zero (What-F.What::Block xs)

pub same_block : (n m : ℕ) (xs us : List Stmt) → AreSame us xs → stmt_without_lines (record { line = n; what = st.Block us }) ≡ stmt_without_lines (record { line = m; what = st.Block xs })
same_block n m xs us same_xs =
    same_stmt n m (st.Block us) (st.Block xs)
    (block_lines us
    ∙ ap (λ (z : List Stmt). roll-What (What-F.What::Block z)) same_xs
    ∙ sym (block_lines xs))

try_lines : (xs : List Stmt) (x : List ℕ) (y : Option (List ℕ)) (ys : List Stmt) →
    what_without_lines (st.Try xs x y ys) ≡ roll-What (What-F.Try (map stmt_without_lines xs) x y (map stmt_without_lines ys))
unfolding roll-What denote.Hole.Carrier.roll
try_lines xs x y ys = fold-roll-What BranchWhat What Branch Stmt roll-BranchWhat roll-What branch_zero stmt_zero (What-F.Try xs x y ys)

pub same_try : (n m : ℕ) (xs us : List Stmt) (x : List ℕ) (y : Option (List ℕ)) (ys vs : List Stmt) → AreSame us xs → AreSame vs ys → stmt_without_lines (record { line = n; what = st.Try us x y vs }) ≡
    stmt_without_lines (record { line = m; what = st.Try xs x y ys })
same_try n m xs us x y ys vs same_xs same_ys =
    same_stmt n m (st.Try us x y vs) (st.Try xs x y ys)
    (try_lines us x y vs
    ∙ ap (λ (z : List Stmt). roll-What (What-F.Try z x y (map stmt_without_lines vs))) same_xs
    ∙ ap (λ (z : List Stmt). roll-What (What-F.Try (map stmt_without_lines xs) x y z)) same_ys
    ∙ sym (try_lines xs x y ys))

par_lines : (bs : List Branch) → what_without_lines (st.Par bs) ≡ roll-What (What-F.Par (map branch_without_lines bs))
unfolding roll-What denote.Hole.Carrier.roll
par_lines bs = fold-roll-What BranchWhat What Branch Stmt roll-BranchWhat roll-What branch_zero stmt_zero (What-F.Par bs)

pub same_par : (n m : ℕ) (bs cs : List Branch) → AreSameBranches cs bs → stmt_without_lines (record { line = n; what = st.Par cs }) ≡ stmt_without_lines (record { line = m; what = st.Par bs })
same_par n m bs cs same = same_stmt n m (st.Par cs) (st.Par bs) (par_lines cs ∙ ap (λ (z : List Branch). roll-What (What-F.Par z)) same ∙ sym (par_lines bs))

block_branch_lines : (xs : List Stmt) → branch_what_without_lines (br.Block xs) ≡ roll-BranchWhat (BranchWhat-F.BranchWhat::Block (map stmt_without_lines xs))
unfolding roll-BranchWhat denote.Hole.Carrier.roll
block_branch_lines xs = fold-roll-BranchWhat BranchWhat What Branch Stmt roll-BranchWhat roll-What branch_zero stmt_zero (BranchWhat-F.BranchWhat::Block xs)

pub same_block_branch : (n m : ℕ) (xs ys : List Stmt) → AreSame ys xs → branch_without_lines (record { line = n; what = br.Block ys }) ≡ branch_without_lines (record { line = m; what = br.Block xs })
same_block_branch n m xs ys same =
    same_branch n m (br.Block ys) (br.Block xs) (block_branch_lines ys ∙ ap (λ (z : List Stmt). roll-BranchWhat (BranchWhat-F.BranchWhat::Block z)) same ∙ sym (block_branch_lines xs))
