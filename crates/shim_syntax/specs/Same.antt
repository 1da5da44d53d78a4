-- A program without its lines, and when two programs differ in lines alone.
use Rattle.std.specs.Prelude.{ℕ, ◌≡◌, List, map}
use Rattle.shim_syntax.specs.declared.tree.Stmt.{Stmt, fold-Stmt, roll-Stmt}
use Rattle.shim_syntax.specs.declared.tree.What.{What, roll-What}
use Rattle.shim_syntax.specs.declared.tree.Branch.{Branch, roll-Branch}
use Rattle.shim_syntax.specs.declared.tree.BranchWhat.{BranchWhat, roll-BranchWhat}
use Rattle.shim_syntax.specs.declared.tree.Function.{Function}
use Rattle.shim_syntax.specs.declared.tree.Program.{Program}
use Rattle.shim_syntax.specs.Text.{IsText}

-- the statement with each line 0
abbrev pub stmt_without_lines : Stmt → Stmt
stmt_without_lines =
    fold-Stmt BranchWhat What Branch Stmt roll-BranchWhat roll-What
    (λ b. roll-Branch (record { line = 0; what = b.what }))
    (λ s. roll-Stmt (record { line = 0; what = s.what }))

-- The function with its line and each line in its body 0. The program with each line 0: `without_lines`.
abbrev pub function_without_lines : Function → Function
function_without_lines f = record { line = 0; name = f.name; params = f.params; throws = f.throws; body = map stmt_without_lines f.body }

abbrev pub without_lines : Program → Program
without_lines p = record { version = p.version; functions = map function_without_lines p.functions }

-- two programs that differ in lines alone
abbrev pub SameButLines : Program → Program → Type 0
SameButLines p q = without_lines p ≡ without_lines q

-- a text of a program that differs from this one in lines alone
abbrev pub IsTextOfSame : Program → List ℕ → Type 0
IsTextOfSame program text = (q : Program) × IsText text q × SameButLines program q
