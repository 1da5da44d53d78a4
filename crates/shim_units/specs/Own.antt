-- The exceptions that a text throws or passes on, and what a unit has of its own.
use Rattle.std.specs.Prelude.{ℕ, List, [], ◌∷◌, ◌++◌, Option, Some, None}
use Rattle.shim_scopes.specs.declared.tree.RWhat.{RWhat-F}
use Rattle.shim_scopes.specs.declared.tree.RBranchWhat.{RBranchWhat-F}
use Rattle.shim_units.specs.Parts.{Part, all_raises, all_declares, all_tries}

-- the exceptions that a branch throws or passes on
abbrev pub branch_what_raises : {S T U V : Type 0} → RBranchWhat-F (ℕ → Part S) (ℕ → Part T) (Part U) (Part V) → List ℕ
branch_what_raises (RBranchWhat-F.RBranchWhat::Block body) = all_raises body
branch_what_raises (RBranchWhat-F.RBranchWhat::Call c) = c.throws

-- The exceptions that a statement throws or passes on, with those in its blocks and branches. Those that a `try` in it catches count, too.
abbrev pub what_raises : {S T U V : Type 0} → RWhat-F (ℕ → Part S) (ℕ → Part T) (Part U) (Part V) → List ℕ
what_raises (RWhat-F.If e first other) = all_raises first ++ all_raises other
what_raises (RWhat-F.While e body) = all_raises body
what_raises (RWhat-F.For first test step body) = all_raises first ++ (all_raises step ++ all_raises body)
what_raises (RWhat-F.RWhat::Block body) = all_raises body
what_raises (RWhat-F.RWhat::Call c) = c.throws
what_raises (RWhat-F.Try body x y handler) = all_raises body ++ all_raises handler
what_raises (RWhat-F.Throw x e) = x ∷ []
what_raises (RWhat-F.Par branches) = all_raises branches
what_raises _ = []

-- the variable of a handler, where it has one
abbrev pub some_slot : Option ℕ → List ℕ
some_slot None = []
some_slot (Some x) = x ∷ []

-- the declarations and the variables of handlers, without those in block branches, which are in units of their own
abbrev pub what_declares : {S T U V : Type 0} → RWhat-F (ℕ → Part S) (ℕ → Part T) (Part U) (Part V) → List ℕ
what_declares (RWhat-F.Declare ty x e) = x ∷ []
what_declares (RWhat-F.If e first other) = all_declares first ++ all_declares other
what_declares (RWhat-F.While e body) = all_declares body
what_declares (RWhat-F.For first test step body) = all_declares first ++ (all_declares step ++ all_declares body)
what_declares (RWhat-F.RWhat::Block body) = all_declares body
what_declares (RWhat-F.Try body x y handler) = all_declares body ++ (some_slot y ++ all_declares handler)
what_declares _ = []

-- the exceptions of the `try` statements, without those in block branches
abbrev pub what_tries : {S T U V : Type 0} → RWhat-F (ℕ → Part S) (ℕ → Part T) (Part U) (Part V) → List ℕ
what_tries (RWhat-F.If e first other) = all_tries first ++ all_tries other
what_tries (RWhat-F.While e body) = all_tries body
what_tries (RWhat-F.For first test step body) = all_tries first ++ (all_tries step ++ all_tries body)
what_tries (RWhat-F.RWhat::Block body) = all_tries body
what_tries (RWhat-F.Try body x y handler) = x ∷ (all_tries body ++ all_tries handler)
what_tries _ = []
