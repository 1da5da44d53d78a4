-- The forks and calls of a text, in textual order, a fork before what stands in its branches.
use Rattle.std.specs.Prelude.{ℕ, List, [], ◌∷◌, ◌++◌}
use Rattle.shim_scopes.specs.declared.tree.RCall.{RCall}
use Rattle.shim_scopes.specs.declared.tree.RFunction.{RFunction}
use Rattle.shim_scopes.specs.declared.tree.RWhat.{RWhat-F}
use Rattle.shim_scopes.specs.declared.tree.RBranchWhat.{RBranchWhat-F}
use Rattle.shim_units.specs.Parts.{SharingPlace, Part, all_places, each_uses}
use Rattle.shim_units.specs.Parts.SharingPlace.{Fork, Called}
use Rattle.shim_units.specs.Calls.{paired_arguments, params_at}

-- a call in that line as a place for the sharing rule, its arguments paired with the parameters of the called function
abbrev pub call_place : List RFunction → RCall → ℕ → SharingPlace
call_place fs c line = Called line (paired_arguments (params_at fs c.function) c.args)

-- the forks and calls in what a branch in that line does
abbrev pub branch_what_places : {S T U V : Type 0} → List RFunction → RBranchWhat-F (ℕ → Part S) (ℕ → Part T) (Part U) (Part V) → ℕ → List SharingPlace
branch_what_places fs (RBranchWhat-F.RBranchWhat::Block body) line = all_places fs body
branch_what_places fs (RBranchWhat-F.RBranchWhat::Call c) line = call_place fs c line ∷ []

-- the forks and calls in what a statement in that line does, those in its blocks and branches too
abbrev pub what_places : {S T U V : Type 0} → List RFunction → RWhat-F (ℕ → Part S) (ℕ → Part T) (Part U) (Part V) → ℕ → List SharingPlace
what_places fs (RWhat-F.If e first other) line = all_places fs first ++ all_places fs other
what_places fs (RWhat-F.While e body) line = all_places fs body
what_places fs (RWhat-F.For first test step body) line = all_places fs first ++ (all_places fs step ++ all_places fs body)
what_places fs (RWhat-F.RWhat::Block body) line = all_places fs body
what_places fs (RWhat-F.RWhat::Call c) line = call_place fs c line ∷ []
what_places fs (RWhat-F.Try body x y handler) line = all_places fs body ++ all_places fs handler
what_places fs (RWhat-F.Par branches) line = Fork line (each_uses fs branches) ∷ all_places fs branches
what_places fs _ line = []
