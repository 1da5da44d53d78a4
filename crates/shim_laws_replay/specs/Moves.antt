-- How a journal goes on: by an entry more, and by the entry of a piece of work.
use Rattle.std.specs.Prelude.{◌≡◌, ◌≤◌, ℕ, ◌+◌, Bool, false, Some, List, [], ◌∷◌, ◌++◌}
use Rattle.shim_base.specs.Paths.{Path}
use Rattle.shim_local.specs.Process.{Ops, AtQuiet}
use Rattle.shim_local.specs.Quiets.{QuietSteps}
use Rattle.shim_local.specs.Pieces.{FewerWithCause}
use Rattle.shim_semantics.specs.Nodes.{Live}
use Rattle.shim_semantics.specs.Places.{StandsAt}
use Rattle.shim_semantics.specs.Trees.{Tree, start, steps}
use Rattle.shim_semantics.specs.Sound.{SharesItsOwn}
use Rattle.shim_semantics.specs.Quiets.{ComesBy, Advances}
use Rattle.shim_semantics.specs.Laws.{IsSoundTree}
use Rattle.shim_semantics.specs.Systems.{run}
use Rattle.shim_laws_replay.specs.Journals.{Entry, Quiet, entry_after, replay}
use Rattle.shim_laws_replay.specs.Grants.{IsGrantable}

-- How a journal leads from tree to tree, entry by entry. Each tree is sound if the root is sound and shares its own channels alone.
pub record JournalsGoOn {S : Type 0} (o : Ops S) : Type 0 where
  -- a journal without entries leads to the tree of the one process
  pub empty : (root : S) → replay o root [] ≡ Some (start root)
  -- with an entry more it leads to the tree after that
  pub one_more : (root : S) (journal : List Entry) (j : Entry) (t u : Tree S) → replay o root journal ≡ Some t → entry_after o j t ≡ Some u → replay o root (journal ++ j ∷ []) ≡ Some u
  -- each part of it from the start leads to a tree, from which the rest leads on
  pub earlier : (root : S) (js ks : List Entry) (u : Tree S) → replay o root (js ++ ks) ≡ Some u → (t : Tree S) × (replay o root js ≡ Some t) × (run (entry_after o) ks t ≡ Some u)
  -- and each tree to which it leads is sound
  pub sound : (root : S) (journal : List Entry) (t : Tree S) → o.sound root → SharesItsOwn o root → replay o root journal ≡ Some t → IsSoundTree o t

-- What a piece of so many quiet steps, which end in this state, makes of the first tree: the second is the tree after one entry, is sound and has as many steps more, and the process stands in it in its last state.
pub record IsTakenIn {S : Type 0} (o : Ops S) (t u : Tree S) (n : ℕ) (last : S) : Type 0 where
  pub entry : entry_after o (Quiet (o.path last) n) t ≡ Some u
  pub sound : IsSoundTree o u
  pub counted : steps u ≡ steps t + n
  pub in_tree : StandsAt o u.root (o.path last) (Live last)

-- A finished piece of work can be taken in as one entry of quiet steps. Each entry of one quiet step or more is a piece of work of its process.
pub record PiecesAreEntries {S : Type 0} (o : Ops S) : Type 0 where
  -- Where the process of a finished piece stands in the tree as granted, the piece's steps lead from there to its last state (`ComesBy`). This state has the path of the first.
  pub comes : (t : Tree S) (n : ℕ) (first last : S) → IsSoundTree o t → IsGrantable o t first → QuietSteps o n first last → ComesBy o t n last × (o.path last ≡ o.path first)
  -- where so many quiet steps lead to a state, there is a tree after as many own steps of its process
  pub leads : (t : Tree S) (n : ℕ) (last : S) → IsSoundTree o t → ComesBy o t n last → (u : Tree S) × Advances o (o.path last) n t u
  -- those steps are taken in as one entry (`IsTakenIn`)
  pub entry : (t u : Tree S) (n : ℕ) (last : S) → IsSoundTree o t → ComesBy o t n last → Advances o (o.path last) n t u → IsTakenIn o t u n last
  -- each entry of one quiet step or more is a piece of the process of its path
  pub piece : (t u : Tree S) (p : Path) (n : ℕ) → IsSoundTree o t → 1 ≤ n → entry_after o (Quiet p n) t ≡ Some u → (first : S) × (last : S) × IsGrantable o t first × (o.path first ≡ p) × QuietSteps o n first last × IsTakenIn o t u n last
  -- a piece has a step, where a step was granted to a process that stands before a quiet one, and memory wasn't refused
  pub some : (first last : S) (used grant : ℕ) (short : Bool) → o.stop first ≡ AtQuiet → 1 ≤ grant → QuietSteps o used first last → FewerWithCause o used grant short last → short ≡ false → 1 ≤ used
