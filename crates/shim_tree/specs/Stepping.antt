-- What so many quiet steps of one process come to, done in place.
use Rattle.std.specs.Prelude.{◌≡◌, ◌≢◌, ◌≤◌, ◌<◌, ℕ, Bool, true, false, Some, None, List}
use Rattle.shim_base.specs.Paths.{Path}
use Rattle.shim_local.specs.Process.{Ops, AtQuiet}
use Rattle.shim_local.specs.Quiets.{QuietSteps}
use Rattle.shim_local.specs.declared.local.Quiet.{Quiet}
use Rattle.shim_semantics.specs.Nodes.{Node, Live}
use Rattle.shim_semantics.specs.Places.{at}
use Rattle.shim_semantics.specs.Trees.{Tree}
use Rattle.shim_laws_replay.specs.Journals.{quiet_steps}
use Rattle.shim_semantics.specs.Advancing.{with_state_at}

-- The process in this state, to which the branches lead, did the steps that the answer says: so many at most, and fewer only if it came to another stop or ran out of memory.
pub record DidQuietSteps {S : Type 0} (o : Ops S) (q : List ℕ) (most : ℕ) (quiet : Quiet) (first : S) (before after : Node S) : Type 0 where
  pub last : S
  pub steps : QuietSteps o quiet.taken first last
  pub within : quiet.taken ≤ most
  pub fewer : quiet.taken < most → quiet.short ≡ false → o.stop last ≢ AtQuiet
  pub put : after ≡ with_state_at last q before

-- if the branches lead to a live process, that process did the quiet steps of the answer
abbrev pub QuietAt : {S : Type 0} → Ops S → List ℕ → ℕ → Quiet → Node S → Node S → Type 0
QuietAt {S} o q most quiet before after = (first : S) → at q before ≡ Some (Live first) → DidQuietSteps o q most quiet first before after

-- the process of the path did the steps that the answer says; where they are fewer than so many, and memory didn't run out, so many can't be done
pub record DoesQuietSteps {S : Type 0} (o : Ops S) (p : Path) (most : ℕ) (quiet : Quiet) (before after : Tree S) : Type 0 where
  pub within : quiet.taken ≤ most
  pub leads : quiet_steps o p quiet.taken before ≡ Some after
  pub stops : quiet.taken < most → quiet.short ≡ false → quiet_steps o p most before ≡ None

-- true: n quiet steps of the process of the path lead from the first tree to the second; false: it can't do n quiet steps
abbrev pub QuietStepsOn : {S : Type 0} → Ops S → Path → ℕ → Tree S → Tree S → Bool → Type 0
QuietStepsOn o p n before after true = quiet_steps o p n before ≡ Some after
QuietStepsOn o p n before after false = quiet_steps o p n before ≡ None

-- at most n quiet steps of the process of the path, and nothing else, make the second tree of the first
abbrev pub DoesSome : {S : Type 0} → Ops S → Path → ℕ → Tree S → Tree S → Type 0
DoesSome o p n before after = (k : ℕ) × (k ≤ n) × (quiet_steps o p k before ≡ Some after)
