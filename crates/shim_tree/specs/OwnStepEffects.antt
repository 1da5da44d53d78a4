-- What an event of a process by itself leaves, and its effects.
use Rattle.std.specs.Prelude.{◌≡◌, ℕ, List, ◌++◌}
use Rattle.std.specs.FinMap as finite
use Rattle.shim_base.specs.Paths.{Path, path_order}
use Rattle.shim_local.specs.Process.{Ops}
use Rattle.shim_local.specs.declared.LogWhat.{LogWhat}
use Rattle.shim_semantics.specs.Nodes.{Node}
use Rattle.shim_semantics.specs.Acts.{Effects}
use Rattle.shim_semantics.specs.Trees.{with_logs}
use Rattle.shim_tree.specs.Acting.{ActsOn}

-- the process of the path does its one thing, and the effects of that come after what was put and logged
pub record DoesOwnStep {S : Type 0} (o : Ops S) (p : Path) (before after : Node S) (put put' : List ℕ) (logs logs' : finite.FinMap path_order (List LogWhat)) : Type 0 where
  pub effects : Effects
  pub acts : ActsOn o p before effects after
  pub puts : put' ≡ put ++ effects.bytes
  pub logs_more : logs' ≡ with_logs logs p effects.logs

-- the node, the bytes that were put and the logs are as before
pub record ChangesNothing {S : Type 0} (before after : Node S) (put put' : List ℕ) (logs logs' : finite.FinMap path_order (List LogWhat)) : Type 0 where
  pub node : after ≡ before
  pub puts : put' ≡ put
  pub logs_same : logs' ≡ logs
