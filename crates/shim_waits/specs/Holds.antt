-- What an explanation is, whoever made it.
use Rattle.std.specs.Prelude.{◌≡◌, List, [], ◌∷◌}
use Rattle.shim_base.specs.Paths.{Path, same_path}
use Rattle.shim_local.specs.Process.{Ops}
use Rattle.shim_local.specs.Laws.{AllOf, how_many}
use Rattle.shim_base.specs.Lists.{IsAmong}
use Rattle.shim_semantics.specs.Nodes.{Node}
use Rattle.shim_waits.specs.Holding.{lives}
use Rattle.shim_waits.specs.Waits.{IsWait}
use Rattle.shim_waits.specs.Cycles.{WaitInTurn}
use Rattle.shim_waits.specs.declared.explained.Wait.{Wait}
use Rattle.shim_waits.specs.declared.explained.Explained.{Explained}

-- there is a path, and each waits for the next and the last one for the first
abbrev pub IsRing : List Wait → List Path → Type 0
IsRing ws [] = ⊥
IsRing ws (p ∷ ps) = WaitInTurn ws p ps p

-- Each live process has one entry. Each entry is a wait. The cycle is a ring of these waits. No clause asks for two different paths: no process waits for itself, so each cycle of a blocked tree has two (`NobodyWaitsForHimself`).
pub record IsExplanation {S : Type 0} (o : Ops S) (root : Node S) (e : Explained) : Type 0 where
  pub once : (l : S) → IsAmong l (lives root) → how_many (λ w. same_path w.path (o.path l)) e.waits ≡ 1
  pub each : AllOf (IsWait o root) e.waits
  pub ring : IsRing e.waits e.cycle
