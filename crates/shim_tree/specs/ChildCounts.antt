-- The children that a process would have by its next step, and that they have their counts.
use Rattle.std.specs.Prelude.{ℕ, Option, Some, None, List, []}
use Rattle.std.specs.FinMap as finite
use Rattle.shim_base.specs.Paths.{path_order}
use Rattle.shim_local.specs.Process.{Ops, StopView, ForkedView, AtQuiet, AtNext, AtPut, AtFork, AtFinish, AtThrow, AtTrap, Parted, Trapped}
use Rattle.shim_local.specs.Laws.{AllOf}
use Rattle.shim_semantics.specs.Nodes.{Node, Live, Forked, Ended, Dead}
use Rattle.shim_run_log.specs.Reserved.{HasCount}

-- the process of the node, if it lives
abbrev pub live_in : {S : Type 0} → Option (Node S) → Option S
live_in None = None
live_in (Some (Live l)) = Some l
live_in (Some (Forked l ks)) = None
live_in (Some (Ended l)) = None
live_in (Some (Dead l x)) = None

-- the children that a fork made; none where the process trapped
abbrev pub forked_children : {S : Type 0} → ForkedView S → List S
forked_children (Parted l ks) = ks
forked_children (Trapped l) = []

-- the children of this fork if the process is at a fork, and else none
abbrev pub born_by : {S : Type 0} → StopView → ForkedView S → List S
born_by AtFork r = forked_children r
born_by AtQuiet r = []
born_by AtPut r = []
born_by AtFinish r = []
born_by (AtNext c) r = []
born_by (AtThrow label) r = []
born_by (AtTrap kind line) r = []

-- each child that the process would have, if there is one, has its count
abbrev pub ChildCountsReserved : {S : Type 0} → Ops S → finite.FinMap path_order ℕ → Option S → Type 0
ChildCountsReserved o m None = Unit {0}
ChildCountsReserved {S} o m (Some l) = AllOf (λ (k : S). HasCount m (o.path k)) (born_by (o.stop l) (o.fork l))
