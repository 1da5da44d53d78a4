-- What is asked of each entry of an explanation, and where the entry of a path stands.
use Rattle.std.specs.Prelude.{◌≡◌, ◌≢◌, ◌++◌, ℕ, suc, Option, Some, None, List, [], ◌∷◌, true, slice_get, cond}
use Rattle.std.specs.Option.{option_map}
use Rattle.std.specs.BTreeMap.{BTreeMap, get}
use Rattle.shim_base.specs.Paths.{Path, NamedChannel, same_path, path_order}
use Rattle.shim_local.specs.Process.{Ops}
use Rattle.shim_local.specs.Laws.{AllOf}
use Rattle.shim_semantics.specs.Nodes.{Node, Live}
use Rattle.shim_semantics.specs.Places.{StandsAt}
use Rattle.shim_waits.specs.Holding.{holds_up}
use Rattle.shim_waits.specs.Waits.{StandsAtNext}
use Rattle.shim_waits.specs.declared.explained.Wait.{Wait}

-- the process of the path lives, and stands at the channel, by whatever name
abbrev pub WaitsThere : {S : Type 0} → Ops S → Node S → Path → NamedChannel → Type 0
WaitsThere {S} o root p c = (l : S) × StandsAt o root p (Live l) × StandsAtNext o l c

-- the process of the path holds up those that wait at the channel
abbrev pub IsHolder : {S : Type 0} → Ops S → Node S → Path → NamedChannel → Type 0
IsHolder {S} o root p c = (n : Node S) × StandsAt o root p n × (holds_up o c.channel n ≡ true)

-- the second path begins with the first, or is the first
abbrev pub IsAtOrBelow : Path → Path → Type 0
IsAtOrBelow front p = (r : Path) × (p ≡ front ++ r)

-- the place of the first wait of the path
abbrev pub first_place : List Wait → Path → Option ℕ
first_place [] p = None
first_place (w ∷ ws) p = cond (same_path w.path p) (Some 0) (option_map suc (first_place ws p))

-- each path has in the map the place of its first wait, and a path without a wait isn't in the map
abbrev pub IsEntryIndex : BTreeMap Path ℕ → List Wait → Type 0
IsEntryIndex index ws = (p : Path) → get path_order index p ≡ first_place ws p

-- no wait has the path of one before it
abbrev pub AreFirst : List Wait → Type 0
AreFirst ws = (i : ℕ) (w : Wait) → slice_get ws i ≡ Some w → first_place ws w.path ≡ Some i

-- each of these paths has a wait
abbrev pub HaveWaits : List Wait → List Path → Type 0
HaveWaits ws ps = AllOf (λ p. first_place ws p ≢ None) ps
