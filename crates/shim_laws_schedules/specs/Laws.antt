-- What holds of every order of the events of a sound tree.
use Rattle.std.specs.Prelude.{◌≡◌, ℤ, Some, List, ◌++◌, length}
use Rattle.std.specs.FinMap as map
use Rattle.shim_base.specs.Paths.{Channel}
use Rattle.shim_local.specs.Process.{Ops}
use Rattle.shim_semantics.specs.Trees.{Tree, Met, Event, after}
use Rattle.shim_semantics.specs.Systems.{run}
use Rattle.shim_semantics.specs.Laws.{IsSoundTree}
use Rattle.shim_laws_schedules.specs.Orders.{IsDiamond, HasOneLength, IsPrefix}
use Rattle.shim_laws_schedules.specs.Rounds.{rounds}

-- any two events may change places
abbrev pub EventsCommute : {S : Type 0} → Ops S → Type 0
EventsCommute o = IsDiamond (after o) (IsSoundTree o)

-- Where one run from a sound tree ends in a quiescent one, no run from that tree is longer. Each run that ends in a quiescent tree is as long, and ends in the same one.
abbrev pub RunsAgree : {S : Type 0} → Ops S → Type 0
RunsAgree o = HasOneLength (after o) (IsSoundTree o)

-- the first tree's output is a prefix of the second's, and so is the history of each channel, under the same name
pub record IsPrefixOf {S : Type 0} (t u : Tree S) : Type 0 where
  pub output : IsPrefix t.output u.output
  pub histories : (c : Channel) (h : Met) → map.get t.histories c ≡ Some h → (more : List ℤ) × (map.get u.histories c ≡ Some (record { name = h.name; values = h.values ++ more }))

-- what a run of so many events put and met is a prefix of what as many rounds give
abbrev pub RoundsLead : {S : Type 0} → Ops S → Type 0
RoundsLead {S} o = (t u : Tree S) (es : List Event) → IsSoundTree o t → run (after o) es t ≡ Some u → IsPrefixOf u (rounds o (length es) t)
