-- Events that may change places, and where a rendezvous is enabled.
use Rattle.std.specs.Prelude.{◌≡◌, ◌↔◌, Bool, true, false, Option, Some}
use Rattle.shim_base.specs.Paths.{Path, Channel}
use Rattle.shim_local.specs.Process.{Ops}
use Rattle.shim_semantics.specs.Nodes.{Node}
use Rattle.shim_semantics.specs.Places.{meets}
use Rattle.shim_semantics.specs.Sound.{IsSound}
use Rattle.shim_semantics.specs.Laws.{IsSoundTree}
use Rattle.shim_semantics.specs.Trees.{Event, Own, Meet, Poison, Close, End, after}
use Rattle.shim_laws_schedules.specs.Waiting.{all_wait, has_sharer}

-- Of two different events that are both enabled in a sound state each leaves the other enabled. The state after both is one in both orders.
abbrev pub ChangePlaces : {E T : Type 0} → (E → T → Option T) → (T → Type 0) → E → E → Type 0
ChangePlaces {T = T} step sound e f =
    (t a b : T) → sound t → (e ≡ f → ⊥) → step e t ≡ Some a → step f t ≡ Some b → (u : T) × (step f a ≡ Some u) × (step e b ≡ Some u)

-- the two events may change places in each sound tree (`ChangePlaces`)
abbrev pub MayChangePlaces : {S : Type 0} → Ops S → Event → Event → Type 0
MayChangePlaces o = ChangePlaces (after o) (IsSoundTree o)

-- the event is the poison of a child
abbrev pub is_poison : Event → Bool
is_poison (Own p) = false
is_poison (Meet c) = false
is_poison (Poison p c) = true
is_poison (Close p) = false
is_poison (End p) = false

-- a rendezvous may change places with each event that is no poison
abbrev pub MeetingsChangePlaces : {S : Type 0} → Ops S → Type 0
MeetingsChangePlaces o = (c : Channel) (f : Event) → is_poison f ≡ false → MayChangePlaces o (Meet c) f

-- a poison may change places with each event
abbrev pub PoisonsChangePlaces : {S : Type 0} → Ops S → Type 0
PoisonsChangePlaces o = (p : Path) (c : Channel) (f : Event) → MayChangePlaces o (Poison p c) f

-- In a sound tree a channel's rendezvous is enabled exactly where all wait on the channel (`all_wait`) and some live or forked process shares it.
abbrev pub MeetsWhereAllWait : {S : Type 0} → Ops S → Type 0
MeetsWhereAllWait {S} o = (c : Channel) (root : Node S) → IsSound o root → (meets o c root ≡ true) ↔ ((all_wait o c root ≡ true) × (has_sharer o c root ≡ true))
