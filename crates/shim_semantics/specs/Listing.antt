-- What it means that a walk lists the enabled events.
use Rattle.std.specs.Prelude.{◌≡◌, ◌≢◌, ◌⊎◌, ◌↔◌, Some, None, List, [], ◌∷◌}
use Rattle.shim_base.specs.Lists.{IsAmong}
use Rattle.shim_local.specs.Process.{Ops}
use Rattle.shim_semantics.specs.Places.{SoundBelow}
use Rattle.shim_semantics.specs.Trees.{Tree, Event, after}
use Rattle.shim_semantics.specs.Walks.{walk}

-- where `SoundBelow` holds of the root, each event of the walk is enabled, and each enabled event is of the walk
abbrev pub ListsEnabled : {S : Type 0} → Ops S → Type 0
ListsEnabled {S} o = (t : Tree S) (e : Event) → SoundBelow o t.root → (IsAmong e (walk o t.root) → (a : Tree S) × (after o e t ≡ Some a)) × ((a : Tree S) → after o e t ≡ Some a → IsAmong e (walk o t.root))

-- these are the enabled events of the tree, and no others
abbrev pub AreEnabled : {S : Type 0} → Ops S → Tree S → List Event → Type 0
AreEnabled o t es = (e : Event) → IsAmong e es ↔ (after o e t ≢ None)
