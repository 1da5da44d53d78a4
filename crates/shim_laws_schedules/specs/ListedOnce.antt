-- What it means that a walk lists each event once.
use Rattle.std.specs.Prelude.{◌≡◌, ℕ, Some, List, slice_get}
use Rattle.shim_local.specs.Process.{Ops}
use Rattle.shim_semantics.specs.Places.{SoundBelow}
use Rattle.shim_semantics.specs.Trees.{Tree}
use Rattle.shim_semantics.specs.Walks.{walk}

-- nothing stands at two places of the list
abbrev pub StandOnce : {E : Type 0} → List E → Type 0
StandOnce {E} es = (i j : ℕ) (e : E) → slice_get es i ≡ Some e → slice_get es j ≡ Some e → i ≡ j

-- where `SoundBelow` holds of the root, no event stands at two places of the walk from it
abbrev pub ListsOnce : {S : Type 0} → Ops S → Type 0
ListsOnce {S} o = (t : Tree S) → SoundBelow o t.root → StandOnce (walk o t.root)
