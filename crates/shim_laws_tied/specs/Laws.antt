-- What holds of tied trees that are sound, where two kinds of process are tied.
use Rattle.std.specs.Prelude.{◌≡◌, ◌≢◌, ◌↔◌, ℕ, Some, None, List}
use Rattle.shim_local.specs.Process.{Ops}
use Rattle.shim_semantics.specs.Trees.{Tree, Event, after, start}
use Rattle.shim_semantics.specs.Systems.{run}
use Rattle.shim_semantics.specs.Walks.{walk, meaning}
use Rattle.shim_semantics.specs.Endings.{ended}
use Rattle.shim_semantics.specs.Sound.{SharesItsOwn}
use Rattle.shim_semantics.specs.Laws.{IsSoundTree}
use Rattle.shim_laws_tied.specs.TiedTrees.{TreesTied}

-- the two trees are tied, and both are sound
pub record SoundAndTied {A B : Type 0} (o : Ops A) (p : Ops B) (R : A → B → Type 0) (t : Tree A) (u : Tree B) : Type 0 where
  pub one : IsSoundTree o t
  pub other : IsSoundTree p u
  pub tied : TreesTied R t u

-- an event is enabled in one exactly where it is in the other
abbrev pub SameEnabled : {A B : Type 0} → Ops A → Ops B → (A → B → Type 0) → Type 0
SameEnabled {A} {B} o p R = (t : Tree A) (u : Tree B) (e : Event) → SoundAndTied o p R t u → (after o e t ≢ None) ↔ (after p e u ≢ None)

-- the walks list the same events, in the same order
abbrev pub SameWalks : {A B : Type 0} → Ops A → Ops B → (A → B → Type 0) → Type 0
SameWalks {A} {B} o p R = (t : Tree A) (u : Tree B) → SoundAndTied o p R t u → walk o t.root ≡ walk p u.root

-- after an event that happens in both, the two trees are sound and tied again
abbrev pub StayTied : {A B : Type 0} → Ops A → Ops B → (A → B → Type 0) → Type 0
StayTied {A} {B} o p R = (t a : Tree A) (u b : Tree B) (e : Event) → SoundAndTied o p R t u → after o e t ≡ Some a → after p e u ≡ Some b → SoundAndTied o p R a b

-- the same is read off both
abbrev pub SameEnded : {A B : Type 0} → Ops A → Ops B → (A → B → Type 0) → Type 0
SameEnded {A} {B} o p R = (t : Tree A) (u : Tree B) → SoundAndTied o p R t u → ended o t ≡ ended p u

-- each run of the first tree is a run of the second, and the two trees after it are sound and tied
abbrev pub SameRuns : {A B : Type 0} → Ops A → Ops B → (A → B → Type 0) → Type 0
SameRuns {A} {B} o p R = (t a : Tree A) (u : Tree B) (es : List Event) → SoundAndTied o p R t u → run (after o) es t ≡ Some a → (b : Tree B) × (run (after p) es u ≡ Some b) × SoundAndTied o p R a b

-- The meanings of two tied sound processes are sound and tied, and the same is read off them, whatever the budget. The first process shares only channels that it declared.
abbrev pub SameMeanings : {A B : Type 0} → Ops A → Ops B → (A → B → Type 0) → Type 0
SameMeanings {A} {B} o p R = (l : A) (m : B) (b : ℕ) → o.sound l → p.sound m → R l m → SharesItsOwn o l →
    SoundAndTied o p R (meaning o b (start l)) (meaning p b (start m)) × (ended o (meaning o b (start l)) ≡ ended p (meaning p b (start m)))
