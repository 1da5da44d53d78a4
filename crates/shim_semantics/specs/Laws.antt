-- What holds of the events of sound trees.
use Rattle.std.specs.Prelude.{◌≡◌, ◌≢◌, ◌↔◌, ℕ, true, Some, List, ◌∷◌}
use Rattle.shim_base.specs.Paths.{Channel}
use Rattle.shim_local.specs.Process.{Ops}
use Rattle.shim_local.specs.Laws.{IsGiven}
use Rattle.shim_semantics.specs.Nodes.{Node, state}
use Rattle.shim_semantics.specs.Places.{at}
use Rattle.shim_semantics.specs.Trees.{Tree, Event, after, start}
use Rattle.shim_semantics.specs.Sound.{IsSound, SharesItsOwn}
use Rattle.shim_semantics.specs.Systems.{run, IsInvariant}

-- the root node of the tree is sound
abbrev pub IsSoundTree : {S : Type 0} → Ops S → Tree S → Type 0
IsSoundTree o t = IsSound o t.root

-- soundness holds at the start, of one live process all of whose channels are its own, and no event loses it
pub record KeepsSound {S : Type 0} (o : Ops S) : Type 0 where
  pub starts : (l : S) → o.sound l → SharesItsOwn o l → IsSoundTree o (start l)
  pub kept : IsInvariant (after o) (IsSoundTree o)

-- a run from a sound tree leads to a sound tree
abbrev pub RunsStaySound : {S : Type 0} → Ops S → Type 0
RunsStaySound {S} o = (t u : Tree S) (es : List Event) → IsSoundTree o t → run (after o) es t ≡ Some u → IsSoundTree o u

-- Each process below the root shares a channel of another process exactly where its fork gave it that.
abbrev pub SharesWhatWasGiven : {S : Type 0} → Ops S → Node S → Type 0
SharesWhatWasGiven {S} o root = (b : ℕ) (q : List ℕ) (k : Node S) (c : Channel) → at (b ∷ q) root ≡ Some k → c.home ≢ o.path (state k) → (o.shares (state k) c ≡ true) ↔ IsGiven o (state k) c

-- in a sound tree each process below the root shares, of the channels of others, just those that its fork gave it
abbrev pub ChildrenShareGiven : {S : Type 0} → Ops S → Type 0
ChildrenShareGiven {S} o = (t : Tree S) → IsSoundTree o t → SharesWhatWasGiven o t.root
