-- Where an exception that is caught was thrown.
use Rattle.std.specs.Prelude.{◌≡◌, ◌≢◌, ◌≤◌, ◌⊎◌, ◌++◌, ℕ, ℤ, true, false, Some, List, [], ◌∷◌}
use Rattle.shim_base.specs.Paths.{Path}
use Rattle.shim_local.specs.Process.{Ops, AtThrow}
use Rattle.shim_local.specs.declared.LogWhat.{LogWhat}
use Rattle.shim_local.specs.declared.LogWhat.TheVariants.{Caught}
use Rattle.shim_semantics.specs.Nodes.{Nodes, Death, handed, Live, Forked, states, all_done, prevailing_death}
use Rattle.shim_semantics.specs.Places.{StandsAt}
use Rattle.shim_semantics.specs.Trees.{Tree, Event, Own, Close, logs_at, after}
use Rattle.shim_base.specs.Lists.{IsAmong}
use Rattle.shim_semantics.specs.Laws.{IsSoundTree}
use Rattle.shim_semantics.specs.Systems.{run}

-- the event is a step of the live process of this path, which stands at a throw of this label with this number
pub record Throws {S : Type 0} (o : Ops S) (t : Tree S) (e : Event) (p : Path) (x : ℕ) (v : ℤ) : Type 0 where
  pub is : e ≡ Own p
  pub thrower : S
  pub in_tree : StandsAt o t.root p (Live thrower)
  pub throws : o.stop thrower ≡ AtThrow x
  pub gives : o.number thrower ≡ Some v

-- The event is the close of the fork of this path's process. The children have all ended or died, and one of them died. The label is that of their prevailing death, and the number is what a handler is given of it.
pub record ClosesWith {S : Type 0} (o : Ops S) (t : Tree S) (e : Event) (p : Path) (x : ℕ) (v : ℤ) : Type 0 where
  pub is : e ≡ Close p
  pub parent : S
  pub children : Nodes S
  pub in_tree : StandsAt o t.root p (Forked parent children)
  pub done : all_done children ≡ true
  pub death : Death
  pub prevails : prevailing_death children ≡ Some death
  pub labelled : death.label ≡ x
  pub hands : handed death.given ≡ v

-- The event has the process of this path catch the label with this number: the process throws it, or its fork closes with it, and the label isn't below the base of the process. At a close that is the process to which its children's values came back.
pub data Catches {S : Type 0} (o : Ops S) (t : Tree S) (e : Event) (p : Path) (x : ℕ) (v : ℤ) : Type 0 where
  by_throw : (w : Throws o t e p x v) → o.base w.thrower ≤ x → Catches o t e p x v
  by_close : (w : ClosesWith o t e p x v) → o.base (o.join w.parent (states w.children) false) ≤ x → Catches o t e p x v

-- the process in which the label is caught, as it stands then
abbrev pub catcher : {S : Type 0} {o : Ops S} {t : Tree S} {e : Event} {p : Path} {x : ℕ} {v : ℤ} → Catches o t e p x v → S
catcher (by_throw w h) = w.thrower
catcher {o = o} (by_close w h) = o.join w.parent (states w.children) false

-- An event that has a process catch a label logs the catch. An event that logs a catch has a process catch a label. Traps are logged, too, and this record has no clause for them.
pub record CatchesAreLogged {S : Type 0} (o : Ops S) : Type 0 where
  -- a catch is logged of its process, with the name and the line of the handler, and nothing else of it is
  pub logged : (t u : Tree S) (e : Event) (p : Path) (x : ℕ) (v : ℤ) → after o e t ≡ Some u → (c : Catches o t e p x v) →
      logs_at u.logs p ≡ logs_at t.logs p ++ Caught (o.handler (catcher c) x).0 (o.handler (catcher c) x).1 ∷ []
  -- and an event that logs a catch of a process has that catch a label, with this handler
  pub caught : (t u : Tree S) (e : Event) (p : Path) (name line : ℕ) (more : List LogWhat) → after o e t ≡ Some u → logs_at u.logs p ≡ logs_at t.logs p ++ Caught name line ∷ more →
      (x : ℕ) × (v : ℤ) × (c : Catches o t e p x v) × (o.handler (catcher c) x ≡ (name, line))

-- In the run of these events a process below that of this path threw the label with this number, while that one stood in this state at a fork that hasn't closed since.
pub record ThrewBelow {S : Type 0} (o : Ops S) (from : Tree S) (es : List Event) (p : Path) (parent : S) (x : ℕ) (v : ℤ) : Type 0 where
  pub before : List Event
  pub event : Event
  pub since : List Event
  pub splits : es ≡ before ++ event ∷ since
  -- the tree in which it threw
  pub tree : Tree S
  pub leads : run (after o) before from ≡ Some tree
  pub more : Path
  pub below : more ≢ []
  pub throws : Throws o tree event (p ++ more) x v
  pub children : Nodes S
  pub forked : StandsAt o tree.root p (Forked parent children)
  pub unclosed : IsAmong (Close p) since → ⊥

-- In a run from a sound tree of one live process, each label that a process catches was thrown. It was thrown by that process, or by a process below its fork while the fork was open. Label 0, of which a trapped process dies, is never caught.
abbrev pub ThrownWhereCaught : {S : Type 0} → Ops S → Type 0
ThrownWhereCaught {S} o = (l : S) (from t u : Tree S) (es : List Event) (e : Event) (p : Path) (x : ℕ) (v : ℤ) →
    from.root ≡ Live l → IsSoundTree o from → run (after o) es from ≡ Some t → after o e t ≡ Some u → Catches o t e p x v →
    (1 ≤ x) × (Throws o t e p x v ⊎ ((w : ClosesWith o t e p x v) × ThrewBelow o from es p w.parent x v))

-- A run from a sound tree of one live process leads to a tree in which a close has a process catch a label with a number. The prevailing death has that number. So the handler is never given 0 because the death has none.
abbrev pub CatchesHaveNumbers : {S : Type 0} → Ops S → Type 0
CatchesHaveNumbers {S} o = (l : S) (from t : Tree S) (es : List Event) (e : Event) (p : Path) (x : ℕ) (v : ℤ) →
    from.root ≡ Live l → IsSoundTree o from → run (after o) es from ≡ Some t → (w : ClosesWith o t e p x v) → o.base (o.join w.parent (states w.children) false) ≤ x →
    w.death.given ≡ Some v
