-- What a process does by itself: a step of its own, its end, or the close of its fork.
use Rattle.std.specs.Prelude.{ℕ, ℤ, pos, Option, Some, None, List, [], ◌∷◌, cond, true, false, ltb}
use Rattle.shim_base.specs.declared.operators.Trap.{Trap}
use Rattle.shim_local.specs.Process.{Ops, StopView, ForkedView, AtQuiet, AtNext, AtPut, AtFork, AtFinish, AtThrow, AtTrap, Parted, Trapped}
use Rattle.shim_local.specs.declared.LogWhat.{LogWhat}
use Rattle.shim_local.specs.declared.LogWhat.TheVariants.{Caught, Trap as LoggedTrap}
use Rattle.shim_semantics.specs.Nodes.{Node, Nodes, Live, Forked, Ended, Dead, Death, death_with, handed, node_and, states, all_live, all_done, prevailing_death}
use Rattle.shim_semantics.specs.Descents.{Ascent, apply_at, apply_among}

-- the effects of an event: the bytes that it puts, and what it logs of its process
pub record Effects : Type 0 where
  pub bytes : List ℕ
  pub logs : List LogWhat

-- what is in place of a node afterwards, and the effects
pub record Acted (S : Type 0) : Type 0 where
  pub node : Node S
  pub effects : Effects

-- the effects of an event that puts no byte and logs nothing
abbrev pub nothing : Effects
nothing = record { bytes = []; logs = [] }

-- the effects of a put: its byte, and no log; a put that traps puts no byte
abbrev pub putting : Option ℕ → Effects
putting None = nothing
putting (Some b) = record { bytes = b ∷ []; logs = [] }

-- the effects of a catch: no byte, and a log of the handler's name and line
abbrev pub catch_logged : ℕ × ℕ → Effects
catch_logged h = record { bytes = []; logs = Caught h.0 h.1 ∷ [] }

-- the effects of a trap: no byte, and a log of its kind and line
abbrev pub trapping : Trap → ℕ → Effects
trapping kind line = record { bytes = []; logs = LoggedTrap kind line ∷ [] }

-- what a fork leaves: the parent above its children, or the process that trapped, which lives on
abbrev pub parted : {S : Type 0} → ForkedView S → Node S
parted (Parted l ks) = Forked l (all_live ks)
parted (Trapped l) = Live l

-- The exception of this death is thrown in a process. Where its label is below the base the process dies this death. Else it goes on at the handler, which gets the number, or 0 for none, and the catch is logged.
abbrev pub thrown : {S : Type 0} → Ops S → S → Death → Acted S
thrown o l d = cond (ltb d.label (o.base l)) (record { node = Dead l d; effects = nothing }) (record { node = Live (o.unwind l d.label (handed d.given)); effects = catch_logged (o.handler l d.label) })

-- What a throw of label x comes to. `Some v`: the process throws x with the number v. `None`: the number's expression trapped, and the process lives on, trapped.
abbrev pub throwing : {S : Type 0} → Ops S → S → ℕ → Option ℤ → Acted S
throwing o l x None = record { node = Live (o.thrown l); effects = nothing }
throwing o l x (Some v) = thrown o l (death_with x v)

-- A fork whose children are done closes: the process has their values again, and stands after the fork where all have ended. Where some died it still stands at the fork, and the exception of the prevailing death is thrown in it.
abbrev pub closed : {S : Type 0} → Ops S → S → List S → Option Death → Acted S
closed o l ks None = record { node = Live (o.join l ks true); effects = nothing }
closed o l ks (Some d) = thrown o (o.join l ks false) d

-- What a live process at this stop leaves by the one thing that it can do by itself, and the effects. At a `next` it can do nothing. A process that stands trapped dies of label 0 with the number 0, and the trap is logged.
abbrev pub act_live : {S : Type 0} → Ops S → S → StopView → Option (Acted S)
act_live o l AtQuiet = Some (record { node = Live (o.quiet l); effects = nothing })
act_live o l AtPut = Some (record { node = Live (o.put l); effects = putting (o.byte l) })
act_live o l AtFork = Some (record { node = parted (o.fork l); effects = nothing })
act_live o l AtFinish = Some (record { node = Ended l; effects = nothing })
act_live o l (AtNext c) = None
act_live o l (AtThrow label) = Some (throwing o l label (o.number l))
act_live o l (AtTrap kind line) = Some (record { node = Dead l (death_with 0 (pos 0)); effects = trapping kind line })

-- the one thing that the process of a node can do by itself; that of a fork is its close, which waits until no child is live or forked
abbrev pub act_here : {S : Type 0} → Ops S → Node S → Option (Acted S)
act_here o (Live l) = act_live o l (o.stop l)
act_here o (Forked l ks) = cond (all_done ks) (Some (closed o l (states ks) (prevailing_death ks))) None
act_here o (Ended l) = None
act_here o (Dead l x) = None

-- The process l as a fork with the given children below it, and their effects. Where none are given there is none.
abbrev pub within : {S : Type 0} → S → Option (Nodes S × Effects) → Option (Acted S)
within l None = None
within l (Some r) = Some (record { node = Forked l r.0; effects = r.1 })

-- the given node as the first child, before the children ks, with its effects
abbrev pub in_front : {S : Type 0} → Nodes S → Option (Acted S) → Option (Nodes S × Effects)
in_front ks None = None
in_front ks (Some a) = Some (node_and a.node ks, a.effects)

-- the child k before the given later children, with their effects
abbrev pub in_later : {S : Type 0} → Node S → Option (Nodes S × Effects) → Option (Nodes S × Effects)
in_later k None = None
in_later k (Some r) = Some (node_and k r.0, r.1)

-- what is done at a node shows at the nodes above it in what is there, and in the effects
abbrev pub done_above : {S : Type 0} → Ascent S (Option (Acted S)) (Option (Nodes S × Effects))
done_above = record { above = within; first = in_front; later = in_later; nowhere = λ n. None; no_child = None }

-- what the process of the node to which these branches lead leaves by the one thing that it can do by itself, and the effects of that
abbrev pub act : {S : Type 0} → Ops S → List ℕ → Node S → Option (Acted S)
act o = apply_at done_above (act_here o)

-- the same from some children, by the branch to one of them and those after it
abbrev pub act_child : {S : Type 0} → Ops S → ℕ → List ℕ → Nodes S → Option (Nodes S × Effects)
act_child o = apply_among done_above (act_here o)
