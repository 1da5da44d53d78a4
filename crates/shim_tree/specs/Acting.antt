-- What an event at a process of the code leaves, and its effects.
use Rattle.std.specs.Prelude.{◌≡◌, ℕ, Option, Some, List, [], ◌∷◌}
use Rattle.shim_base.specs.Paths.{Path}
use Rattle.shim_local.specs.Process.{Ops}
use Rattle.shim_semantics.specs.Nodes.{Node, Nodes, state}
use Rattle.shim_tree.specs.declared.effects.Effects.{Effects as CodeEffects}
use Rattle.shim_tree.specs.declared.effects.Effects.TheVariants as code
use Rattle.shim_semantics.specs.Acts.{Effects, nothing, putting, Acted, act_here, act, act_child}
use Rattle.shim_semantics.specs.Places.{route, SoundChildren}
use Rattle.shim_semantics.specs.Trees.{act_route}

-- the effects of an event by the code
abbrev pub effects_of : CodeEffects → Effects
effects_of code.Nothing = nothing
effects_of (code.Byte b) = putting (Some b)
effects_of (code.Log w) = record { bytes = []; logs = w ∷ [] }

-- the process of the node does its one thing
abbrev pub ActsAtNode : {S : Type 0} → Ops S → Node S → Effects → Node S → Type 0
ActsAtNode o before effects after = act_here o before ≡ Some (record { node = after; effects = effects })

-- the process to which these branches lead does its one thing
abbrev pub ActsAt : {S : Type 0} → Ops S → List ℕ → Node S → Effects → Node S → Type 0
ActsAt o q before effects after = act o q before ≡ Some (record { node = after; effects = effects })

-- of these children: the process to which the branch i and then the branches q lead does its one thing
abbrev pub ActsAmong : {S : Type 0} → Ops S → ℕ → List ℕ → Nodes S → Effects → Nodes S → Type 0
ActsAmong o i q before effects after = act_child o i q before ≡ Some (after, effects)

-- the root and the effects after the one thing that the process of the path can do by itself, if there is one
abbrev pub acted_on : {S : Type 0} → Ops S → Path → Node S → Option (Acted S)
acted_on o p root = act_route o root (route (o.path (state root)) p)

-- the process to which the branches of the path lead does its one thing
abbrev pub ActsOn : {S : Type 0} → Ops S → Path → Node S → Effects → Node S → Type 0
ActsOn o p before effects after = acted_on o p before ≡ Some (record { node = after; effects = effects })

-- these are children of some process, from some place on
abbrev pub SoundAmong : {S : Type 0} → Ops S → Nodes S → Type 0
SoundAmong {S} o ks = (l : S) × (f : ℕ) × (i : ℕ) × SoundChildren o l f i ks
