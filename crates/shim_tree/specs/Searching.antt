-- What a channel is to pass in the code's search, and what the lists of that mean.
use Rattle.std.specs.Prelude.{Bool, Option, Some, None, List, [], ◌∷◌, map}
use Rattle.std.specs.Borrow.{Bor}
use Rattle.shim_base.specs.Paths.{Channel, NamedChannel}
use Rattle.shim_local.specs.Process.{Ops}
use Rattle.shim_tree.specs.NodeStatus.{node, nodes, together}
use Rattle.shim_tree.specs.Beside.{nth_child}
use Rattle.shim_semantics.specs.Trees.{Event}
use Rattle.shim_semantics.specs.Walks.{meets_here, poisons_here}
use Rattle.shim_tree.specs.Finding.{found_event}
use Rattle.shim_tree.specs.declared.seek.Found.{Found}
use Rattle.shim_tree.specs.declared.seek.Test.{Test}
use Rattle.shim_tree.specs.declared.seek.Test.TheVariants.{Meets, Poisons}

-- the channel passes the test: the process of a node declared it and is ready on it, or a child is ready and doomed on it
abbrev pub passes : {S : Type 0} → Ops S → Test S → Channel → Bool
passes o (Meets l b) c = meets_here o (node l.now b.now) c
passes o (Poisons l ls bs i k) c = poisons_here o l.now (together ls.now (nodes bs.now)) i (nth_child k.now (nodes bs.now) i) c

-- the channels of the list, without their names
abbrev pub channels : List (Bor NamedChannel) → List Channel
channels cs = map (λ c. c.now.channel) cs

-- the event that was found, as a list of one, or of none
abbrev pub found_list : Option Found → List Event
found_list None = []
found_list (Some e) = found_event e ∷ []
