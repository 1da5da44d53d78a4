-- Where the input and the values of channels come from in a tree of processes of a program.
use Rattle.std.specs.Prelude.{◌≡◌, ◌≤◌, ℕ, Bool, true, false, Option, Some, None, List}
use Rattle.shim_base.specs.Paths.{Channel, NamedChannel}
use Rattle.shim_local.specs.Process.{AtNext}
use Rattle.shim_local.specs.Laws.{AnyOf, how_many}
use Rattle.shim_semantics.specs.Nodes.{Node, Live, everyone}
use Rattle.shim_semantics.specs.Places.{at}
use Rattle.shim_semantics.specs.Systems.{run}
use Rattle.shim_semantics.specs.Trees.{Tree, Event, after, start}
use Rattle.shim_process.specs.Ops.{process_ops}
use Rattle.shim_units.specs.declared.form.Form.{Form}
use Rattle.shim_process.specs.Forks.{root}
use Rattle.shim_process.specs.LocalState.{LocalState}
use Rattle.shim_process.specs.Sharers.{carries}

-- a run of enabled events leads to the tree from the one process of the program
abbrev pub IsReachable : Form → List ℕ → Tree LocalState → Type 0
IsReachable program input t = (es : List Event) × (run (after process_ops) es (start (root program input)) ≡ Some t)

abbrev pub is_place : Option ℕ → Bool
is_place None = false
is_place (Some n) = true

-- the process has the input, at some place in it
abbrev pub holds_input : LocalState → Bool
holds_input l = is_place l.input_at

-- at most one process of the tree has the input; processes that ended or died count, too
abbrev pub HasOneInput : Tree LocalState → Type 0
HasOneInput t = how_many holds_input (everyone t.root) ≤ 1

-- a process of the tree carries the channel, whatever came of it
abbrev pub IsCarried : Node LocalState → Channel → Type 0
IsCarried n c = AnyOf (λ l. carries l c ≡ true) (everyone n)

-- each channel at which a live process of the tree stands is carried by a process of it
abbrev pub HasSources : Tree LocalState → Type 0
HasSources t = (q : List ℕ) (l : LocalState) (c : NamedChannel) → at q t.root ≡ Some (Live l) → process_ops.stop l ≡ AtNext c → IsCarried t.root c.channel
