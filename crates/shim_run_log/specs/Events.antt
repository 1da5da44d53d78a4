-- Which event of a tree an event of the code means.
use Rattle.shim_semantics.specs.Trees as trees
use Rattle.shim_run_log.specs.declared.event.Event.{Event}
use Rattle.shim_run_log.specs.declared.event.Event.TheVariants as code

-- what an event of the code means as an event of a tree; a channel's printed name is left out
abbrev pub event_of : Event → trees.Event
event_of (code.Own p) = trees.Own p
event_of (code.Meet c) = trees.Meet c.channel
event_of (code.Poison p c) = trees.Poison p c.channel
event_of (code.Close p) = trees.Close p
event_of (code.End p) = trees.End p
