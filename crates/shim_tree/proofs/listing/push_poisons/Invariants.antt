use Rattle.std.proofs.Common.{◌≡◌, ◌++◌, drop, map}
use Rattle.shim_run_log.specs.Events.{event_of}
use Rattle.shim_semantics.specs.Trees.{Poison}
use Rattle.shim_tree.specs.Searching.{channels}
use Rattle.shim_tree.proofs.listing.push_poisons.Given as goal

abbrev pub invariant-loop-c : goal.invariant-loop-c
invariant-loop-c l = map event_of l.events ++ map (Poison l.path) (channels (drop l.c-index l.chans)) ≡ map event_of l.initial.events ++ map (Poison l.path) (channels l.chans)
