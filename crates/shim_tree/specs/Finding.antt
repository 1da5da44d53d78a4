-- What the search for the first event finds, and the least of the channels that pass a test.
use Rattle.std.specs.Prelude.{Bool, Option, Some, None, List, [], ◌∷◌, cond}
use Rattle.std.specs.declared.cmp.Ordering.{Ordering}
use Rattle.std.specs.declared.cmp.Ordering.TheVariants.{Less, Equal, Greater}
use Rattle.shim_base.specs.Paths.{Channel, NamedChannel, channel_order}
use Rattle.shim_semantics.specs.Trees.{Event, Own, Meet, Poison, Close, End}
use Rattle.shim_tree.specs.declared.seek.Found.{Found}
use Rattle.shim_tree.specs.declared.seek.Found.TheVariants as found

-- the channel without its name, if there is one
abbrev pub unnamed_channel : Option NamedChannel → Option Channel
unnamed_channel None = None
unnamed_channel (Some c) = Some c.channel

-- the first channel where their comparison gave `Less`, else the second
abbrev pub sooner : Ordering → Channel → Channel → Channel
sooner Less c d = c
sooner Equal c d = d
sooner Greater c d = d

-- the first in order of c and the other channel, or c where there is no other
abbrev pub or_sooner : Channel → Option Channel → Channel
or_sooner c None = c
or_sooner c (Some d) = sooner (channel_order c d) c d

-- of `best` and those channels of the list that pass, the first in the order of channels; `None` where there is none
abbrev pub least : (Channel → Bool) → Option Channel → List Channel → Option Channel
least passes best [] = best
least passes best (c ∷ cs) = least passes (cond (passes c) (Some (or_sooner c best)) best) cs

-- the event that the code's search found
abbrev pub found_event : Found → Event
found_event (found.Own p) = Own p.now
found_event (found.Meet c) = Meet c.now.channel
found_event (found.Poison p c) = Poison p.now c.now.channel
found_event (found.Close p) = Close p.now
found_event (found.End p) = End p.now
