-- Channels put into a list in their order one after another, as the code does it.
use Rattle.std.specs.Prelude.{List, [], ◌∷◌}
use Rattle.std.specs.declared.cmp.Ordering.{Ordering}
use Rattle.std.specs.declared.cmp.Ordering.TheVariants.{Less, Equal, Greater}
use Rattle.shim_base.specs.Paths.{Channel, channel_order}

-- c before d and the channels cs if it is less, d and cs alone if it is equal, else d before the channels `more`
abbrev pub put_before : Ordering → Channel → Channel → List Channel → List Channel → List Channel
put_before Less c d cs more = c ∷ d ∷ cs
put_before Equal c d cs more = d ∷ cs
put_before Greater c d cs more = d ∷ more

-- the channel in its place; one that is there already stays
abbrev pub inserted : Channel → List Channel → List Channel
inserted c [] = c ∷ []
inserted c (d ∷ cs) = put_before (channel_order c d) c d cs (inserted c cs)

-- each of the second list in its place in the first
abbrev pub all_inserted : List Channel → List Channel → List Channel
all_inserted done [] = done
all_inserted done (c ∷ cs) = all_inserted (inserted c done) cs
