use Rattle.std.proofs.Common.{◌≡◌, ◌++◌, drop, take}
use Rattle.shim_tree.specs.Inserted.{inserted}
use Rattle.shim_tree.specs.Searching.{channels}
use Rattle.shim_tree.proofs.listing.put_in_order.Given as goal

-- those before the place, and the channel put among the others, are the channel put among all
abbrev pub invariant-loop-i : goal.invariant-loop-i
invariant-loop-i l =
    (l.chans.items ≡ l.initial.chans.items)
    × (inserted l.c.channel (channels l.initial.chans.items) ≡ channels (take l.i l.chans.items) ++ inserted l.c.channel (channels (drop l.i l.chans.items)))
