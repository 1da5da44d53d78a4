-- How a child died, and what a thrown exception leaves.
use Rattle.std.specs.Prelude.{◌≡◌, Option, Some, None}
use Rattle.shim_local.specs.Process.{Ops}
use Rattle.shim_semantics.specs.Nodes.{Node, Live, Forked, Ended, Dead, Death, prevailing}
use Rattle.shim_semantics.specs.Acts.{Effects, thrown}

-- how it died
abbrev pub death_of : {S : Type 0} → Node S → Option Death
death_of (Live l) = None
death_of (Forked l ks) = None
death_of (Ended l) = None
death_of (Dead l d) = Some d

-- the prevailing one of two, of which each may be missing
abbrev pub prevailing_of : Option Death → Option Death → Option Death
prevailing_of None y = y
prevailing_of (Some d) y = prevailing d y

-- the exception of this death, thrown in the process, leaves this node and has these effects
abbrev pub ThrowLeaves : {S : Type 0} → Ops S → S → Death → Effects → Node S → Type 0
ThrowLeaves o l d effects after = thrown o l d ≡ record { node = after; effects = effects }
