-- The numbers of the branches that a refusal reports fit 32 bits.
use Rattle.std.specs.Prelude.{◌<◌, ◌^◌}
use Rattle.shim_sharing.specs.declared.found.Offence.{Offence}
use Rattle.shim_sharing.specs.declared.found.Offence.TheVariants.{TwoWriters, Alias}

-- both numbers of branches that the offence reports are below 2 ^ 32; an alias reports none
abbrev pub HasBranchNumbers : Offence → Type 0
HasBranchNumbers (TwoWriters line first second slot) = (first < 2 ^ 32) × (second < 2 ^ 32)
HasBranchNumbers (Alias line slot) = Unit {0}
