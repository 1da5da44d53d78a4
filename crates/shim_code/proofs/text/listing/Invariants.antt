use Rattle.std.proofs.Common.{◌≡◌, ◌++◌, drop}
use Rattle.std.specs.Prelude.{flat_map}
use Rattle.shim_code.specs.Listing.{unit_text}
use Rattle.shim_code.specs.Programs.{code_units}
use Rattle.shim_code.proofs.text.listing.Given as goal

abbrev pub invariant-loop-unit : goal.invariant-loop-unit
invariant-loop-unit l = l.text ++ flat_map unit_text (code_units (drop l.unit-index l.units)) ≡ flat_map unit_text (code_units l.units)
