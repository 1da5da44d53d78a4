-- What the code finds of a block branch before it lifts what stands in it.
use Rattle.std.specs.Prelude.{◌≡◌, List}
use Rattle.shim_units.specs.declared.branch.BranchCaptures.{BranchCaptures}
use Rattle.shim_units.specs.declared.unit.UStmt.{UStmt}
use Rattle.shim_units.specs.declared.slot_map.SlotMap.{SlotMap}
use Rattle.shim_units.specs.Parts.{LiftContext, Part, all_tries}
use Rattle.shim_units.specs.Usages.{captures_of}
use Rattle.shim_units.specs.Lifting.{branch_captures, branch_slots, branch_exceptions, branch_inner}

-- what the code found is what a block branch with that body takes, throws or passes on, and has of its own; w is the slot map of the unit around it
pub record IsBranchCaptures (captured : BranchCaptures) (context : LiftContext) (w : SlotMap) (body : List (Part UStmt)) : Type 0 where
  pub captures : captures_of captured.captures ≡ branch_captures context body
  pub slots : captured.slots ≡ branch_slots context body w
  pub exceptions : captured.exceptions ≡ branch_exceptions body w
  pub tries : captured.tries ≡ all_tries body
  pub inner : captured.inner ≡ branch_inner context body w
