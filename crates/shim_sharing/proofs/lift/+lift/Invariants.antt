use Rattle.std.proofs.Common.{◌≡◌, ◌++◌, ◌+◌, length, drop}
use Rattle.shim_units.specs.LiftContextView.{lift_context_view}
use Rattle.shim_units.specs.Lifting.{lift_all}
use Rattle.shim_units.specs.PartFold.{lift_in, branch_parts}
use Rattle.shim_sharing.specs.Room.{HasRoomToLift}
use Rattle.shim_units.specs.Sizes.{extent, fork_extent}
use Rattle.shim_sharing.proofs.lift.+lift.Given as goal

abbrev pub invariant-lift_body-loop-stmt : goal.invariant-lift_body-loop-stmt
invariant-lift_body-loop-stmt l = record {
  tree : l.made ++ (lift_in (drop l.stmt-index l.body) (lift_context_view l.context) l.slot_map (l.next + length l.units)).tree
      ≡ (lift_in l.body (lift_context_view l.context) l.slot_map (l.next + length l.initial.units)).tree;
  units : l.units ++ (lift_in (drop l.stmt-index l.body) (lift_context_view l.context) l.slot_map (l.next + length l.units)).units
      ≡ l.initial.units ++ (lift_in l.body (lift_context_view l.context) l.slot_map (l.next + length l.initial.units)).units;
  room : HasRoomToLift l.slot_map (l.next + length l.units) (extent (drop l.stmt-index l.body));
}

abbrev pub invariant-lift_branches-loop-branch : goal.invariant-lift_branches-loop-branch
invariant-lift_branches-loop-branch l = record {
  tree : l.made ++ (lift_all (branch_parts (drop l.branch-index l.branches)) (lift_context_view l.context) l.slot_map (l.next + length l.units)).tree
      ≡ (lift_all (branch_parts l.branches) (lift_context_view l.context) l.slot_map (l.next + length l.initial.units)).tree;
  units : l.units ++ (lift_all (branch_parts (drop l.branch-index l.branches)) (lift_context_view l.context) l.slot_map (l.next + length l.units)).units
      ≡ l.initial.units ++ (lift_all (branch_parts l.branches) (lift_context_view l.context) l.slot_map (l.next + length l.initial.units)).units;
  room : HasRoomToLift l.slot_map (l.next + length l.units) (fork_extent (drop l.branch-index l.branches));
}
