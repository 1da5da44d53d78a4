use Rattle.std.proofs.Common.{rules, ◌≡◌, ◌+◌, length}
use Rattle.shim_units.specs.Units.{function_slot_map}
use Rattle.shim_sharing.proofs.Room.{room_in_function}
use Rattle.shim_sharing.proofs.units.lift_function.Goals as goal

pub lift_body-requires : goal.lift_body-requires
lift_body-requires c =
    let is : c.in_ok-function_slots.function_slots.slot_map ≡ function_slot_map c.args.function.now = search rules in
    rw (c.as_slice.ensures) (room_in_function (c.args.base + length c.args.lifted.now) c.args.function.now c.in_ok-function_slots.function_slots.slot_map is c.requires)
