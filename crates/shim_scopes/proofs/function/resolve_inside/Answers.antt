use Rattle.shim_scopes.proofs.Room.{room_in_function}
use Rattle.shim_scopes.proofs.function.resolve_inside.Goals as goal

pub resolve_body-requires-clause-room : goal.resolve_body-requires-clause-room
resolve_body-requires-clause-room c =
    rw (c.as_slice-body.ensures) (room_in_function c.args.names.now c.args.function.now c.in_ok-scope.scope c.in_ok-scope.ensures c.requires.size)
