use Rattle.std.proofs.Common.{◌≡◌, [], length, drop}
use Rattle.shim_scopes.specs.Functions.{params_from, function_begin}
use Rattle.shim_scopes.proofs.header.open_function.Given as goal

abbrev pub invariant-loop-param : goal.invariant-loop-param
invariant-loop-param l = record {
  declared : params_from l.names (record { own = l.visible; slots = l.slots; slot_names = l.slot_names; tries = [] }) (drop l.param-index l.function.params)
      ≡ params_from l.names function_begin l.function.params;
  count : length l.slots ≡ l.param-index;
}
