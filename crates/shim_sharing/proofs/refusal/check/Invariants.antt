use Rattle.std.proofs.Common.{◌≡◌, drop}
use Rattle.shim_sharing.specs.Room.{FunctionsHaveRoom}
use Rattle.shim_sharing.specs.Refusals.{refusal_in}
use Rattle.shim_sharing.proofs.refusal.check.Given as goal

abbrev pub invariant-loop-function : goal.invariant-loop-function
invariant-loop-function l = record {
  passed : refusal_in l.names l.functions (drop l.function-index l.functions) ≡ refusal_in l.names l.functions l.functions;
  room : FunctionsHaveRoom 0 (drop l.function-index l.functions);
}
