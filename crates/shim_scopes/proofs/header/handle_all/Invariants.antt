use Rattle.std.proofs.Common.{◌≡◌, [], length, drop}
use Rattle.shim_scopes.specs.Functions.{handled_from}
use Rattle.shim_scopes.proofs.header.handle_all.Given as goal

abbrev pub invariant-loop-name : goal.invariant-loop-name
invariant-loop-name l = record {
  made : handled_from l.made (drop l.name-index l.names) ≡ handled_from [] l.names;
  count : length l.made ≡ l.name-index;
}
