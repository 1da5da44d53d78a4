use Rattle.shim_laws_stops.proofs.ScopeUnits.{all_in_scope}
use Rattle.shim_laws_stops.proofs.laws.what_is_named_is_in_scope.Goals as goal

pub returns : goal.returns
returns c = all_in_scope
