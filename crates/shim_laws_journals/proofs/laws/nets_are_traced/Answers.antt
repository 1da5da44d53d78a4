use Rattle.shim_laws_journals.proofs.Traced.{nets_are_traced}
use Rattle.shim_laws_journals.proofs.laws.nets_are_traced.Goals as goal

pub returns : goal.returns
returns g c = nets_are_traced g.L.Local.ops
