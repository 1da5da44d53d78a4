use Rattle.std.proofs.Common.{rules}
use Rattle.shim_syntax.specs.Distinct.{IsNew}
use Rattle.shim_up.specs.Up.{fresh_name}
use Rattle.shim_up.proofs.LeastNew.{none_with}
use Rattle.shim_up.proofs.version_2.least_new_in.Goals as goal

pub loop-number-preserved : goal.loop-number-preserved
loop-number-preserved c =
    let here : IsNew (fresh_name c.loop-number.number) c.args.names.now → ⊥ = search rules in
    none_with c.args.names.now c.loop-number.number c.loop-number.invariant here
