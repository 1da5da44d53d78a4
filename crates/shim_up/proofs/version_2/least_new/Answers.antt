use Rattle.std.proofs.Common.{[], rules}
use Rattle.shim_syntax.specs.Names.{with_functions}
use Rattle.shim_up.specs.Up.{IsLeastNew}
use Rattle.shim_up.proofs.LeastNew.{least_of_identifiers}
use Rattle.shim_up.proofs.version_2.least_new.Goals as goal

pub returns : goal.returns
returns c =
    let found : IsLeastNew (with_functions c.args.functions.now []) c.in_ok-number.number = search rules in
    least_of_identifiers c.args.functions.now c.in_ok-number.number found
