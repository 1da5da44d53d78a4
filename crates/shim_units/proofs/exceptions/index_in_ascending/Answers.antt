use Rattle.std.proofs.Common.{Ok, Err}
use Rattle.std.proofs.lemmas.List.Sorted.{searched}
use Rattle.shim_units.proofs.Ascending.{rise, index_found, index_missed}
use Rattle.shim_units.proofs.exceptions.index_in_ascending.Goals as goal

pub returns-in-Ok-clause-is : goal.returns-in-Ok-clause-is
returns-in-Ok-clause-is c =
    let s = searched c.args.numbers.now c.args.one (Ok c.in-Ok.at) c.in-Ok.ensures.position (rise c.args.numbers.now c.requires) in
    index_found c.args.numbers.now c.args.one c.in-Ok.at c.requires s.0 s.1

pub returns-in-Err-clause-is : goal.returns-in-Err-clause-is
returns-in-Err-clause-is c =
    let s = searched c.args.numbers.now c.args.one (Err c.in-Err.field-0) c.in-Err.ensures.position (rise c.args.numbers.now c.requires) in
    index_missed c.args.numbers.now c.args.one c.in-Err.field-0 s.1 s.2
