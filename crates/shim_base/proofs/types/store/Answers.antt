-- A number kept of any other type than Bool is kept modulo the type's size.
use Rattle.std.proofs.Common.{rules}
use Rattle.shim_base.proofs.Stored.{stored_differs}
use Rattle.shim_base.proofs.types.store.Goals as goal

pub returns-in-Int8-clause-modulo : goal.returns-in-Int8-clause-modulo
returns-in-Int8-clause-modulo c = stored_differs c.args.ty c.args.v _ (search rules)

pub returns-in-Int16-clause-modulo : goal.returns-in-Int16-clause-modulo
returns-in-Int16-clause-modulo c = stored_differs c.args.ty c.args.v _ (search rules)

pub returns-in-Int32-clause-modulo : goal.returns-in-Int32-clause-modulo
returns-in-Int32-clause-modulo c = stored_differs c.args.ty c.args.v _ (search rules)

pub returns-in-Uint8-clause-modulo : goal.returns-in-Uint8-clause-modulo
returns-in-Uint8-clause-modulo c = stored_differs c.args.ty c.args.v _ (search rules)

pub returns-in-Uint16-clause-modulo : goal.returns-in-Uint16-clause-modulo
returns-in-Uint16-clause-modulo c = stored_differs c.args.ty c.args.v _ (search rules)

pub returns-in-Uint32-clause-modulo : goal.returns-in-Uint32-clause-modulo
returns-in-Uint32-clause-modulo c = stored_differs c.args.ty c.args.v _ (search rules)

pub returns-in-Int64-clause-modulo : goal.returns-in-Int64-clause-modulo
returns-in-Int64-clause-modulo c = stored_differs c.args.ty c.args.v _ (search rules)
