-- The laws of a process, which the type `Walk` gives to the trait `Local`.
use Rattle.shim_local.specs.Laws.{LocalLaws}
use Rattle.shim_process.specs.Ops.{process_ops}
use Rattle.shim_process.proofs.AllLaws.{process_laws}

pub walk_laws : LocalLaws process_ops
walk_laws = process_laws
