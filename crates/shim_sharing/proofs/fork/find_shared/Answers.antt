use Rattle.std.proofs.Common.{◌∙◌, map, false, sym, arith}
use Rattle.shim_units.specs.Usages.{captures_of, shared}
use Rattle.shim_sharing.proofs.Least.{least_found}
use Rattle.shim_sharing.proofs.fork.find_shared.Goals as goal

pub returns-then-is_shared : goal.returns-then-is_shared
returns-then-is_shared c =
    sym (least_found c.args.count c.loop-slot.slot (λ x. shared x false (map captures_of c.args.branches.now)) c.loop-slot.invariant (sym c.is_shared.ensures ∙ c.if-is_shared.true) (omega arith))
