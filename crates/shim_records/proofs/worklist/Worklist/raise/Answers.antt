use Rattle.std.proofs.Common.{subst, sym, arith}
use Rattle.shim_records.specs.Waiting.{KeepsRoom}
use Rattle.shim_records.proofs.Waits.{raised}
use Rattle.shim_records.proofs.worklist.Worklist.raise.Goals as goal

pub invariant_of-self-2 : goal.invariant_of-self-2
invariant_of-self-2 c =
    let w = c.self.inside in
    let a = c.len.ensures in
    let b = w.listed.ok.0 in
    let room = c.in_ok-reserve.ensures.ok in
    subst (KeepsRoom c.reserve.new.self) (sym c.in_ok-push.ensures.items) (raised w.numbers c.reserve.new.self w.listed.items c.self.invariant c.reserve.ensures.items (omega (arith, a, b, room)))
