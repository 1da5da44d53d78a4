use Rattle.std.proofs.Common.{◌≡◌, ◌++◌, drop, take}
use Rattle.shim_code.specs.MachineCode.{numbered}
use Rattle.shim_code.proofs.draft.Draft.finish.Given as goal

abbrev pub invariant-loop-at : goal.invariant-loop-at
invariant-loop-at l =
    (l.items.len ≡ l.at-end)
    × (take l.at l.items.items ++ numbered l.next (drop l.at l.items.items) ≡ numbered 0 l.initial.items.items)
