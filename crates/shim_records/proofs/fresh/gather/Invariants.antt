use Rattle.std.proofs.Common.{◌≡◌, ◌++◌, drop}
use Rattle.shim_records.specs.Fresh.{shared_of}
use Rattle.shim_records.proofs.fresh.gather.Given as goal

abbrev pub invariant-loop-at : goal.invariant-loop-at
invariant-loop-at g l =
    let o = g.L.Local.ops in
    l.chans.items ++ shared_of o l.parent (drop l.at (o.given l.child)) ≡ l.initial.chans.items ++ shared_of o l.parent (o.given l.child)
