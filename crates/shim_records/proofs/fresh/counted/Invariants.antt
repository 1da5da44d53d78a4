use Rattle.std.proofs.Common.{◌≡◌, ◌≤◌, ◌+◌, ◌&&◌, not, drop}
use Rattle.shim_local.specs.Laws.{how_many}
use Rattle.shim_semantics.specs.Nodes.{is_next}
use Rattle.shim_records.specs.Fresh.{SharingSoFar}
use Rattle.shim_records.proofs.fresh.counted.Given as goal

abbrev pub invariant-loop-i : goal.invariant-loop-i
invariant-loop-i g l =
    let o = g.L.Local.ops in
    let c = l.chan.channel in
    (l.going + how_many (λ s. o.shares s c) (drop l.i l.children) ≡ how_many (λ s. o.shares s c) l.children)
    × (l.not_ready + how_many (λ s. o.shares s c && not (is_next (o.stop s) c)) (drop l.i l.children) ≡ how_many (λ s. o.shares s c && not (is_next (o.stop s) c)) l.children)
    × (l.going ≤ l.i) × (l.not_ready ≤ l.i)
    × SharingSoFar o c l.children l.i l.sharing
