use Rattle.std.proofs.Common.{◌++◌, [], length, map, subst, ap, ◌∙◌}
use Rattle.shim_waits.specs.Laws.{IsBlockedTree}
use Rattle.shim_waits.specs.Rings.{IsTurned, number_ring, path_of_wait}
use Rattle.shim_waits.specs.Holding.{lives}
use Rattle.shim_waits.proofs.Explains.{walk_kept, numbers_below, as_many, all_explained}
use Rattle.shim_waits.proofs.explained.explain.Goals as goal

pub cycle_of-requires-clause-inside : goal.cycle_of-requires-clause-inside
cycle_of-requires-clause-inside g c =
    let o = g.L.Local.ops in
    let laws = (g.met.L.Local g.world.𝓛 g.world.𝓜 g.world.𝓡 ((λ s x. x), (λ x. x), (λ x. x), λ x. x)).laws in
    let t = c.args.tree.now in
    let blocked : IsBlockedTree o t = record { sound = c.quiescent-rests.ensures.sound; rests = c.requires.rests; root = c.requires.goes } in
    let kept = walk_kept o c.root.result t.root (length c.new-lives.result.items) c.new-holders.result c.gather_waiting.new.holders c.new-holders.ensures.empty c.root.ensures (ap length c.new-lives.ensures.items) c.in_ok-gather_waiting.ensures.first in
    let are = ap (λ xs. map (λ x. x.now) xs) c.as_slice.ensures.value ∙ (c.in_ok-gather_waiting.ensures.lives ∙ (ap (λ xs. map (λ x. x.now) xs ++ lives c.root.result) c.new-lives.ensures.items ∙ ap lives c.root.ensures)) in
    numbers_below o laws t blocked c.gather_waiting.new.holders kept (map (λ x. x.now) c.as_slice.result.now) are c.as_slice-3.result.now (c.as_slice-3.ensures.value ∙ c.in_ok-waits.ensures.next)

pub cycle_of-requires-clause-as_many : goal.cycle_of-requires-clause-as_many
cycle_of-requires-clause-as_many g c =
    let o = g.L.Local.ops in
    let laws = (g.met.L.Local g.world.𝓛 g.world.𝓜 g.world.𝓡 ((λ s x. x), (λ x. x), (λ x. x), λ x. x)).laws in
    let t = c.args.tree.now in
    let blocked : IsBlockedTree o t = record { sound = c.quiescent-rests.ensures.sound; rests = c.requires.rests; root = c.requires.goes } in
    let kept = walk_kept o c.root.result t.root (length c.new-lives.result.items) c.new-holders.result c.gather_waiting.new.holders c.new-holders.ensures.empty c.root.ensures (ap length c.new-lives.ensures.items) c.in_ok-gather_waiting.ensures.first in
    let are = ap (λ xs. map (λ x. x.now) xs) c.as_slice.ensures.value ∙ (c.in_ok-gather_waiting.ensures.lives ∙ (ap (λ xs. map (λ x. x.now) xs ++ lives c.root.result) c.new-lives.ensures.items ∙ ap lives c.root.ensures)) in
    as_many o laws t blocked c.gather_waiting.new.holders kept (map (λ x. x.now) c.as_slice.result.now) are c.as_slice-2.result.now c.as_slice-3.result.now (c.as_slice-2.ensures ∙ c.in_ok-waits.ensures.waits) (c.as_slice-3.ensures.value ∙ c.in_ok-waits.ensures.next)

pub returns : goal.returns
returns g c =
    let o = g.L.Local.ops in
    let laws = (g.met.L.Local g.world.𝓛 g.world.𝓜 g.world.𝓡 ((λ s x. x), (λ x. x), (λ x. x), λ x. x)).laws in
    let t = c.args.tree.now in
    let blocked : IsBlockedTree o t = record { sound = c.quiescent-rests.ensures.sound; rests = c.requires.rests; root = c.requires.goes } in
    let kept = walk_kept o c.root.result t.root (length c.new-lives.result.items) c.new-holders.result c.gather_waiting.new.holders c.new-holders.ensures.empty c.root.ensures (ap length c.new-lives.ensures.items) c.in_ok-gather_waiting.ensures.first in
    let are = ap (λ xs. map (λ x. x.now) xs) c.as_slice.ensures.value ∙ (c.in_ok-gather_waiting.ensures.lives ∙ (ap (λ xs. map (λ x. x.now) xs ++ lives c.root.result) c.new-lives.ensures.items ∙ ap lives c.root.ensures)) in
    all_explained o laws t blocked c.gather_waiting.new.holders kept (map (λ x. x.now) c.as_slice.result.now) are c.in_ok-waits.waits c.as_slice-3.result.now c.in_ok-cycle.cycle c.in_ok-waits.ensures.waits (c.as_slice-3.ensures.value ∙ c.in_ok-waits.ensures.next)
    (subst (λ z. IsTurned (path_of_wait z) (number_ring (length c.as_slice-3.result.now) c.as_slice-3.result.now [] 0) c.in_ok-cycle.cycle) c.as_slice-2.ensures c.in_ok-cycle.ensures)
