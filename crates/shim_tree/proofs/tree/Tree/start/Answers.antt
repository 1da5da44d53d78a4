use Rattle.std.proofs.Common.{refl, sym, subst}
use Rattle.shim_semantics.specs.Sound.{IsSound}
use Rattle.shim_tree.specs.Advancing.{AllHaveCounts}
use Rattle.shim_tree.proofs.Children.{node_live}
use Rattle.shim_semantics.proofs.SoundEvents.{events_keep_sound}
use Rattle.shim_semantics.proofs.Counting.{none_counted}
use Rattle.shim_tree.proofs.Happens.{first_placed, started}
use Rattle.shim_tree.proofs.tree.Tree.start.Goals as goal

pub invariant_of-result : goal.invariant_of-result
invariant_of-result g c =
    let o = g.L.Local.ops in
    let laws = (g.met.L.Local g.world.𝓛 g.world.𝓜 g.world.𝓡 ((λ s x. x), (λ x. x), (λ x. x), λ x. x)).laws in
    let l = c.args.root in
    subst (λ n. IsSound o n × AllHaveCounts o c.reserve.new.self n) (sym (node_live l))
    ((events_keep_sound o laws).starts l c.path.ensures.sound c.requires.own, first_placed o l c.new-counts.result c.reserve.new.self c.path.result.now c.path.ensures.path c.in_ok-reserve.ensures.ok)

pub returns-clause-tree : goal.returns-clause-tree
returns-clause-tree g c =
    started c.args.root _ (node_live c.args.root) c.new.ensures.items c.new-2.ensures c.new-3.result.items c.new-3.ensures.items c.new-counts.result c.reserve.new.self c.path.result.now c.new-counts.ensures c.in_ok-reserve.ensures.ok refl refl refl

pub returns-clause-fresh : goal.returns-clause-fresh
returns-clause-fresh g c =
    none_counted c.args.root _
    (started c.args.root _ (node_live c.args.root) c.new.ensures.items c.new-2.ensures c.new-3.result.items c.new-3.ensures.items c.new-counts.result c.reserve.new.self c.path.result.now c.new-counts.ensures c.in_ok-reserve.ensures.ok refl refl refl)
