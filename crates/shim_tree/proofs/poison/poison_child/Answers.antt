use Rattle.std.proofs.Common.{◌∙◌, ◌<◌, ap, arith, length}
use Rattle.std.proofs.lemmas.Result.{on_ok_weaker, on_err_weaker}
use Rattle.shim_semantics.specs.Nodes.{death}
use Rattle.shim_semantics.specs.Poison.{one_poisoned}
use Rattle.shim_tree.proofs.Fills.{same_place}
use Rattle.shim_tree.proofs.Poisonings.{one_there}
use Rattle.shim_tree.proofs.poison.poison_child.Goals as goal

pub index-requires : goal.index-requires
index-requires g c = let there = c.requires.there in let k = c.args.processes.now.ok.0 in omega (arith, there, k)

pub index_mut-requires : goal.index_mut-requires
index_mut-requires g c =
    let there = c.requires.there in
    let k = c.args.processes.now.ok.0 in
    let long = c.in_ok-fill_to.ensures.ok in
    let e = c.len.ensures in
    omega (arith, there, k, long, e)

pub returns-clause-ok : goal.returns-clause-ok
returns-clause-ok g c =
    let o = g.L.Local.ops in
    let ch = c.args.chan.now.channel in
    let i = c.args.place in
    let ls = c.args.processes.now in
    let bs = c.fill_to.new.statuses in
    let there = c.requires.there in
    let effects : i < length bs.items = let long = c.in_ok-fill_to.ensures.ok in let e = c.len.ensures in let j = ls.ok.0 in let k = bs.ok.0 in omega (arith, there, long, e, j, k) in
    on_ok_weaker c.poison_below.result
    (λ n. one_there o ch (death c.args.label) i ls.items bs.items c.index.result.now c.index_mut.result.now c.poison_below.new.status there effects c.index.ensures c.index_mut.ensures.value n
    ∙ ap (one_poisoned o ch (death c.args.label) i) (c.in_ok-fill_to.ensures.same ls.items))
    c.poison_below.ensures.ok

pub returns-clause-err : goal.returns-clause-err
returns-clause-err g c =
    let i = c.args.place in
    let ls = c.args.processes.now in
    let bs = c.fill_to.new.statuses in
    let there = c.requires.there in
    let effects : i < length bs.items = let long = c.in_ok-fill_to.ensures.ok in let e = c.len.ensures in let j = ls.ok.0 in let k = bs.ok.0 in omega (arith, there, long, e, j, k) in
    on_err_weaker c.poison_below.result
    (λ n. same_place i ls.items bs.items c.index.result.now c.index_mut.result.now c.poison_below.new.status there effects c.index.ensures c.index_mut.ensures.value n ∙ c.in_ok-fill_to.ensures.same ls.items)
    c.poison_below.ensures.err
