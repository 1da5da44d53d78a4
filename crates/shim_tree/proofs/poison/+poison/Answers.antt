use Rattle.std.proofs.Common.{rules, ◌∙◌, ◌<◌, sym, ap, arith, length}
use Rattle.std.proofs.lemmas.Result.{on_ok_weaker, on_err_weaker}
use Rattle.shim_tree.specs.NodeStatus.{together, nodes}
use Rattle.shim_semantics.specs.Poison.{above}
use Rattle.shim_tree.specs.Poisoning.{poison_among}
use Rattle.shim_tree.proofs.Fills.{same_place, same_fork}
use Rattle.shim_tree.proofs.Poisonings.{descent_there, descent_none, descent_some, fork_leads, fork_poisoned}
use Rattle.shim_tree.proofs.poison.+poison.Goals as goal

pub poison_at-poison_among-requires : goal.poison_at-poison_among-requires
poison_at-poison_among-requires g t c κs within =
    let o = g.L.Local.ops in
    let ch = c.args.chan.now.channel in
    let i = c.args.place in
    let x = c.in-Some.first.now in
    let p = c.in-Some.rest.now in
    let n = ap length c.in-Some.ensures.cases.0 in (
      search rules,
      (
        search rules,
        (
          search rules,
          λ z. c.requires.enabled (fork_leads o ch c.args.process.now c.args.status.now c.in-Forked.processes c.in-Forked.statuses i x p c.args.pairs.now c.in-Forked.is c.in-Some.ensures.cases.0
              ∙ ap (above c.args.process.now) ((λ u. poison_among o ch i x.1 p (together (sym c.in-Forked.processes-is u).items (nodes (sym c.in-Forked.statuses-is u).items))) ∙ z)),
        ),
      ),
    )

pub poison_at-returns-in-Forked-clause-ok : goal.poison_at-returns-in-Forked-clause-ok
poison_at-returns-in-Forked-clause-ok g t c =
    let o = g.L.Local.ops in
    let ch = c.args.chan.now.channel in
    let i = c.args.place in
    let x = c.in-Some.first.now in
    let p = c.in-Some.rest.now in
    on_ok_weaker c.poison_among.result
    (λ h. fork_poisoned o ch c.args.process.now c.args.status.now c.in-Forked.processes _ c.in-Forked.statuses _ i x p c.args.pairs.now c.in-Forked.is c.in-Some.ensures.cases.0
    ((λ u. poison_among o ch i x.1 p (together (sym c.in-Forked.processes-is u).items (nodes (sym c.in-Forked.statuses-is u).items))) ∙ h))
    c.poison_among.ensures.ok

pub poison_at-returns-in-Forked-clause-err : goal.poison_at-returns-in-Forked-clause-err
poison_at-returns-in-Forked-clause-err g t c =
    on_err_weaker c.poison_among.result
    (λ h. same_fork c.args.process.now c.args.status.now c.in-Forked.processes _ c.in-Forked.statuses _ c.in-Forked.is (h ∙ λ u. together (c.in-Forked.processes-is u).items (nodes (c.in-Forked.statuses-is u).items)))
    c.poison_among.ensures.err

pub poison_among-index-requires : goal.poison_among-index-requires
poison_among-index-requires g t c =
    let there = descent_there g.L.Local.ops c.args.chan.now.channel c.args.place c.args.next c.args.pairs.now c.args.processes.now.items (nodes c.args.statuses.now.items) c.requires.enabled in
    let k = c.args.processes.now.ok.0 in
    omega (arith, there, k)

pub poison_among-index_mut-requires : goal.poison_among-index_mut-requires
poison_among-index_mut-requires g t c =
    let there = descent_there g.L.Local.ops c.args.chan.now.channel c.args.place c.args.next c.args.pairs.now c.args.processes.now.items (nodes c.args.statuses.now.items) c.requires.enabled in
    let k = c.args.processes.now.ok.0 in
    let long = c.in_ok-fill_to.ensures.ok in
    let e = c.len.ensures in
    omega (arith, there, k, long, e)

pub poison_among-poison_at-requires : goal.poison_among-poison_at-requires
poison_among-poison_at-requires g t c κs within =
    let o = g.L.Local.ops in
    let ch = c.args.chan.now.channel in
    let i = c.args.place in
    let j = c.args.next in
    let p = c.args.pairs.now in
    let ls = c.args.processes.now in
    let bs = c.fill_to.new.statuses in
    let there = descent_there o ch i j p ls.items (nodes c.args.statuses.now.items) c.requires.enabled in
    let effects : i < length bs.items = let long = c.in_ok-fill_to.ensures.ok in let e = c.len.ensures in let m = ls.ok.0 in let k = bs.ok.0 in omega (arith, there, long, e, m, k) in (
      search rules,
      (
        search rules,
        (
          search rules,
          λ z. c.requires.enabled (ap (poison_among o ch i j p) (sym (c.in_ok-fill_to.ensures.same ls.items))
              ∙ descent_none o ch i j p ls.items bs.items c.index.result.now c.index_mut.result.now there effects c.index.ensures c.index_mut.ensures.value z),
        ),
      ),
    )

pub poison_among-returns-clause-err : goal.poison_among-returns-clause-err
poison_among-returns-clause-err g t c =
    let i = c.args.place in
    let ls = c.args.processes.now in
    let bs = c.fill_to.new.statuses in
    let there = descent_there g.L.Local.ops c.args.chan.now.channel i c.args.next c.args.pairs.now ls.items (nodes c.args.statuses.now.items) c.requires.enabled in
    let effects : i < length bs.items = let long = c.in_ok-fill_to.ensures.ok in let e = c.len.ensures in let m = ls.ok.0 in let k = bs.ok.0 in omega (arith, there, long, e, m, k) in
    on_err_weaker c.poison_at.result
    (λ n. same_place i ls.items bs.items c.index.result.now c.index_mut.result.now c.poison_at.new.status there effects c.index.ensures c.index_mut.ensures.value n ∙ c.in_ok-fill_to.ensures.same ls.items)
    c.poison_at.ensures.err

pub poison_among-returns-clause-ok : goal.poison_among-returns-clause-ok
poison_among-returns-clause-ok g t c =
    let o = g.L.Local.ops in
    let ch = c.args.chan.now.channel in
    let i = c.args.place in
    let j = c.args.next in
    let p = c.args.pairs.now in
    let ls = c.args.processes.now in
    let bs = c.fill_to.new.statuses in
    let there = descent_there o ch i j p ls.items (nodes c.args.statuses.now.items) c.requires.enabled in
    let effects : i < length bs.items = let long = c.in_ok-fill_to.ensures.ok in let e = c.len.ensures in let m = ls.ok.0 in let k = bs.ok.0 in omega (arith, there, long, e, m, k) in
    on_ok_weaker c.poison_at.result
    (λ n. ap (poison_among o ch i j p) (sym (c.in_ok-fill_to.ensures.same ls.items))
    ∙ descent_some o ch i j p ls.items bs.items c.index.result.now c.index_mut.result.now c.poison_at.new.status there effects c.index.ensures c.index_mut.ensures.value n)
    c.poison_at.ensures.ok
