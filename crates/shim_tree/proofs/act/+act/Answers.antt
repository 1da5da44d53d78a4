use Rattle.std.proofs.Common.{rules, ◌≡◌, ◌∙◌, sym, ap, subst, arith, length, slice_set, ◌∷◌}
use Rattle.std.proofs.lemmas.Result.{IfOk-weaker, on_err_weaker}
use Rattle.shim_semantics.specs.Acts.{act, act_child}
use Rattle.shim_semantics.specs.Places.{branches}
use Rattle.shim_tree.specs.NodeStatus.{together, nodes, node}
use Rattle.shim_tree.specs.Acting.{effects_of, ActsAt, ActsAmong, SoundAmong}
use Rattle.shim_tree.proofs.Children.{child_there, place_of, acts_none, acts_some, acts_same, sound_child, forked_among, forked_acts}
use Rattle.shim_tree.proofs.act.+act.Goals as goal

pub act_at-act_child-requires : goal.act_at-act_child-requires
act_at-act_child-requires g t c κs within =
    let o = g.L.Local.ops in
    let i = c.in-Some.first.now.1 in
    let q = branches c.in-Some.rest.now in
    let n = node c.args.process.now c.args.status.now in
    let e : branches c.args.pairs.now ≡ i ∷ q = ap branches c.in-Some.ensures.cases.0 in
    let l = ap length c.in-Some.ensures.cases.0 in (
      search rules,
      (
        search rules,
        (
          search rules,
          (
            subst (SoundAmong o) (λ u. together (sym c.in-Forked.processes-is u).items (nodes (sym c.in-Forked.statuses-is u).items)) (forked_among o c.args.process.now c.args.status.now c.in-Forked.processes c.in-Forked.statuses c.in-Forked.is c.requires.sound),
            λ z. forked_acts o c.args.process.now c.args.status.now c.in-Forked.processes c.in-Forked.statuses i q c.in-Forked.is (λ y. c.requires.acts (ap (λ w. act o w n) e ∙ y))
                ((λ u. act_child o i q (together (sym c.in-Forked.processes-is u).items (nodes (sym c.in-Forked.statuses-is u).items))) ∙ z),
          ),
        ),
      ),
    )

pub act_child-index_mut-requires : goal.act_child-index_mut-requires
act_child-index_mut-requires g t c =
    let there = child_there g.L.Local.ops c.args.place (branches c.args.pairs.now) c.args.processes.now.items (nodes c.args.statuses.now.items) c.requires.acts in
    let k = c.args.processes.now.ok.0 in
    omega arith

pub act_child-index_mut-requires-2 : goal.act_child-index_mut-requires-2
act_child-index_mut-requires-2 g t c =
    let p = place_of g.L.Local.ops c.args.place (branches c.args.pairs.now) c.args.processes.now.items c.deref.result.now c.args.statuses.now.items c.fill.new.statuses c.requires.acts c.deref.ensures.value c.in_ok-fill.ensures.same c.in_ok-fill.ensures.ok in
    let effects = p.inside in
    let k = c.fill.new.statuses.ok.0 in
    omega arith

pub act_child-act_at-requires : goal.act_child-act_at-requires
act_child-act_at-requires g t c κs within =
    let o = g.L.Local.ops in
    let ls = c.args.processes.now.items in
    let bs = c.fill.new.statuses.items in
    let i = c.args.place in
    let q = branches c.args.pairs.now in
    let p = place_of o i q ls c.deref.result.now c.args.statuses.now.items c.fill.new.statuses c.requires.acts c.deref.ensures.value c.in_ok-fill.ensures.same c.in_ok-fill.ensures.ok in (
      search rules,
      (
        search rules,
        (
          search rules,
          (
            sound_child o i ls bs c.index_mut.result.now c.index_mut-2.result.now p.there p.inside c.index_mut.ensures.value c.index_mut-2.ensures.value (subst (SoundAmong o) (sym p.same) c.requires.sound),
            λ e. c.requires.acts (ap (act_child o i q) (sym p.same) ∙ acts_none o i q ls bs c.index_mut.result.now c.index_mut-2.result.now p.there p.inside c.index_mut.ensures.value c.index_mut-2.ensures.value e),
          ),
        ),
      ),
    )

pub act_child-returns-clause-err : goal.act_child-returns-clause-err
act_child-returns-clause-err g t c =
    let o = g.L.Local.ops in
    let ls = c.args.processes.now.items in
    let bs = c.fill.new.statuses.items in
    let i = c.args.place in
    let p = place_of o i (branches c.args.pairs.now) ls c.deref.result.now c.args.statuses.now.items c.fill.new.statuses c.requires.acts c.deref.ensures.value c.in_ok-fill.ensures.same c.in_ok-fill.ensures.ok in
    on_err_weaker c.act_at.result
    (λ e. acts_same i ls bs c.index_mut.result.now c.act_at.new.process c.index_mut-2.result.now c.act_at.new.status p.there p.inside c.index_mut.ensures.value c.index_mut-2.ensures.value e ∙ p.same)
    c.act_at.ensures.err

pub act_child-returns-clause-ok : goal.act_child-returns-clause-ok
act_child-returns-clause-ok g t c =
    let o = g.L.Local.ops in
    let ls = c.args.processes.now.items in
    let bs = c.fill.new.statuses.items in
    let i = c.args.place in
    let q = branches c.args.pairs.now in
    let p = place_of o i q ls c.deref.result.now c.args.statuses.now.items c.fill.new.statuses c.requires.acts c.deref.ensures.value c.in_ok-fill.ensures.same c.in_ok-fill.ensures.ok in
    IfOk-weaker c.act_at.result
    (λ effects. ActsAt o q (node c.index_mut.result.now c.index_mut-2.result.now) (effects_of effects) (node c.act_at.new.process c.act_at.new.status))
    (λ effects. ActsAmong o i q (together ls (nodes c.args.statuses.now.items)) (effects_of effects) (together (slice_set ls i c.act_at.new.process) (nodes (slice_set bs i c.act_at.new.status))))
    (λ effects e. ap (act_child o i q) (sym p.same)
    ∙ acts_some o i q ls bs c.index_mut.result.now c.act_at.new.process c.index_mut-2.result.now c.act_at.new.status (effects_of effects) p.there p.inside c.index_mut.ensures.value c.index_mut-2.ensures.value e)
    c.act_at.ensures.ok
