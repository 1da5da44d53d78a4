use Rattle.std.proofs.Common.{rules, ◌∙◌, sym, subst}
use Rattle.shim_tree.specs.NodeStatus.{node}
use Rattle.shim_tree.specs.Acting.{effects_of}
use Rattle.shim_tree.proofs.Children.{forked_born}
use Rattle.shim_tree.proofs.Exceptions.{close_goes_on, close_throws, close_in_force}
use Rattle.shim_tree.proofs.act.act_alone.Goals as goal

pub take_back-requires : goal.take_back-requires
take_back-requires g c =
    let o = g.L.Local.ops in
    let l = c.args.process.now in
    (search rules, subst (o.born l) (sym (c.as_slice.ensures.value ∙ λ t. (c.in-Forked.processes-is t).items)) (forked_born o l c.args.status.now c.in-Forked.processes c.in-Forked.statuses c.in-Forked.is c.requires.sound))

pub returns-in-None-clause-ok : goal.returns-in-None-clause-ok
returns-in-None-clause-ok g c =
    close_goes_on g.L.Local.ops c.args.process.now c.take_back.new.process c.args.status.now c.in-Forked.processes c.in-Forked.statuses c.as_slice.result.now c.as_slice-in-Forked.result.now c.take_back.result
    c.in-Forked.is (c.as_slice.ensures.value ∙ λ t. (c.in-Forked.processes-is t).items) (c.as_slice-in-Forked.ensures.value ∙ λ t. (c.in-Forked.statuses-is t).items)
    c.take_back.ensures.death c.take_back.ensures.joined c.requires.acts c.in-None.is

pub throw-requires : goal.throw-requires
throw-requires g c =
    let laws = (g.met.L.Local g.world.𝓛 g.world.𝓜 g.world.𝓡 ((λ s x. x), (λ x. x), (λ x. x), λ x. x)).laws in (
      search rules,
      close_in_force g.L.Local.ops c.args.process.now c.take_back.new.process c.args.status.now c.in-Forked.processes c.in-Forked.statuses c.as_slice.result.now c.as_slice-in-Forked.result.now c.take_back.result
          c.in-Forked.is (c.as_slice.ensures.value ∙ λ t. (c.in-Forked.processes-is t).items) (c.as_slice-in-Forked.ensures.value ∙ λ t. (c.in-Forked.statuses-is t).items)
          c.take_back.ensures.death c.take_back.ensures.joined laws c.requires.sound c.in-Some.death c.in-Some.is,
    )

pub returns-in-Some-clause-ok : goal.returns-in-Some-clause-ok
returns-in-Some-clause-ok g c =
    close_throws g.L.Local.ops c.args.process.now c.take_back.new.process c.args.status.now c.in-Forked.processes c.in-Forked.statuses c.as_slice.result.now c.as_slice-in-Forked.result.now c.take_back.result
    c.in-Forked.is (c.as_slice.ensures.value ∙ λ t. (c.in-Forked.processes-is t).items) (c.as_slice-in-Forked.ensures.value ∙ λ t. (c.in-Forked.statuses-is t).items)
    c.take_back.ensures.death c.take_back.ensures.joined c.in-Some.death (effects_of c.throw.result) (node c.throw.new.process c.throw.new.status) c.requires.acts c.in-Some.is c.throw.ensures
