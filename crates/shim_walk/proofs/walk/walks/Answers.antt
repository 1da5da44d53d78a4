use Rattle.std.proofs.Common.{◌≡◌, ◌++◌, ap, sym, subst, ◌∙◌, rules}
use Rattle.shim_local.specs.Laws.{AllOf}
use Rattle.shim_process.specs.Sound.{Sound}
use Rattle.shim_walk.proofs.Sounding.{one_kept, all_kept}
use Rattle.shim_walk.proofs.walk.walks.Goals as goal

pub loop-process-init : goal.loop-process-init
loop-process-init c =
    let given : c.into_iter-process-iterator.result.rest.items ≡ c.args.processes = search rules in
    record { all = ap (λ w. w ++ c.into_iter-process-iterator.result.rest.items) c.new-walks.ensures ∙ given; sound = subst (AllOf Sound) (sym given) c.requires }

pub of-requires : goal.of-requires
of-requires c = (subst (AllOf Sound) c.in-Some.ensures.steps.0 c.loop-process.invariant.sound).0

pub loop-process-preserved : goal.loop-process-preserved
loop-process-preserved c =
    record {
      all = one_kept c.loop-process.walks c.push.new.self c.loop-process.process-iterator.rest.items c.next.new.self.rest.items _ c.in-Some.process c.of.result c.in-Some.ensures.steps.0 c.of.ensures c.in_ok-push.ensures.ok c.loop-process.invariant.all;
      sound = (subst (AllOf Sound) c.in-Some.ensures.steps.0 c.loop-process.invariant.sound).1;
    }

pub returns : goal.returns
returns c = all_kept c.loop-process.walks c.loop-process.process-iterator.rest.items _ (sym c.loop-process.process-iterator.rest.ok.0 ∙ c.in-None.ensures.steps.0) c.loop-process.invariant.all
