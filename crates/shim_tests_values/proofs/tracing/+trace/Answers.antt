use Rattle.std.proofs.Common.{◌≡◌, List, subst}
use Rattle.std.proofs.lemmas.Result.{on_ok_weaker}
use Rattle.shim_local.specs.Process.{Parted}
use Rattle.shim_local.specs.Laws.{AllOf}
use Rattle.shim_local.specs.Views.{ForkGives}
use Rattle.shim_tests_values.specs.Kept.{StaysChild, StayChildren}
use Rattle.shim_tests_values.proofs.Keeping.{fork_and_join, stays_then, one_moved, stay_then}
use Rattle.shim_tests_values.proofs.tracing.+trace.Goals as goal

pub fork-returns-in_ok-extend_from_slice-in-Children : goal.fork-returns-in_ok-extend_from_slice-in-Children
fork-returns-in_ok-extend_from_slice-in-Children g t c =
    let o = g.L.Local.ops in
    let laws = (g.met.L.Local g.world.𝓛 g.world.𝓜 g.world.𝓡 ((λ s x. x), (λ x. x), (λ x. x), λ x. x)).laws in
    let parts : o.fork c.args.process.now ≡ Parted c.fork.new.self c.in-Children.children = subst (λ f. ForkGives o c.args.process.now c.fork.new.self f) c.in-Children.is c.in_ok-fork.ensures.ok in
    let stay : StayChildren o c.into_vec-children.result.items c.trace_all.new.children.items = c.in_ok-least-in-Children.ensures in
    let sounds : AllOf o.sound c.trace_all.new.children.items = subst (AllOf o.sound) c.as_slice.ensures.value c.are_sound.ensures in
    let joins : c.join.new.self ≡ o.join c.fork.new.self c.trace_all.new.children.items c.is_none.result = subst (λ ks. c.join.new.self ≡ o.join c.fork.new.self ks c.is_none.result) c.as_slice-in-Children.ensures.value c.join.ensures in
    let joined : StaysChild o c.args.process.now c.join.new.self =
    fork_and_join o laws _ _ _ _ _ _ c.path-path.ensures.sound c.requires parts (subst (λ ks. StayChildren o ks c.trace_all.new.children.items) c.into_vec-children.ensures stay) sounds joins in
    on_ok_weaker c.come_back.result (stays_then o joined) c.come_back.ensures

pub trace_all-loop-at-preserved : goal.trace_all-loop-at-preserved
trace_all-loop-at-preserved g t c =
    stay_then g.L.Local.ops c.loop-at.invariant
    (one_moved g.L.Local.ops c.in-Some.child.now c.trace.new.process c.loop-at.children.items c.loop-at.at c.in-Some.ensures.item.3.0 c.in-Some.ensures.value c.in_ok-fate.ensures)
