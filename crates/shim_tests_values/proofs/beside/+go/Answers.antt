use Rattle.std.proofs.Common.{sym, subst}
use Rattle.std.proofs.lemmas.Result.{on_ok_weaker}
use Rattle.shim_tests_values.specs.Kept.{StaysChild}
use Rattle.shim_tests_values.proofs.Keeping.{stay_then, one_moved, stays_then}
use Rattle.shim_tests_values.proofs.Options.{of_some}
use Rattle.shim_tests_values.proofs.beside.+go.Goals as goal

pub go_all-loop-at-preserved : goal.go_all-loop-at-preserved
go_all-loop-at-preserved g t c = (
  stay_then g.A.Local.ops c.loop-at.invariant.0
      (one_moved g.A.Local.ops c.in-Some.one.now c.go.new.one c.loop-at.ones.items c.loop-at.at c.in-Some.ensures.item.3.0 c.in-Some.ensures.value c.in_ok-fate.ensures.0),
  stay_then g.B.Local.ops c.loop-at.invariant.1
      (one_moved g.B.Local.ops c.in-Some-get_mut.other.now c.go.new.other c.loop-at.others.items c.loop-at.at c.in-Some-get_mut.ensures.item.3.0 c.in-Some-get_mut.ensures.value c.in_ok-fate.ensures.1),
)

pub fork-take_back-requires-after_bounds : goal.fork-take_back-requires-after_bounds
fork-take_back-requires-after_bounds g t c κs within =
    subst (λ ks. g.A.Local.ops.born c.children_of.new.process ks) (sym c.as_slice.ensures.value)
    (c.in_ok-least.ensures.0 c.children_of.new.process (of_some _ _ _ _ c.in-Some-Some.is-0 c.in_ok-ones.ensures.born))

pub fork-take_back-requires-2-after_bounds : goal.fork-take_back-requires-2-after_bounds
fork-take_back-requires-2-after_bounds g t c κs within =
    subst (λ ks. g.B.Local.ops.born c.children_of-2.new.process ks) (sym c.as_slice-2.ensures.value)
    (c.in_ok-least.ensures.1 c.children_of-2.new.process (of_some _ _ _ _ c.in-Some-Some.is-1 c.in_ok-others.ensures.born))

pub fork-returns : goal.fork-returns
fork-returns g t c =
    let one = stays_then g.A.Local.ops c.in_ok-ones.ensures.stays c.take_back.ensures in
    let other = stays_then g.B.Local.ops c.in_ok-others.ensures.stays c.take_back-2.ensures in
    on_ok_weaker c.come_back.result
    (λ (h : StaysChild g.A.Local.ops c.take_back.new.process c.come_back.new.one × StaysChild g.B.Local.ops c.take_back-2.new.process c.come_back.new.other).
    (stays_then g.A.Local.ops one h.0, stays_then g.B.Local.ops other h.1)) c.come_back.ensures
