use Rattle.std.proofs.Common.{◌+◌, length-set, refl, ap, subst, ◌≡◌, ◌++◌}
use mathlib.Core.Option.{some}
use lib.ListN.{get_elem?}
use Rattle.crossbeam_deque.specs.Handles.{stealer_deque}
use Rattle.shim_steal.specs.declared.other_deque.OtherDeque.{OtherDeque}
use Rattle.shim_steal.specs.Places.{from_home}
use Rattle.shim_steal.specs.Deques.{view_of}
use Rattle.shim_steal.proofs.Lists.{map-same}
use Rattle.shim_steal.proofs.Takes.{place-there, stole, same-takes}
use Rattle.shim_steal.proofs.lane.Lane.steal.Goals as goal

pub returns-in-Some-clause-same : goal.returns-in-Some-clause-same
returns-in-Some-clause-same g c = let at = place-there _ _ _ _ _ c.place_of-place.ensures c.requires.from c.args.self.now.among c.index_mut.ensures.value in ((refl, ap (λ n. n + 1) (length-set c.args.self.now.others.items c.place_of-place.result c.take_first.new.self), refl, map-same (λ (t : OtherDeque _). stealer_deque t.deque) _ _ _ _ at c.take_first.ensures.same), refl)

pub returns-in-None-clause-same : goal.returns-in-None-clause-same
returns-in-None-clause-same g c = let at = place-there _ _ _ _ _ c.place_of-place.ensures c.requires.from c.args.self.now.among c.index_mut.ensures.value in ((refl, ap (λ n. n + 1) (length-set c.args.self.now.others.items c.place_of-place.result c.take_first.new.self), refl, map-same (λ (t : OtherDeque _). stealer_deque t.deque) _ _ _ _ at c.take_first.ensures.same), refl)

pub returns-in-Some-clause-taken : goal.returns-in-Some-clause-taken
returns-in-Some-clause-taken g c = let at = place-there _ _ _ _ _ c.place_of-place.ensures c.requires.from c.args.self.now.among c.index_mut.ensures.value in (refl, stole _ _ (from_home c.args.self.now.home (view_of c.args.self.now.own).taken) _ _ _ _ _ _ c.place_of-place.ensures c.requires.from.0 at c.in-Some.ensures.taken)

pub returns-in-None-clause-taken : goal.returns-in-None-clause-taken
returns-in-None-clause-taken g c = let at = place-there _ _ _ _ _ c.place_of-place.ensures c.requires.from c.args.self.now.among c.index_mut.ensures.value in
    (ap (λ l. from_home c.args.self.now.home (view_of c.args.self.now.own).taken ++ l) (same-takes c.args.self.now.home 0 c.args.self.now.others.items c.place_of-place.result c.index_mut.result.now c.take_first.new.self at c.in-None.ensures.taken.0), (c.index_mut.result.now, subst (λ i. get_elem? c.args.self.now.others.items i ≡ some c.index_mut.result.now) c.place_of-place.ensures at, c.in-None.ensures.taken.1))
