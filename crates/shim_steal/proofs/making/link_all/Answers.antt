use Rattle.std.proofs.Common.{rules, ◌≡◌, ◌<◌, ◌+◌, length, slice_set, sym, refl, subst, arith}
use Rattle.shim_steal.specs.Making.{AreLinked}
use Rattle.shim_steal.proofs.Lists.{at-place}
use Rattle.shim_steal.proofs.Linking.{none-linked, next-linked}
use Rattle.shim_steal.proofs.making.link_all.Goals as goal

pub loop-home-init : goal.loop-home-init
loop-home-init g c = (subst (AreLinked (length c.args.all.now.items) 0 c.args.all.now.items c.args.deque.now) (sym c.in_ok-others.ensures.items) (none-linked _ _ _ refl c.requires.lanes c.requires.new), search rules, omega arith)

pub loop-home-preserved : goal.loop-home-preserved
loop-home-preserved g c = let i = c.loop-home.invariant in let inside : c.loop-home.home < length c.loop-home.all.items = (let t = c.loop-home-test.true in let e = i.1 in let k = i.0.count in omega arith) in (
  subst (AreLinked (length c.args.all.now.items) (c.loop-home.home + 1) (slice_set c.loop-home.all.items c.loop-home.home c.link.new.lane) c.link.new.deque) (sym c.in_ok-push.ensures.items)
      (next-linked _ c.loop-home.home c.loop-home.all.items c.loop-home.deque c.link.new.deque c.loop-home.others.items c.index_mut.result.now c.link.new.lane c.in_ok-link.field-0 i.0 (at-place _ _ _ inside c.index_mut.ensures.value) c.in_ok-link.ensures.linked),
  search rules,
  search rules,
)

pub returns : goal.returns
returns g c = let i = c.loop-home.invariant in let stop : c.loop-home.home ≡ length c.args.all.now.items = (let f = c.loop-home-test.false in let e = i.1 in let k = i.2 in omega arith) in record {
  linked = subst (λ k. AreLinked (length c.args.all.now.items) k c.loop-home.all.items c.loop-home.deque c.loop-home.others.items) stop i.0;
}
