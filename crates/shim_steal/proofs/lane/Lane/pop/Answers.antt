use Rattle.std.proofs.Common.{◌≡◌, true, false, true≢false, length, refl, ap, arith}
use Rattle.shim_steal.specs.declared.view.View.{View}
use Rattle.shim_steal.proofs.Takes.{took-own}
use Rattle.shim_steal.proofs.Alone.{took-all, not-all}
use Rattle.shim_steal.proofs.lane.Lane.pop.Goals as goal

pub returns-in-Some-clause-taken : goal.returns-in-Some-clause-taken
returns-in-Some-clause-taken g c = (refl, took-own _ _ _ _ _ _ _ (ap (λ (v : View _). v.taken) c.in-Some.ensures.taken.0) refl)

pub returns-in-Some-clause-alone : goal.returns-in-Some-clause-alone
returns-in-Some-clause-alone g c = λ one. let none : length c.args.self.now.others.items ≡ 0 = omega arith in ((λ (e : true ≡ false). absurd (true≢false e)), λ all. absurd (not-all _ _ _ c.args.self.now.others.items _ c.in-Some.ensures.taken (c.args.self.now.alone none) all))

pub returns-in-None-clause-alone : goal.returns-in-None-clause-alone
returns-in-None-clause-alone g c = λ one. let none : length c.args.self.now.others.items ≡ 0 = omega arith in ((λ _ n x at. took-all _ _ c.args.self.now.others.items c.in-None.ensures.taken.1 (c.args.self.now.alone none) n x at), λ _. refl)
