use Rattle.std.proofs.Common.{rules, ◌≡◌, ◌≤◌, ◌+◌, ◌-◌, refl, ap, subst, ◌∙◌, arith}
use Rattle.std.specs.Prelude.{map, min}
use Rattle.shim_local.specs.Pieces.{FewerWithCause}
use Rattle.shim_semantics.specs.Trees.{steps}
use Rattle.shim_semantics.specs.Quiets.{Advances}
use Rattle.shim_laws_table.specs.NodeStatus.{lives}
use Rattle.shim_run_state.specs.RunStates.{tree_in}
use Rattle.shim_net.specs.Entries.{entry_of}
use Rattle.shim_net.specs.Nets.{reserved_in}
use Rattle.shim_net.specs.Absorbing.{with_piece}
use Rattle.shim_net.proofs.Granting.{gives_none}
use Rattle.shim_net.proofs.CheckingOut.{same_net, still_out, passed_out, passed_home, none_home, is_home}
use Rattle.shim_net.proofs.InPlace.{keeps_steps, does_steps}
use Rattle.shim_net.proofs.net.Net.enter_and_step.Goals as goal

pub returns-in_default-clause-ok : goal.returns-in_default-clause-ok
returns-in_default-clause-ok g c =
    let o = g.L.Local.ops in
    let i = c.self.inside in
    let v = c.next_quiet.new.self in
    let none = none_home o i.tree i.grants.items c.self.invariant.3 c.in_default.ensures.1 in
    gives_none o c.args.self.now i.root.value i.budget (tree_in o i.tree) (tree_in o v) (map entry_of i.journal.items) i.grants.items c.self.view_is c.in_default.ensures.0.tree none

pub invariant_of-self-in_err-reserve : goal.invariant_of-self-in_err-reserve
invariant_of-self-in_err-reserve g c =
    let o = g.L.Local.ops in
    let i = c.self.inside in
    let v = c.next_quiet.new.self in
    let same = c.in-Some.ensures.0 in (
      same_net o i.root.value i.budget (tree_in o i.tree) (tree_in o v) (map entry_of i.journal.items) (map entry_of c.reserve.new.self.items) i.grants.items i.grants.items same.tree (ap (map entry_of) c.in_err-reserve.ensures.items) refl c.self.invariant.0,
      c.self.invariant.1,
      search rules,
      passed_out o i.tree v i.grants.items i.grants.items same refl c.self.invariant.3,
    )

pub invariant_of-self-in_err-path : goal.invariant_of-self-in_err-path
invariant_of-self-in_err-path g c =
    let o = g.L.Local.ops in
    let i = c.self.inside in
    let v = c.next_quiet.new.self in
    let same = c.in-Some.ensures.0 in (
      same_net o i.root.value i.budget (tree_in o i.tree) (tree_in o v) (map entry_of i.journal.items) (map entry_of c.reserve.new.self.items) i.grants.items i.grants.items same.tree (ap (map entry_of) c.in_ok-reserve.ensures.items) refl c.self.invariant.0,
      c.self.invariant.1,
      search rules,
      passed_out o i.tree v i.grants.items i.grants.items same refl c.self.invariant.3,
    )

pub invariant_of-self-2 : goal.invariant_of-self-2
invariant_of-self-2 g c =
    let law = (g.met.L.Local g.world.𝓛 g.world.𝓜 g.world.𝓡 ((λ s x. x), (λ x. x), (λ x. x), λ x. x)).laws in
    let o = g.L.Local.ops in
    let i = c.self.inside in
    let v = c.next_quiet.new.self in
    let u = c.step-burst.new.self in
    let k = c.left_in-left.ensures.keeps in
    let same = c.in-Some.ensures.0 in
    let number = c.in-Some.number in
    let l = c.in-Some.ensures.1.0 in
    let next = c.in-Some.ensures.1.1 in
    let at = passed_home o i.tree v number l same next in
    let steps_in = c.step-burst.ensures l at in
    let home = is_home o law i.tree k i.grants.items c.self.invariant.3 number l next in
    let burst = c.step-burst.result in
    let left : c.left_in-left.result ≡ i.budget - (steps (tree_in o i.tree) + reserved_in i.grants.items) = c.left_in-left.ensures.left ∙ ap (λ z. i.budget - (steps (tree_in o i.tree) + z)) c.self.invariant.1 in
    let some_left : 1 ≤ i.budget - (steps (tree_in o i.tree) + reserved_in i.grants.items) = omega (arith, left, c.if-left-eq0.false) in
    let is_min : c.min.result ≡ min c.args.most (i.budget - (steps (tree_in o i.tree) + reserved_in i.grants.items)) = c.min.ensures ∙ ap (min c.args.most) left in
    let within = subst (λ z. burst.taken ≤ z) is_min steps_in.within in
    let fewer = subst (λ z. FewerWithCause o burst.taken z burst.short steps_in.last) is_min steps_in.fewer in
    let advances = subst (λ t. Advances o (o.path l) burst.taken t (tree_in o u)) same.tree steps_in.advances in
    let checked_out = still_out o v u i.grants.items (passed_out o i.tree v i.grants.items i.grants.items same refl c.self.invariant.3) steps_in.same in
    let path : c.in_ok-path.path ≡ o.path l = c.in_ok-path.ensures ∙ c.path.ensures at.at_quiet.first l lives at.at_quiet.has in
    let more = c.add_steps.ensures.items ∙ (λ i. with_piece (path i) burst.taken (map entry_of (c.in_ok-reserve.ensures.items i))) in (
      keeps_steps o law _ c.args.self.now c.self.view_is c.self.invariant.0 l steps_in.last home c.args.most burst some_left steps_in.chain within (tree_in o u) advances (map entry_of c.add_steps.new.journal.items) more,
      c.self.invariant.1,
      search rules,
      checked_out,
    )

pub returns-clause-ok : goal.returns-clause-ok
returns-clause-ok g c =
    let law = (g.met.L.Local g.world.𝓛 g.world.𝓜 g.world.𝓡 ((λ s x. x), (λ x. x), (λ x. x), λ x. x)).laws in
    let o = g.L.Local.ops in
    let i = c.self.inside in
    let v = c.next_quiet.new.self in
    let u = c.step-burst.new.self in
    let k = c.left_in-left.ensures.keeps in
    let same = c.in-Some.ensures.0 in
    let number = c.in-Some.number in
    let l = c.in-Some.ensures.1.0 in
    let next = c.in-Some.ensures.1.1 in
    let at = passed_home o i.tree v number l same next in
    let steps_in = c.step-burst.ensures l at in
    let home = is_home o law i.tree k i.grants.items c.self.invariant.3 number l next in
    let burst = c.step-burst.result in
    let left : c.left_in-left.result ≡ i.budget - (steps (tree_in o i.tree) + reserved_in i.grants.items) = c.left_in-left.ensures.left ∙ ap (λ z. i.budget - (steps (tree_in o i.tree) + z)) c.self.invariant.1 in
    let some_left : 1 ≤ i.budget - (steps (tree_in o i.tree) + reserved_in i.grants.items) = omega (arith, left, c.if-left-eq0.false) in
    let is_min : c.min.result ≡ min c.args.most (i.budget - (steps (tree_in o i.tree) + reserved_in i.grants.items)) = c.min.ensures ∙ ap (min c.args.most) left in
    let within = subst (λ z. burst.taken ≤ z) is_min steps_in.within in
    let fewer = subst (λ z. FewerWithCause o burst.taken z burst.short steps_in.last) is_min steps_in.fewer in
    let advances = subst (λ t. Advances o (o.path l) burst.taken t (tree_in o u)) same.tree steps_in.advances in
    let checked_out = still_out o v u i.grants.items (passed_out o i.tree v i.grants.items i.grants.items same refl c.self.invariant.3) steps_in.same in
    let path : c.in_ok-path.path ≡ o.path l = c.in_ok-path.ensures ∙ c.path.ensures at.at_quiet.first l lives at.at_quiet.has in
    let more = c.add_steps.ensures.items ∙ (λ i. with_piece (path i) burst.taken (map entry_of (c.in_ok-reserve.ensures.items i))) in
    does_steps o law _ c.args.self.now c.self.view_is c.self.invariant.0 l steps_in.last home c.args.most burst some_left steps_in.chain within (tree_in o u) advances (map entry_of c.add_steps.new.journal.items) more fewer
