use Rattle.std.proofs.Common.{rules, ◌≡◌, ◌≤◌, ◌+◌, ◌-◌, refl, sym, ap, subst, ◌∙◌, arith}
use Rattle.std.specs.Prelude.{map}
use Rattle.shim_run_state.specs.RunStates.{tree_in}
use Rattle.shim_semantics.specs.Trees.{steps}
use Rattle.shim_laws_table.specs.NodeStatus.{lives}
use Rattle.shim_net.specs.Entries.{entry_of}
use Rattle.shim_net.specs.Nets.{NetView, reserved_in}
use Rattle.shim_net.specs.Stepping.{IsNextHome, IsHomeNumber, left_of}
use Rattle.shim_net.proofs.Granting.{is_same, gives_none, home_number}
use Rattle.shim_net.proofs.CheckingOut.{same_net, passed_out, none_home, is_home, zero_at_root}
use Rattle.shim_net.proofs.net.Net.next_home.Goals as goal

pub invariant_of-self : goal.invariant_of-self
invariant_of-self g c =
    let o = g.L.Local.ops in
    let i = c.self.inside in
    let v = c.next_quiet.new.self in
    let same = c.in_err-number.ensures.0 in (
      same_net o i.root.value i.budget (tree_in o i.tree) (tree_in o v) (map entry_of i.journal.items) (map entry_of i.journal.items) i.grants.items i.grants.items same.tree refl refl c.self.invariant.0,
      c.self.invariant.1,
      search rules,
      passed_out o i.tree v i.grants.items i.grants.items same refl c.self.invariant.3,
    )

pub returns-in_err-number : goal.returns-in_err-number
returns-in_err-number g c =
    let o = g.L.Local.ops in
    let i = c.self.inside in
    let v = c.next_quiet.new.self in
    let none = none_home o i.tree i.grants.items c.self.invariant.3 c.in_err-number.ensures.1 in
    subst (IsNextHome o c.args.self.now (record { root = i.root.value; budget = i.budget; tree = tree_in o v; journal = map entry_of i.journal.items; grants = i.grants.items })) (sym c.from_residual.ensures) (gives_none o c.args.self.now i.root.value i.budget (tree_in o i.tree) (tree_in o v) (map entry_of i.journal.items) i.grants.items c.self.view_is c.in_err-number.ensures.0.tree none)

pub invariant_of-self-2 : goal.invariant_of-self-2
invariant_of-self-2 g c =
    let o = g.L.Local.ops in
    let i = c.self.inside in
    let v = c.next_quiet.new.self in
    let same = c.in_ok-number.ensures.0 in (
      same_net o i.root.value i.budget (tree_in o i.tree) (tree_in o v) (map entry_of i.journal.items) (map entry_of i.journal.items) i.grants.items i.grants.items same.tree refl refl c.self.invariant.0,
      c.self.invariant.1,
      search rules,
      passed_out o i.tree v i.grants.items i.grants.items same refl c.self.invariant.3,
    )

pub returns : goal.returns
returns g c =
    let law = (g.met.L.Local g.world.𝓛 g.world.𝓜 g.world.𝓡 ((λ s x. x), (λ x. x), (λ x. x), λ x. x)).laws in
    let o = g.L.Local.ops in
    let i = c.self.inside in
    let v = c.next_quiet.new.self in
    let k = c.left_in.ensures.keeps in
    let next = c.in_ok-number.ensures in
    let l = next.1.0 in
    let home = next.1.1 in
    let number = c.in_ok-number.number in
    let here = is_home o law i.tree k i.grants.items c.self.invariant.3 number l home in
    let root = zero_at_root o law i.tree k number home.at_quiet.first l lives home.at_quiet.has in
    let left : c.left_in.result ≡ i.budget - (steps (tree_in o i.tree) + reserved_in i.grants.items) = c.left_in.ensures.left ∙ ap (λ z. i.budget - (steps (tree_in o i.tree) + z)) c.self.invariant.1 in
    let some : 1 ≤ i.budget - (steps (tree_in o i.tree) + reserved_in i.grants.items) = omega (arith, left, c.if-left_in-eq0.false) in (
      is_same o c.args.self.now i.root.value i.budget (tree_in o i.tree) (tree_in o v) (map entry_of i.journal.items) i.grants.items c.self.view_is next.0.tree,
      subst (λ (z : NetView g.row.L.Denot). 1 ≤ left_of z) c.self.view_is some,
      subst (λ (z : NetView g.row.L.Denot). IsHomeNumber o z number) c.self.view_is (home_number o _ c.self.invariant.0 number l here root),
    )
