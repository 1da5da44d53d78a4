use Rattle.std.proofs.Common.{rules, ◌≡◌, ◌≤◌, ◌+◌, ◌-◌, ◌∷◌, [], ◌++◌, refl, sym, ap, subst, ◌∙◌}
use Rattle.std.specs.Prelude.{map, min}
use Rattle.shim_semantics.specs.Trees.{steps}
use Rattle.shim_laws_table.specs.NodeStatus.{lives}
use Rattle.shim_run_state.specs.RunStates.{tree_in}
use Rattle.shim_net.specs.Entries.{entry_of}
use Rattle.shim_net.specs.Nets.{OpenGrant, NetView, IsNet, IsOpen, reserved_in}
use Rattle.shim_net.specs.Granting.{IsAtHome}
use Rattle.shim_net.proofs.Keeping.{given, more_reserved}
use Rattle.shim_net.proofs.Granting.{has_room, gives, gives_none}
use Rattle.shim_net.proofs.CheckingOut.{same_net, passed_out, passed_home, none_home, is_home, its_home, other_pids, zero_at_root, one_more_out}
use Rattle.shim_net.proofs.net.Net.grant.Goals as goal

pub invariant_of-self : goal.invariant_of-self
invariant_of-self g c =
    let o = g.L.Local.ops in
    let i = c.self.inside in
    let v = c.next_quiet.new.self in
    let same = c.in_default.ensures.0 in (
      same_net o i.root.value i.budget (tree_in o i.tree) (tree_in o v) (map entry_of i.journal.items) (map entry_of i.journal.items) i.grants.items i.grants.items same.tree refl refl c.self.invariant.0,
      c.self.invariant.1,
      search rules,
      passed_out o i.tree v i.grants.items i.grants.items same refl c.self.invariant.3,
    )

pub returns-in_default-clause-given : goal.returns-in_default-clause-given
returns-in_default-clause-given g c =
    let o = g.L.Local.ops in
    let i = c.self.inside in
    let v = c.next_quiet.new.self in
    let none = none_home o i.tree i.grants.items c.self.invariant.3 c.in_default.ensures.1 in
    gives_none o c.args.self.now i.root.value i.budget (tree_in o i.tree) (tree_in o v) (map entry_of i.journal.items) i.grants.items c.self.view_is c.in_default.ensures.0.tree none

pub invariant_of-self-in_err-reserve : goal.invariant_of-self-in_err-reserve
invariant_of-self-in_err-reserve g c =
    let o = g.L.Local.ops in
    let i = c.self.inside in
    let v = c.next_quiet.new.self in
    let same = c.in-Some.ensures.0 in (
      same_net o i.root.value i.budget (tree_in o i.tree) (tree_in o v) (map entry_of i.journal.items) (map entry_of c.reserve.new.self.items) i.grants.items i.grants.items same.tree (ap (map entry_of) c.in_err-reserve.ensures.items) refl c.self.invariant.0,
      c.self.invariant.1,
      search rules,
      passed_out o i.tree v i.grants.items i.grants.items same refl c.self.invariant.3,
    )

pub invariant_of-self-in_err-reserve-2 : goal.invariant_of-self-in_err-reserve-2
invariant_of-self-in_err-reserve-2 g c =
    let o = g.L.Local.ops in
    let i = c.self.inside in
    let v = c.next_quiet.new.self in
    let same = c.in-Some.ensures.0 in (
      same_net o i.root.value i.budget (tree_in o i.tree) (tree_in o v) (map entry_of i.journal.items) (map entry_of c.reserve.new.self.items) i.grants.items c.reserve-2.new.self.items same.tree (ap (map entry_of) c.in_ok-reserve.ensures.items) c.in_err-reserve-2.ensures.items c.self.invariant.0,
      c.self.invariant.1 ∙ ap reserved_in (sym c.in_err-reserve-2.ensures.items),
      search rules,
      passed_out o i.tree v i.grants.items c.reserve-2.new.self.items same c.in_err-reserve-2.ensures.items c.self.invariant.3,
    )

pub invariant_of-self-in_err-given : goal.invariant_of-self-in_err-given
invariant_of-self-in_err-given g c =
    let o = g.L.Local.ops in
    let i = c.self.inside in
    let v = c.next_quiet.new.self in
    let same = c.in-Some.ensures.0 in (
      same_net o i.root.value i.budget (tree_in o i.tree) (tree_in o v) (map entry_of i.journal.items) (map entry_of c.reserve.new.self.items) i.grants.items c.reserve-2.new.self.items same.tree (ap (map entry_of) c.in_ok-reserve.ensures.items) c.in_ok-reserve-2.ensures.items c.self.invariant.0,
      c.self.invariant.1 ∙ ap reserved_in (sym c.in_ok-reserve-2.ensures.items),
      search rules,
      passed_out o i.tree v i.grants.items c.reserve-2.new.self.items same c.in_ok-reserve-2.ensures.items c.self.invariant.3,
    )

pub invariant_of-self-in_err-parcel : goal.invariant_of-self-in_err-parcel
invariant_of-self-in_err-parcel g c =
    let o = g.L.Local.ops in
    let i = c.self.inside in
    let v = c.next_quiet.new.self in
    let same = c.in-Some.ensures.0 in (
      same_net o i.root.value i.budget (tree_in o i.tree) (tree_in o v) (map entry_of i.journal.items) (map entry_of c.reserve.new.self.items) i.grants.items c.reserve-2.new.self.items same.tree (ap (map entry_of) c.in_ok-reserve.ensures.items) c.in_ok-reserve-2.ensures.items c.self.invariant.0,
      c.self.invariant.1 ∙ ap reserved_in (sym c.in_ok-reserve-2.ensures.items),
      search rules,
      passed_out o i.tree v i.grants.items c.reserve-2.new.self.items same c.in_ok-reserve-2.ensures.items c.self.invariant.3,
    )

pub invariant_of-self-2 : goal.invariant_of-self-2
invariant_of-self-2 g c =
    let law = (g.met.L.Local g.world.𝓛 g.world.𝓜 g.world.𝓡 ((λ s x. x), (λ x. x), (λ x. x), λ x. x)).laws in
    let o = g.L.Local.ops in
    let i = c.self.inside in
    let v = c.next_quiet.new.self in
    let u = c.check_out.new.self in
    let k = c.left_in-left.ensures.keeps in
    let same = c.in-Some.ensures.0 in
    let number = c.in-Some.number in
    let l = c.process.result.now in
    let has = c.process.ensures in
    let next = its_home o i.tree v same number c.in-Some.ensures.1.0 l c.in-Some.ensures.1.1 has.0 has.1 has.2 in
    let holds = c.check_out.ensures l (passed_home o i.tree v number l same next) in
    let home = is_home o law i.tree k i.grants.items c.self.invariant.3 number l next in
    let tree : tree_in o u ≡ tree_in o i.tree = holds.tree ∙ same.tree in
    let n = c.min-grant.result in
    let opened : OpenGrant g.row.L.Denot = record { pid = number; slot = c.args.slot; round = c.args.round; most = n; start = l } in
    let items : c.push_reserved.new.self.items ≡ i.grants.items ++ opened ∷ [] = c.push_reserved.ensures.items ∙ (ap (λ z. z ++ c.in_ok-given.given ∷ []) c.in_ok-reserve-2.ensures.items ∙ ap (λ z. i.grants.items ++ z ∷ []) c.in_ok-given.ensures) in
    let some : 1 ≤ n = search rules in
    let is_min : n ≡ min c.args.most c.left_in-left.result = search rules in
    let room : steps (tree_in o i.tree) + reserved_in i.grants.items + n ≤ i.budget = has_room c.left_in-left.result i.budget (steps (tree_in o i.tree)) (reserved_in i.grants.items) c.args.most n (c.left_in-left.ensures.left ∙ ap (λ z. i.budget - (steps (tree_in o i.tree) + z)) c.self.invariant.1) c.self.invariant.0.keeps.fits is_min in
    let fresh = subst (λ (z : NetView g.row.L.Denot). IsOpen c.args.slot c.args.round z.grants → ⊥) (sym c.self.view_is) c.requires.numbers in
    let other = other_pids o law i.tree k i.grants.items c.self.invariant.3 number l next in (
      same_net o i.root.value i.budget (tree_in o i.tree) (tree_in o u) (map entry_of i.journal.items) (map entry_of c.reserve.new.self.items) c.push_reserved.new.self.items c.push_reserved.new.self.items tree (ap (map entry_of) c.in_ok-reserve.ensures.items) refl
          (given o law _ opened c.self.invariant.0 home.grantable some home.free fresh other room c.push_reserved.new.self.items items),
      more_reserved o law i.reserved i.grants.items c.push_reserved.new.self.items opened c.self.invariant.1 items,
      search rules,
      one_more_out o v u i.grants.items c.push_reserved.new.self.items number l opened (passed_out o i.tree v i.grants.items i.grants.items same refl c.self.invariant.3) holds other items refl refl,
    )

pub returns-clause-given : goal.returns-clause-given
returns-clause-given g c =
    let law = (g.met.L.Local g.world.𝓛 g.world.𝓜 g.world.𝓡 ((λ s x. x), (λ x. x), (λ x. x), λ x. x)).laws in
    let o = g.L.Local.ops in
    let i = c.self.inside in
    let v = c.next_quiet.new.self in
    let u = c.check_out.new.self in
    let k = c.left_in-left.ensures.keeps in
    let same = c.in-Some.ensures.0 in
    let number = c.in-Some.number in
    let l = c.process.result.now in
    let has = c.process.ensures in
    let next = its_home o i.tree v same number c.in-Some.ensures.1.0 l c.in-Some.ensures.1.1 has.0 has.1 has.2 in
    let holds = c.check_out.ensures l (passed_home o i.tree v number l same next) in
    let home = is_home o law i.tree k i.grants.items c.self.invariant.3 number l next in
    let tree : tree_in o u ≡ tree_in o i.tree = holds.tree ∙ same.tree in
    let n = c.min-grant.result in
    let opened : OpenGrant g.row.L.Denot = record { pid = number; slot = c.args.slot; round = c.args.round; most = n; start = l } in
    let items : c.push_reserved.new.self.items ≡ i.grants.items ++ opened ∷ [] = c.push_reserved.ensures.items ∙ (ap (λ z. z ++ c.in_ok-given.given ∷ []) c.in_ok-reserve-2.ensures.items ∙ ap (λ z. i.grants.items ++ z ∷ []) c.in_ok-given.ensures) in
    let some : 1 ≤ n = search rules in
    let net = c.args.self.now in
    let is_min : n ≡ min c.args.most c.left_in-left.result = search rules in
    let left : c.left_in-left.result ≡ net.budget - (steps net.tree + reserved_in net.grants) =
    c.left_in-left.ensures.left ∙ (ap (λ z. i.budget - (steps (tree_in o i.tree) + z)) c.self.invariant.1 ∙ ap (λ (z : NetView g.row.L.Denot). z.budget - (steps z.tree + reserved_in z.grants)) c.self.view_is) in
    let is = c.in_ok-given.ensures in (
      c.in_ok-parcel.ensures.numbers.1 ∙ ap (λ z. z.slot) is,
      c.in_ok-parcel.ensures.numbers.2 ∙ ap (λ z. z.round) is,
      gives o net (subst (IsNet o) c.self.view_is c.self.invariant.0) l (subst (λ (z : NetView g.row.L.Denot). IsAtHome o z.tree z.grants l) c.self.view_is home) c.args.most c.args.slot c.args.round c.left_in-left.result n left is_min some
          number (zero_at_root o law i.tree k number next.at_quiet.first l lives next.at_quiet.has)
          c.in_ok-parcel.parcel.pid c.in_ok-parcel.parcel.start c.in_ok-parcel.parcel.grant
          (c.in_ok-parcel.ensures.numbers.0 ∙ ap (λ z. z.pid) is) (c.in_ok-parcel.ensures.work.0 ∙ ap (λ z. z.start) is) (c.in_ok-parcel.ensures.work.1 ∙ ap (λ z. z.most) is)
          (record { root = i.root.value; budget = i.budget; tree = tree_in o u; journal = map entry_of c.reserve.new.self.items; grants = c.push_reserved.new.self.items })
          (subst (λ (z : NetView g.row.L.Denot). record { root = i.root.value; budget = i.budget; tree = tree_in o u; journal = map entry_of c.reserve.new.self.items; grants = c.push_reserved.new.self.items } ≡ record { root = z.root; budget = z.budget; tree = z.tree; journal = z.journal; grants = z.grants ++ opened ∷ [] }) c.self.view_is
          (λ j. record { root = i.root.value; budget = i.budget; tree = tree j; journal = map entry_of (c.in_ok-reserve.ensures.items j); grants = items j })),
    )
