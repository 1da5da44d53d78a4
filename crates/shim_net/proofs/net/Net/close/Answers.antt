use Rattle.std.proofs.Common.{rules, ◌≤◌, map, sym, subst, arith}
use Rattle.shim_run_state.specs.RunStates.{tree_in, IsCheckedOut}
use Rattle.shim_run_state.specs.CheckingOut.{CheckedOutReaches, ChecksIn}
use Rattle.shim_net.specs.Entries.{entry_of}
use Rattle.shim_net.proofs.Closing as closing
use Rattle.shim_net.proofs.CheckingOut.{out_at, one_less_out}
use Rattle.shim_net.proofs.net.Net.close.Goals as goal

pub overflow_sub-self : goal.overflow_sub-self
overflow_sub-self g c =
    let law = (g.met.L.Local g.world.𝓛 g.world.𝓜 g.world.𝓡 ((λ s x. x), (λ x. x), (λ x. x), λ x. x)).laws in
    let o = g.L.Local.ops in
    let a = c.args in
    let r = c.requires in
    let less = closing.reserves o law _ a.self.now c.self.view_is c.self.invariant.0 a.at a.used a.last r.there r.steps r.most c.remove-grant.result c.remove-grant.ensures.value c.remove-grant.new.self.items c.remove-grant.ensures.items in
    omega (arith, less, c.most.ensures, c.self.invariant.1)

pub check_in-requires-clause-did : goal.check_in-requires-clause-did
check_in-requires-clause-did g c κs within =
    let law = (g.met.L.Local g.world.𝓛 g.world.𝓜 g.world.𝓡 ((λ s x. x), (λ x. x), (λ x. x), λ x. x)).laws in
    let o = g.L.Local.ops in
    let a = c.args in
    let r = c.requires in
    let p = c.remove-grant.result in
    let ft = c.self.inside.tree in
    let comes : CheckedOutReaches o ft c.number.result a.used p.start a.last = record {
      checked_out = subst (λ n. IsCheckedOut o ft n p.start) (sym c.number.ensures) (out_at o ft c.self.inside.grants.items a.at p c.self.invariant.3 (closing.there o law _ a.self.now c.self.view_is c.self.invariant.0 a.at a.used a.last r.there r.steps r.most c.remove-grant.result c.remove-grant.ensures.value) c.remove-grant.ensures.value);
      chain = closing.its_run o law _ a.self.now c.self.view_is c.self.invariant.0 a.at a.used a.last r.there r.steps r.most c.remove-grant.result c.remove-grant.ensures.value;
    } in
    (p.start, comes)

pub check_in-requires-clause-few : goal.check_in-requires-clause-few
check_in-requires-clause-few g c κs within =
    let law = (g.met.L.Local g.world.𝓛 g.world.𝓜 g.world.𝓡 ((λ s x. x), (λ x. x), (λ x. x), λ x. x)).laws in
    let o = g.L.Local.ops in
    let a = c.args in
    let r = c.requires in
    closing.fits o law _ a.self.now c.self.view_is c.self.invariant.0 a.at a.used a.last r.there r.steps r.most c.remove-grant.result c.remove-grant.ensures.value c.remove-grant.new.self.items c.remove-grant.ensures.items

pub invariant_of-self : goal.invariant_of-self
invariant_of-self g c =
    let law = (g.met.L.Local g.world.𝓛 g.world.𝓜 g.world.𝓡 ((λ s x. x), (λ x. x), (λ x. x), λ x. x)).laws in
    let o = g.L.Local.ops in
    let a = c.args in
    let r = c.requires in
    let p = c.remove-grant.result in
    let ft = c.self.inside.tree in
    let comes : CheckedOutReaches o ft c.number.result a.used p.start a.last = record {
      checked_out = subst (λ n. IsCheckedOut o ft n p.start) (sym c.number.ensures) (out_at o ft c.self.inside.grants.items a.at p c.self.invariant.3 (closing.there o law _ a.self.now c.self.view_is c.self.invariant.0 a.at a.used a.last r.there r.steps r.most c.remove-grant.result c.remove-grant.ensures.value) c.remove-grant.ensures.value);
      chain = closing.its_run o law _ a.self.now c.self.view_is c.self.invariant.0 a.at a.used a.last r.there r.steps r.most c.remove-grant.result c.remove-grant.ensures.value;
    } in
    let u = c.check_in.new.self in
    let checked_in = subst (λ n. ChecksIn o ft u n a.used p.start a.last) c.number.ensures (c.check_in.ensures p.start comes) in (
      closing.stays_back o law _ a.self.now c.self.view_is c.self.invariant.0 a.at a.used a.last r.there r.steps r.most c.remove-grant.result c.remove-grant.ensures.value c.remove-grant.new.self.items c.remove-grant.ensures.items (tree_in o u) checked_in.advances (search rules),
      closing.reserves_less o law _ a.self.now c.self.view_is c.self.invariant.0 a.at a.used a.last r.there r.steps r.most c.remove-grant.result c.remove-grant.ensures.value c.remove-grant.new.self.items c.remove-grant.ensures.items c.self.inside.reserved c.most.result c.self.invariant.1 c.most.ensures,
      search rules,
      one_less_out o ft u c.self.inside.grants.items a.at a.used p a.last c.self.invariant.3 c.self.invariant.0.pids (closing.there o law _ a.self.now c.self.view_is c.self.invariant.0 a.at a.used a.last r.there r.steps r.most c.remove-grant.result c.remove-grant.ensures.value) c.remove-grant.ensures.value checked_in c.remove-grant.new.self.items c.remove-grant.ensures.items,
    )

pub returns-then-used-eq0 : goal.returns-then-used-eq0
returns-then-used-eq0 g c =
    let law = (g.met.L.Local g.world.𝓛 g.world.𝓜 g.world.𝓡 ((λ s x. x), (λ x. x), (λ x. x), λ x. x)).laws in
    let o = g.L.Local.ops in
    let a = c.args in
    let r = c.requires in
    let p = c.remove-grant.result in
    let ft = c.self.inside.tree in
    let comes : CheckedOutReaches o ft c.number.result a.used p.start a.last = record {
      checked_out = subst (λ n. IsCheckedOut o ft n p.start) (sym c.number.ensures) (out_at o ft c.self.inside.grants.items a.at p c.self.invariant.3 (closing.there o law _ a.self.now c.self.view_is c.self.invariant.0 a.at a.used a.last r.there r.steps r.most c.remove-grant.result c.remove-grant.ensures.value) c.remove-grant.ensures.value);
      chain = closing.its_run o law _ a.self.now c.self.view_is c.self.invariant.0 a.at a.used a.last r.there r.steps r.most c.remove-grant.result c.remove-grant.ensures.value;
    } in
    let u = c.check_in.new.self in
    let checked_in = subst (λ n. ChecksIn o ft u n a.used p.start a.last) c.number.ensures (c.check_in.ensures p.start comes) in
    closing.closes_back o law _ a.self.now c.self.view_is c.self.invariant.0 a.at a.used a.last r.there r.steps r.most c.remove-grant.result c.remove-grant.ensures.value c.remove-grant.new.self.items c.remove-grant.ensures.items (tree_in o u) checked_in.advances (search rules)

pub invariant_of-self-2 : goal.invariant_of-self-2
invariant_of-self-2 g c =
    let law = (g.met.L.Local g.world.𝓛 g.world.𝓜 g.world.𝓡 ((λ s x. x), (λ x. x), (λ x. x), λ x. x)).laws in
    let o = g.L.Local.ops in
    let a = c.args in
    let r = c.requires in
    let p = c.remove-grant.result in
    let ft = c.self.inside.tree in
    let comes : CheckedOutReaches o ft c.number.result a.used p.start a.last = record {
      checked_out = subst (λ n. IsCheckedOut o ft n p.start) (sym c.number.ensures) (out_at o ft c.self.inside.grants.items a.at p c.self.invariant.3 (closing.there o law _ a.self.now c.self.view_is c.self.invariant.0 a.at a.used a.last r.there r.steps r.most c.remove-grant.result c.remove-grant.ensures.value) c.remove-grant.ensures.value);
      chain = closing.its_run o law _ a.self.now c.self.view_is c.self.invariant.0 a.at a.used a.last r.there r.steps r.most c.remove-grant.result c.remove-grant.ensures.value;
    } in
    let u = c.check_in.new.self in
    let checked_in = subst (λ n. ChecksIn o ft u n a.used p.start a.last) c.number.ensures (c.check_in.ensures p.start comes) in
    let more = closing.entries_more c.self.inside.journal.items c.into_path.result (o.path p.start) a.used c.push_reserved.new.self.items c.into_path.ensures c.push_reserved.ensures.items in
    let some : 1 ≤ a.used = search rules in (
      closing.stays o law _ a.self.now c.self.view_is c.self.invariant.0 a.at a.used a.last r.there r.steps r.most c.remove-grant.result c.remove-grant.ensures.value c.remove-grant.new.self.items c.remove-grant.ensures.items (tree_in o u) checked_in.advances some (map entry_of c.push_reserved.new.self.items) more,
      closing.reserves_less o law _ a.self.now c.self.view_is c.self.invariant.0 a.at a.used a.last r.there r.steps r.most c.remove-grant.result c.remove-grant.ensures.value c.remove-grant.new.self.items c.remove-grant.ensures.items c.self.inside.reserved c.most.result c.self.invariant.1 c.most.ensures,
      search rules,
      one_less_out o ft u c.self.inside.grants.items a.at a.used p a.last c.self.invariant.3 c.self.invariant.0.pids (closing.there o law _ a.self.now c.self.view_is c.self.invariant.0 a.at a.used a.last r.there r.steps r.most c.remove-grant.result c.remove-grant.ensures.value) c.remove-grant.ensures.value checked_in c.remove-grant.new.self.items c.remove-grant.ensures.items,
    )

pub returns : goal.returns
returns g c =
    let law = (g.met.L.Local g.world.𝓛 g.world.𝓜 g.world.𝓡 ((λ s x. x), (λ x. x), (λ x. x), λ x. x)).laws in
    let o = g.L.Local.ops in
    let a = c.args in
    let r = c.requires in
    let p = c.remove-grant.result in
    let ft = c.self.inside.tree in
    let comes : CheckedOutReaches o ft c.number.result a.used p.start a.last = record {
      checked_out = subst (λ n. IsCheckedOut o ft n p.start) (sym c.number.ensures) (out_at o ft c.self.inside.grants.items a.at p c.self.invariant.3 (closing.there o law _ a.self.now c.self.view_is c.self.invariant.0 a.at a.used a.last r.there r.steps r.most c.remove-grant.result c.remove-grant.ensures.value) c.remove-grant.ensures.value);
      chain = closing.its_run o law _ a.self.now c.self.view_is c.self.invariant.0 a.at a.used a.last r.there r.steps r.most c.remove-grant.result c.remove-grant.ensures.value;
    } in
    let u = c.check_in.new.self in
    let checked_in = subst (λ n. ChecksIn o ft u n a.used p.start a.last) c.number.ensures (c.check_in.ensures p.start comes) in
    let more = closing.entries_more c.self.inside.journal.items c.into_path.result (o.path p.start) a.used c.push_reserved.new.self.items c.into_path.ensures c.push_reserved.ensures.items in
    let some : 1 ≤ a.used = search rules in
    closing.closes o law _ a.self.now c.self.view_is c.self.invariant.0 a.at a.used a.last r.there r.steps r.most c.remove-grant.result c.remove-grant.ensures.value c.remove-grant.new.self.items c.remove-grant.ensures.items (tree_in o u) checked_in.advances some (map entry_of c.push_reserved.new.self.items) more
