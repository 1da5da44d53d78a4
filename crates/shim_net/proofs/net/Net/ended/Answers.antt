use Rattle.std.proofs.Common.{◌⊎◌, sym, subst}
use Rattle.std.specs.Prelude.{map}
use Rattle.shim_run_state.specs.RunStates.{tree_in}
use Rattle.shim_net.specs.Entries.{entry_of}
use Rattle.shim_net.specs.Nets.{NetView, IsNet}
use Rattle.shim_net.specs.Standings.{IsQuiescentNet, IsSpentNet}
use Rattle.shim_net.proofs.Ends.{may_end, none_open, nobody_out, agrees, read_off}
use Rattle.shim_net.proofs.net.Net.ended.Goals as goal

pub ended-requires-clause-none : goal.ended-requires-clause-none
ended-requires-clause-none g c κs within =
    let o = g.L.Local.ops in
    let ends = subst (λ (z : NetView g.row.L.Denot). IsQuiescentNet o z ⊎ IsSpentNet o z) (sym c.self.view_is) c.requires in
    nobody_out o c.self.inside.tree c.self.inside.grants.items c.self.invariant.3 (none_open o (record { root = c.self.inside.root.value; budget = c.self.inside.budget; tree = tree_in o c.self.inside.tree; journal = map entry_of c.self.inside.journal.items; grants = c.self.inside.grants.items }) ends)

pub ended-requires-clause-spent : goal.ended-requires-clause-spent
ended-requires-clause-spent g c κs within =
    let o = g.L.Local.ops in
    may_end o _ c.self.invariant.0 (subst (λ (z : NetView g.row.L.Denot). IsQuiescentNet o z ⊎ IsSpentNet o z) (sym c.self.view_is) c.requires)

pub returns-clause-agrees : goal.returns-clause-agrees
returns-clause-agrees g c =
    let law = (g.met.L.Local g.world.𝓛 g.world.𝓜 g.world.𝓡 ((λ s x. x), (λ x. x), (λ x. x), λ x. x)).laws in
    let o = g.L.Local.ops in
    agrees o c.args.self.now (subst (IsNet o) c.self.view_is c.self.invariant.0) c.requires law

pub returns-clause-read_off : goal.returns-clause-read_off
returns-clause-read_off g c =
    let law = (g.met.L.Local g.world.𝓛 g.world.𝓜 g.world.𝓡 ((λ s x. x), (λ x. x), (λ x. x), λ x. x)).laws in
    let o = g.L.Local.ops in
    read_off o c.args.self.now (subst (IsNet o) c.self.view_is c.self.invariant.0) c.requires law
