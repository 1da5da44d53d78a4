use Rattle.std.proofs.Common.{◌≡◌, sym, ap, subst, rules}
use Rattle.std.specs.Prelude.{map}
use Rattle.shim_run_state.specs.RunStates.{tree_in}
use Rattle.shim_net.specs.Entries.{entry_of}
use Rattle.shim_net.specs.Nets.{IsNet, started, reserved_in}
use Rattle.shim_net.proofs.Keeping.{begun}
use Rattle.shim_net.proofs.CheckingOut.{begun_out}
use Rattle.shim_net.proofs.net.Net.start.Goals as goal

pub invariant_of-result : goal.invariant_of-result
invariant_of-result g c =
    let law = (g.met.L.Local g.world.𝓛 g.world.𝓜 g.world.𝓡 ((λ s x. x), (λ x. x), (λ x. x), λ x. x)).laws in
    let o = g.L.Local.ops in
    let root = c.args.root in
    let same : record { root = c.of-begun.result.value; budget = c.args.budget; tree = tree_in o c.in_ok-tree.tree; journal = map entry_of c.new.result.items; grants = c.new-2.result.items } ≡ started root c.args.budget =
    λ i. record { root = c.of-begun.ensures i; budget = c.args.budget; tree = c.in_ok-tree.ensures.tree i; journal = map entry_of (c.new.ensures.items i); grants = c.new-2.ensures.items i } in (
      subst (IsNet o) (sym same) (begun o law root c.args.budget c.path-path.ensures.sound c.requires.path c.requires.own c.requires.budget.0 c.requires.budget.1),
      ap reserved_in (sym c.new-2.ensures.items),
      search rules,
      begun_out o c.in_ok-tree.tree c.new-2.result.items c.in_ok-tree.ensures.checked_out c.new-2.ensures.items,
    )
