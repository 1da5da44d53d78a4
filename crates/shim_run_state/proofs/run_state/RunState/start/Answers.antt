use Rattle.std.proofs.Common.{◌≡◌, [], refl, sym, ap, rules}
use Rattle.std.specs.Prelude.{map}
use Rattle.shim_run_log.specs.Logged.{logged}
use Rattle.shim_run_state.specs.Fields.{view_of, count_in}
use Rattle.shim_run_state.proofs.Begun.{is_start, keeps, none_taken, none_out}
use Rattle.shim_run_state.proofs.run_state.RunState.start.Goals as goal

pub invariant_of-result : goal.invariant_of-result
invariant_of-result g c =
    let law = (g.met.L.Local g.world.𝓛 g.world.𝓜 g.world.𝓡 ((λ s x. x), (λ x. x), (λ x. x), λ x. x)).laws in
    let o = g.L.Local.ops in
    let v = view_of c.of-begun.result.value c.in_ok-table.table c.new.result.items c.new-2.result (logged c.new-3.result.items) c.in_ok-process_lists.process_lists c.new-4.result.items 0 in
    let output : c.new.result.items ≡ [] = search rules in
    let logs : logged c.new-3.result.items ≡ logged [] = ap logged c.new-3.ensures.items in
    let past : map count_in c.new-4.result.items ≡ [] = ap (map count_in) c.new-4.ensures.items in (
      keeps o law v c.args.root c.in_ok-table.ensures.represents c.in_ok-table.ensures.states output c.new-2.ensures logs c.in_ok-process_lists.ensures past refl,
      sym (none_taken o law v c.args.root c.in_ok-table.ensures.represents c.in_ok-table.ensures.states output c.new-2.ensures logs c.in_ok-process_lists.ensures past refl),
    )

pub returns-clause-tree : goal.returns-clause-tree
returns-clause-tree g c =
    let law = (g.met.L.Local g.world.𝓛 g.world.𝓜 g.world.𝓡 ((λ s x. x), (λ x. x), (λ x. x), λ x. x)).laws in
    let o = g.L.Local.ops in
    let v = view_of c.of-begun.result.value c.in_ok-table.table c.new.result.items c.new-2.result (logged c.new-3.result.items) c.in_ok-process_lists.process_lists c.new-4.result.items 0 in
    let output : c.new.result.items ≡ [] = search rules in
    let logs : logged c.new-3.result.items ≡ logged [] = ap logged c.new-3.ensures.items in
    let past : map count_in c.new-4.result.items ≡ [] = ap (map count_in) c.new-4.ensures.items in
    is_start o law v c.args.root c.in_ok-table.ensures.represents c.in_ok-table.ensures.states output c.new-2.ensures logs c.in_ok-process_lists.ensures past refl

pub returns-clause-checked_out : goal.returns-clause-checked_out
returns-clause-checked_out g c =
    let law = (g.met.L.Local g.world.𝓛 g.world.𝓜 g.world.𝓡 ((λ s x. x), (λ x. x), (λ x. x), λ x. x)).laws in
    let o = g.L.Local.ops in
    let v = view_of c.of-begun.result.value c.in_ok-table.table c.new.result.items c.new-2.result (logged c.new-3.result.items) c.in_ok-process_lists.process_lists c.new-4.result.items 0 in
    let output : c.new.result.items ≡ [] = search rules in
    let logs : logged c.new-3.result.items ≡ logged [] = ap logged c.new-3.ensures.items in
    let past : map count_in c.new-4.result.items ≡ [] = ap (map count_in) c.new-4.ensures.items in
    λ i l h. none_out o law v c.args.root c.in_ok-table.ensures.represents c.in_ok-table.ensures.states output c.new-2.ensures logs c.in_ok-process_lists.ensures past refl i h.flag
