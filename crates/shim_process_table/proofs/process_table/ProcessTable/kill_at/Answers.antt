use Rattle.std.proofs.Common.{true, refl, sym, subst}
use Rattle.shim_laws_table_events.specs.keeping.Tables.{TableView, HasTableInvariant}
use Rattle.shim_process_table.specs.Poisoning.{IsKilledBy}
use Rattle.shim_laws_table_events.specs.meetings.Poisons.{DiesOne}
use Rattle.shim_process_table.proofs.HerePoisons.{few_given, dies_one, still_kept}
use Rattle.shim_process_table.proofs.TouchingMeets.{same_view, dies_touch}
use Rattle.shim_process_table.proofs.process_table.ProcessTable.kill_at.Goals as goal

pub kill_all-requires-clause-few : goal.kill_all-requires-clause-few
kill_all-requires-clause-few g c κs within =
    let v = c.self.inside in
    let before = subst (λ z. IsKilledBy g.L.Local.ops c.args.label c.args.at z true) (sym c.self.view_is) c.if-not-is_killed_by.ensures in
    few_given g.L.Local.ops c.args.label v.states.items v.records.items c.args.at c.index-process.result.now c.index_mut.result.now before c.index_mut.ensures.value c.index-process.ensures c.self.invariant

pub lower_all_labels-requires-clause-few : goal.lower_all_labels-requires-clause-few
lower_all_labels-requires-clause-few g c κs within =
    let v = c.self.inside in
    let before = subst (λ z. IsKilledBy g.L.Local.ops c.args.label c.args.at z true) (sym c.self.view_is) c.if-not-is_killed_by.ensures in
    few_given g.L.Local.ops c.args.label v.states.items v.records.items c.args.at c.index-process.result.now c.index_mut.result.now before c.index_mut.ensures.value c.index-process.ensures c.self.invariant

pub invariant_of-self : goal.invariant_of-self
invariant_of-self g c =
    let law = (g.met.L.Local g.world.𝓛 g.world.𝓜 g.world.𝓡 ((λ s x. x), (λ x. x), (λ x. x), λ x. x)).laws in
    let v = c.self.inside in
    let before = subst (λ z. IsKilledBy g.L.Local.ops c.args.label c.args.at z true) (sym c.self.view_is) c.if-not-is_killed_by.ensures in
    still_kept g.L.Local.ops c.args.label v.states.items v.records.items c.args.at c.index-process.result.now c.index_mut.result.now before c.index_mut.ensures.value c.index-process.ensures c.kill_all.new.records.items c.lower_all_labels.new.records.items c.count_off.new.records.items
    c.kill_all.ensures c.lower_all_labels.ensures c.count_off.ensures law c.self.invariant

pub returns-clause-dies : goal.returns-clause-dies
returns-clause-dies g c =
    let v = c.self.inside in
    let before = subst (λ z. IsKilledBy g.L.Local.ops c.args.label c.args.at z true) (sym c.self.view_is) c.if-not-is_killed_by.ensures in
    subst (λ z. DiesOne g.L.Local.ops c.args.label c.args.at z (record { states = v.states.items; records = c.count_off.new.records.items })) c.self.view_is
    (dies_one g.L.Local.ops c.args.label v.states.items v.records.items c.args.at c.index-process.result.now c.index_mut.result.now before c.index_mut.ensures.value c.index-process.ensures c.kill_all.new.records.items c.lower_all_labels.new.records.items c.count_off.new.records.items
    c.kill_all.ensures c.lower_all_labels.ensures c.count_off.ensures)

pub returns-clause-touches : goal.returns-clause-touches
returns-clause-touches g c =
    let o = g.L.Local.ops in
    let behind : TableView g.row.L.Denot = record { states = c.self.inside.states.items; records = c.count_off.new.records.items } in
    dies_touch o c.args.label c.args.at c.args.self.now behind (subst (HasTableInvariant o) c.self.view_is c.self.invariant) (returns-clause-dies g c)

pub returns-then-not-is_killed_by-clause-touches : goal.returns-then-not-is_killed_by-clause-touches
returns-then-not-is_killed_by-clause-touches g c = same_view c.args.at c.args.self.now c.args.self.now refl
