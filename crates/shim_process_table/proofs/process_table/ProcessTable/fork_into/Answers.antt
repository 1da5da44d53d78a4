use Rattle.std.proofs.Common.{rules, ◌≡◌, ◌≤◌, ◌+◌, length, sym, subst}
use Rattle.shim_laws_table_events.specs.forks.Forking.{ForksAt}
use Rattle.shim_process_table.specs.Forking.{ForkedTo, HasForkedHere}
use Rattle.shim_process_table.specs.Touching.{ChangesOnlyForking}
use Rattle.shim_process_table.proofs.ForkHere.{forked_here, few_more, still_kept}
use Rattle.shim_process_table.proofs.process_table.ProcessTable.fork_into.Goals as goal

pub invariant_of-self-2 : goal.invariant_of-self-2
invariant_of-self-2 g c =
    let o = g.L.Local.ops in
    let law = (g.met.L.Local g.world.𝓛 g.world.𝓜 g.world.𝓡 ((λ s x. x), (λ x. x), (λ x. x), λ x. x)).laws in
    let w = c.self.inside in
    let to : ForkedTo o c.args.number c.args.parent c.args.children.items (record { states = w.states.items; records = w.records.items }) = subst (ForkedTo o c.args.number c.args.parent c.args.children.items) (sym c.self.view_is) c.requires in
    let put : ForksAt o c.args.number c.in_ok-put.put.first c.args.parent c.args.children.items (record { states = w.states.items; records = w.records.items }) (record { states = c.put_fork.new.states.items; records = c.put_fork.new.records.items }) = search rules in
    still_kept o law (record { states = w.states.items; records = w.records.items }) (record { states = c.put_fork.new.states.items; records = c.put_fork.new.records.items }) c.args.number to.0 to.1 c.args.parent to.2 to.3 c.in_ok-put.put.first c.in_ok-count.count c.args.children.items to.4 put c.self.invariant

pub returns-clause-ok : goal.returns-clause-ok
returns-clause-ok g c =
    let o = g.L.Local.ops in
    let law = (g.met.L.Local g.world.𝓛 g.world.𝓜 g.world.𝓡 ((λ s x. x), (λ x. x), (λ x. x), λ x. x)).laws in
    let w = c.self.inside in
    let to : ForkedTo o c.args.number c.args.parent c.args.children.items (record { states = w.states.items; records = w.records.items }) = subst (ForkedTo o c.args.number c.args.parent c.args.children.items) (sym c.self.view_is) c.requires in
    let put : ForksAt o c.args.number c.in_ok-put.put.first c.args.parent c.args.children.items (record { states = w.states.items; records = w.records.items }) (record { states = c.put_fork.new.states.items; records = c.put_fork.new.records.items }) = search rules in
    let many : length c.args.children.items ≡ c.in_ok-count.count = search rules in
    let few : c.in_ok-put.put.first + length c.args.children.items ≤ 4294967295 = search rules in
    let touches : ChangesOnlyForking c.in_ok-put.put.forks c.args.number c.in_ok-put.put.first (length c.args.children.items) (record { states = w.states.items; records = w.records.items }) (record { states = c.put_fork.new.states.items; records = c.put_fork.new.records.items }) = search rules in
    subst (λ v. HasForkedHere o c.in_ok-put.put.forks c.args.number c.in_ok-put.put.first c.in_ok-count.count v (record { states = c.put_fork.new.states.items; records = c.put_fork.new.records.items })) c.self.view_is
    (forked_here o law (record { states = w.states.items; records = w.records.items }) (record { states = c.put_fork.new.states.items; records = c.put_fork.new.records.items }) c.args.number to.0 to.1 c.args.parent to.2 to.3 c.in_ok-put.put.first c.in_ok-count.count c.args.children.items to.4 put c.self.invariant many few c.in_ok-put.put.forks touches)

pub returns-clause-few : goal.returns-clause-few
returns-clause-few g c =
    let o = g.L.Local.ops in
    let law = (g.met.L.Local g.world.𝓛 g.world.𝓜 g.world.𝓡 ((λ s x. x), (λ x. x), (λ x. x), λ x. x)).laws in
    let w = c.self.inside in
    let to : ForkedTo o c.args.number c.args.parent c.args.children.items (record { states = w.states.items; records = w.records.items }) = subst (ForkedTo o c.args.number c.args.parent c.args.children.items) (sym c.self.view_is) c.requires in
    let put : ForksAt o c.args.number c.in_ok-put.put.first c.args.parent c.args.children.items (record { states = w.states.items; records = w.records.items }) (record { states = c.put_fork.new.states.items; records = c.put_fork.new.records.items }) = search rules in
    subst (λ v. length c.put_fork.new.records.items ≤ length v.records + length c.args.children.items) c.self.view_is
    (few_more o law (record { states = w.states.items; records = w.records.items }) (record { states = c.put_fork.new.states.items; records = c.put_fork.new.records.items }) c.args.number to.0 to.1 c.args.parent to.2 to.3 c.in_ok-put.put.first c.in_ok-count.count c.args.children.items to.4 put c.self.invariant)
