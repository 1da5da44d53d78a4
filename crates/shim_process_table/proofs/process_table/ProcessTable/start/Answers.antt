use Rattle.std.proofs.Common.{◌≡◌, [], ◌∷◌, sym, subst}
use Rattle.shim_semantics.specs.Nodes.{Live}
use Rattle.shim_laws_table_events.specs.keeping.Tables.{TableInvariant}
use Rattle.shim_laws_table_events.proofs.keeping.Starts.{starts}
use Rattle.shim_process_table.proofs.HereSteps.{one_pushed}
use Rattle.shim_process_table.proofs.process_table.ProcessTable.start.Goals as goal

pub returns-clause-represents : goal.returns-clause-represents
returns-clause-represents g c =
    let o = g.L.Local.ops in
    let law = (g.met.L.Local g.world.𝓛 g.world.𝓜 g.world.𝓡 ((λ s x. x), (λ x. x), (λ x. x), λ x. x)).laws in
    let root = c.args.root in
    let r = c.in_ok-record.record in
    let states : c.push.new.self.items ≡ root ∷ [] = one_pushed c.push.new.self.items c.new-states.result.items root c.in_ok-push.ensures.items c.new-states.ensures.items in
    let records : c.push-2.new.self.items ≡ r ∷ [] = one_pushed c.push-2.new.self.items c.new-records.result.items r c.in_ok-push-2.ensures.items c.new-records.ensures.items in
    subst (λ z. TableInvariant o [] (record { states = z; records = c.push-2.new.self.items }) (Live root)) (sym states)
    (subst (λ z. TableInvariant o [] (record { states = root ∷ []; records = z }) (Live root)) (sym records) (starts o law root r c.in_ok-record.ensures.record c.root_record.ensures.sound c.requires.path c.requires.own))

pub invariant_of-result : goal.invariant_of-result
invariant_of-result g c = ([], Live c.args.root, returns-clause-represents g c)
