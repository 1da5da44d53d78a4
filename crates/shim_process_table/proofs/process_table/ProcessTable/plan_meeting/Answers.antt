use Rattle.shim_laws_table_events.proofs.meetings.Plans.{plans_find}
use Rattle.shim_process_table.proofs.Visiting.{whatever_comes}
use Rattle.shim_process_table.proofs.process_table.ProcessTable.plan_meeting.Goals as goal

pub returns-clause-lists : goal.returns-clause-lists
returns-clause-lists g c =
    let o = g.L.Local.ops in
    let law = (g.met.L.Local g.world.𝓛 g.world.𝓜 g.world.𝓡 ((λ s x. x), (λ x. x), (λ x. x), λ x. x)).laws in
    whatever_comes c.source_value.result _ (plans_find o law c.args.self.now c.args.c.now.channel c.args.number c.receivers.new.sharers c.requires.home c.requires.enabled c.in_ok-receivers.ensures)
