use Rattle.std.proofs.Common.{sym, subst}
use Rattle.shim_laws_table_events.specs.meetings.Names.{HasName}
use Rattle.shim_laws_table_events.proofs.meetings.Names.{names_found}
use Rattle.shim_process_table.proofs.process_table.ProcessTable.meeting_name.Goals as goal

pub returns : goal.returns
returns g c =
    let o = g.L.Local.ops in
    let law = (g.met.L.Local g.world.𝓛 g.world.𝓜 g.world.𝓡 ((λ s x. x), (λ x. x), (λ x. x), λ x. x)).laws in
    let w = c.first_name.ensures in
    subst (HasName o c.args.self.now c.args.c.now.channel) (sym w.2) (names_found o law c.args.self.now c.args.c.now.channel c.args.number c.args.sharers.now w.0 c.requires.home c.requires.enabled c.requires.sharers w.1)
