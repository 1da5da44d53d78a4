use Rattle.std.proofs.Common.{sym, subst, w64, FitsSigned, rules}
use Rattle.std.proofs.lemmas.Int.{to_z-of_z}
use Rattle.shim_laws_table_events.specs.meetings.Meetings.{HasValue}
use Rattle.shim_laws_table_events.proofs.meetings.Leading.{sources_lead}
use Rattle.shim_process_table.proofs.process_table.ProcessTable.source_value.Goals as goal

pub loop-walked-init : goal.loop-walked-init
loop-walked-init g c =
    let o = g.L.Local.ops in
    let law = (g.met.L.Local g.world.𝓛 g.world.𝓜 g.world.𝓡 ((λ s x. x), (λ x. x), (λ x. x), λ x. x)).laws in
    (sources_lead o law).begins c.args.self.now c.args.c.now.channel c.args.number c.requires.home c.requires.enabled

pub loop-walked-preserved : goal.loop-walked-preserved
loop-walked-preserved g c =
    let o = g.L.Local.ops in
    let law = (g.met.L.Local g.world.𝓛 g.world.𝓜 g.world.𝓡 ((λ s x. x), (λ x. x), (λ x. x), λ x. x)).laws in
    (sources_lead o law).goes_on c.args.self.now c.args.c.now.channel c.loop-walked.at c.in-Some.child c.loop-walked.invariant c.in-Some.ensures

pub returns-in-None : goal.returns-in-None
returns-in-None g c =
    let o = g.L.Local.ops in
    let law = (g.met.L.Local g.world.𝓛 g.world.𝓜 g.world.𝓡 ((λ s x. x), (λ x. x), (λ x. x), λ x. x)).laws in
    let fits : FitsSigned w64 c.value_at.result = search rules in
    subst (HasValue o c.args.self.now c.args.c.now.channel) (sym (to_z-of_z w64 c.value_at.result fits))
    ((sources_lead o law).value c.args.self.now c.args.c.now.channel c.loop-walked.at c.value_at.result c.loop-walked.invariant c.in-None.ensures c.value_at.ensures)
