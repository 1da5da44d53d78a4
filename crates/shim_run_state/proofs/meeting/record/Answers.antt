use Rattle.std.proofs.Common.{ap, ◌∙◌, rules, w64, FitsSigned}
use Rattle.std.proofs.lemmas.Int.{to_z-of_z}
use Rattle.std.proofs.lemmas.Result.{on_ok_weaker}
use Rattle.shim_semantics.specs.Trees.{recorded}
use Rattle.shim_laws_table_events.proofs.meetings.Meets.{sharers_receive}
use Rattle.shim_process_table.proofs.Visiting.{whatever_comes}
use Rattle.shim_run_state.proofs.meeting.record.Goals as goal

pub returns-then-known-clause-ok : goal.returns-then-known-clause-ok
returns-then-known-clause-ok g c rp root kept =
    let fits : FitsSigned w64 c.args.value = search rules in
    c.in_ok-known.ensures.known c.if-known.true _ ∙ ap (recorded c.args.histories.now c.args.c.now.channel _) (to_z-of_z w64 c.args.value fits)

pub returns-clause-ok : goal.returns-clause-ok
returns-clause-ok g c =
    let fits : FitsSigned w64 c.args.value = search rules in
    on_ok_weaker c.record.result (λ is rp root kept.
    is ∙ (λ j. recorded ((c.in_ok-known.ensures.first c.if-known.false).0 j) c.args.c.now.channel (c.meeting_name-name.ensures rp root kept j) (to_z-of_z w64 c.args.value fits j))) c.record.ensures.ok

pub returns-then-known-clause-receivers : goal.returns-then-known-clause-receivers
returns-then-known-clause-receivers g c lists = lists

pub returns-clause-receivers : goal.returns-clause-receivers
returns-clause-receivers g c =
    let o = g.L.Local.ops in
    let law = (g.met.L.Local g.world.𝓛 g.world.𝓜 g.world.𝓡 ((λ s x. x), (λ x. x), (λ x. x), λ x. x)).laws in
    whatever_comes c.record.result _ (λ lists. sharers_receive o law c.args.table.now c.args.c.now.channel c.args.number c.sharers.new.sharers c.requires.home c.requires.enabled c.in_ok-sharers.ensures.lists)
