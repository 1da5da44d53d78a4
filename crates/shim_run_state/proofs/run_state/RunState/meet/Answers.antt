use Rattle.std.proofs.Common.{◌≡◌, sym, ap, subst, ◌∙◌, rules}
use Rattle.shim_semantics.specs.Trees.{Meet}
use Rattle.shim_laws_table_events.specs.meetings.Meetings.{IsEnabled, Declares}
use Rattle.shim_process_table.specs.Lookups.{HasPair}
use Rattle.shim_process_table.proofs.DueEvents.{meet_declares, due_meet, due_enabled}
use Rattle.shim_run_state.proofs.run_state.RunState.meet.Goals as goal

pub meet_on-requires-clause-home : goal.meet_on-requires-clause-home
meet_on-requires-clause-home g c κs within =
    let o = g.L.Local.ops in
    let v = c.args.self.now.table in
    let w = c.requires.there in
    let has : HasPair c.self.inside.table c.args.number w.first w.many w.process c.args.pair w.pair_is = subst (λ z. HasPair z c.args.number w.first w.many w.process c.args.pair w.pair_is) (sym (ap (λ z. z.table) c.self.view_is)) w.has in
    let copied : c.in_ok-chan.chan ≡ c.channel.result.now = search rules in
    let is : w.pair_is.chan ≡ c.in_ok-chan.chan = sym (copied ∙ c.channel.ensures w.first w.many w.process w.pair_is has) in
    subst (λ z. Declares o v c.args.number z.channel) is (meet_declares o v c.args.number c.args.pair w)

pub meet_on-requires-clause-enabled : goal.meet_on-requires-clause-enabled
meet_on-requires-clause-enabled g c κs within =
    let o = g.L.Local.ops in
    let v = c.args.self.now.table in
    let w = c.requires.there in
    let has : HasPair c.self.inside.table c.args.number w.first w.many w.process c.args.pair w.pair_is = subst (λ z. HasPair z c.args.number w.first w.many w.process c.args.pair w.pair_is) (sym (ap (λ z. z.table) c.self.view_is)) w.has in
    let copied : c.in_ok-chan.chan ≡ c.channel.result.now = search rules in
    let is : w.pair_is.chan ≡ c.in_ok-chan.chan = sym (copied ∙ c.channel.ensures w.first w.many w.process w.pair_is has) in
    let law = (g.met.L.Local g.world.𝓛 g.world.𝓜 g.world.𝓡 ((λ s x. x), (λ x. x), (λ x. x), λ x. x)).laws in
    subst (λ z. IsEnabled o (Meet z.channel) v) is (due_enabled o v c.args.number law (Meet w.pair_is.chan.channel) (due_meet o v c.args.number c.args.pair w))
