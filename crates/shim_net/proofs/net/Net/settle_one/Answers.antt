use Rattle.std.proofs.Common.{rules, ◌≡◌, ◌<◌, ◌+◌, ◌∷◌, [], ◌++◌, refl, ap, sym, subst, ◌∙◌}
use Rattle.std.specs.Prelude.{map, MatchOption}
use Rattle.std.proofs.lemmas.List.{map_push}
use Rattle.shim_semantics.specs.Trees.{steps}
use Rattle.shim_run_log.specs.Events.{event_of}
use Rattle.shim_run_state.specs.RunStates.{tree_in}
use Rattle.shim_run_state.specs.CheckingOut.{RestsIn, HappensIn}
use Rattle.shim_laws_replay.specs.Journals as journals
use Rattle.shim_run_log.specs.declared.entry.Entry.TheVariants as code
use Rattle.shim_net.specs.Entries.{entry_of}
use Rattle.shim_net.specs.Nets.{NetView, reserved_in}
use Rattle.shim_net.proofs.CheckingOut.{same_net, still_out, passed_out}
use Rattle.shim_net.proofs.Keeping.{happened}
use Rattle.shim_net.proofs.Settling.{settled_none, settled_one}
use Rattle.shim_net.proofs.net.Net.settle_one.Goals as goal

pub invariant_of-self-in_err-settle_one : goal.invariant_of-self-in_err-settle_one
invariant_of-self-in_err-settle_one g c =
    let o = g.L.Local.ops in
    let i = c.self.inside in
    let u = c.settle_one.new.self in
    let stays = c.in_err-settle_one.ensures.err in (
      same_net o i.root.value i.budget (tree_in o i.tree) (tree_in o u) (map entry_of i.journal.items) (map entry_of c.reserve.new.self.items) i.grants.items i.grants.items stays.tree (ap (map entry_of) c.in_ok-reserve.ensures.items) refl c.self.invariant.0,
      c.self.invariant.1,
      search rules,
      still_out o i.tree u i.grants.items c.self.invariant.3 stays.checked_out,
    )

pub invariant_of-self-in-None : goal.invariant_of-self-in-None
invariant_of-self-in-None g c =
    let o = g.L.Local.ops in
    let i = c.self.inside in
    let u = c.settle_one.new.self in
    let rests = subst (λ z. MatchOption z (RestsIn o i.tree u) (λ e. HappensIn o i.tree u (event_of e))) c.in-None.is c.in_ok-settle_one.ensures.ok in (
      same_net o i.root.value i.budget (tree_in o i.tree) (tree_in o u) (map entry_of i.journal.items) (map entry_of c.reserve.new.self.items) i.grants.items i.grants.items rests.0.tree (ap (map entry_of) c.in_ok-reserve.ensures.items) refl c.self.invariant.0,
      c.self.invariant.1,
      search rules,
      passed_out o i.tree u i.grants.items i.grants.items rests.0 refl c.self.invariant.3,
    )

pub invariant_of-self-in-Some : goal.invariant_of-self-in-Some
invariant_of-self-in-Some g c =
    let law = (g.met.L.Local g.world.𝓛 g.world.𝓜 g.world.𝓡 ((λ s x. x), (λ x. x), (λ x. x), λ x. x)).laws in
    let o = g.L.Local.ops in
    let i = c.self.inside in
    let u = c.settle_one.new.self in
    let h = subst (λ z. MatchOption z (RestsIn o i.tree u) (λ e. HappensIn o i.tree u (event_of e))) c.in-Some.is c.in_ok-settle_one.ensures.ok in
    let e = event_of c.in-Some.event in
    let items = c.push_reserved.ensures.items ∙ ap (λ z. z ++ code.Did c.in-Some.event ∷ []) c.in_ok-reserve.ensures.items in
    let more : map entry_of c.push_reserved.new.self.items ≡ map entry_of i.journal.items ++ journals.Did e ∷ [] = ap (map entry_of) items ∙ map_push entry_of i.journal.items (code.Did c.in-Some.event) in
    let room = subst (λ (z : NetView g.row.L.Denot). steps z.tree + reserved_in z.grants < z.budget) (sym c.self.view_is) c.requires.room in (
      happened o law _ (tree_in o u) e c.self.invariant.0 h.leads h.other room (map entry_of c.push_reserved.new.self.items) more,
      c.self.invariant.1,
      search rules,
      still_out o i.tree u i.grants.items c.self.invariant.3 h.same,
    )

pub returns-in-None-clause-ok : goal.returns-in-None-clause-ok
returns-in-None-clause-ok g c =
    let o = g.L.Local.ops in
    let i = c.self.inside in
    let u = c.settle_one.new.self in
    let rests = subst (λ z. MatchOption z (RestsIn o i.tree u) (λ e. HappensIn o i.tree u (event_of e))) c.in-None.is c.in_ok-settle_one.ensures.ok in
    settled_none o c.args.self.now i.root.value i.budget (tree_in o i.tree) (tree_in o u) (map entry_of i.journal.items) (map entry_of c.reserve.new.self.items) i.grants.items c.self.view_is rests.0.tree (ap (map entry_of) c.in_ok-reserve.ensures.items) rests.1

pub returns-in-Some-clause-ok : goal.returns-in-Some-clause-ok
returns-in-Some-clause-ok g c =
    let o = g.L.Local.ops in
    let i = c.self.inside in
    let u = c.settle_one.new.self in
    let h = subst (λ z. MatchOption z (RestsIn o i.tree u) (λ e. HappensIn o i.tree u (event_of e))) c.in-Some.is c.in_ok-settle_one.ensures.ok in
    let e = event_of c.in-Some.event in
    let items = c.push_reserved.ensures.items ∙ ap (λ z. z ++ code.Did c.in-Some.event ∷ []) c.in_ok-reserve.ensures.items in
    let more : map entry_of c.push_reserved.new.self.items ≡ map entry_of i.journal.items ++ journals.Did e ∷ [] = ap (map entry_of) items ∙ map_push entry_of i.journal.items (code.Did c.in-Some.event) in
    settled_one o c.args.self.now i.root.value i.budget (tree_in o i.tree) (tree_in o u) (map entry_of i.journal.items) (map entry_of c.push_reserved.new.self.items) i.grants.items c.self.view_is e h.other h.leads more
