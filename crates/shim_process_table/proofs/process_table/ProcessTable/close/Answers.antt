use Rattle.std.proofs.Common.{ℕ, Some, ◌≡◌, ◌≢◌, ◌≤◌, ◌+◌, map, take, length, sym, ap, subst, ◌∙◌, arith}
use Rattle.std.specs.Prelude.{slice_get}
use Rattle.shim_laws_table.specs.Changes.{segment, prevailing_among}
use Rattle.shim_laws_table.specs.Agrees.{free}
use Rattle.shim_records.specs.Pairs.{record_view}
use Rattle.shim_records.specs.declared.record.Record.{Record}
use Rattle.shim_laws_table_events.specs.keeping.Tables.{HasTableInvariant}
use Rattle.shim_process_table.specs.Closing.{CanClose, ClosesAt, ClosesRecord}
use Rattle.shim_process_table.proofs.ClosingMoves as closing
use Rattle.shim_process_table.proofs.TouchingCuts.{cut_at_used}
use Rattle.shim_process_table.proofs.process_table.ProcessTable.close.Goals as goal

pub prevailing_death-death-requires : goal.prevailing_death-death-requires
prevailing_death-death-requires g c =
    let o = g.L.Local.ops in
    let law = (g.met.L.Local g.world.𝓛 g.world.𝓜 g.world.𝓡 ((λ s x. x), (λ x. x), (λ x. x), λ x. x)).laws in
    let states = c.self.inside.states.items in
    let rs = c.self.inside.records.items in
    let number = c.args.number in
    let done = subst (λ v. CanClose v number) (sym c.self.view_is) c.requires in
    let first = c.index.result.now.first in
    let count = c.fork_size-count.result in
    let has = closing.forked_so states rs number done c.index.result.now c.index-2.result.now count c.index.ensures c.index-2.ensures c.fork_size-count.ensures in
    let w = closing.records_within o law states rs number c.self.invariant done first count has in
    let same = ap length c.as_slice.ensures.value in
    omega (arith, w, same)

pub join_and_throw-outcome-requires-clause-apart : goal.join_and_throw-outcome-requires-clause-apart
join_and_throw-outcome-requires-clause-apart g c κs within =
    let o = g.L.Local.ops in
    let law = (g.met.L.Local g.world.𝓛 g.world.𝓜 g.world.𝓡 ((λ s x. x), (λ x. x), (λ x. x), λ x. x)).laws in
    let states = c.self.inside.states.items in
    let rs = c.self.inside.records.items in
    let number = c.args.number in
    let done = subst (λ v. CanClose v number) (sym c.self.view_is) c.requires in
    let first = c.index.result.now.first in
    let count = c.fork_size-count.result in
    let has = closing.forked_so states rs number done c.index.result.now c.index-2.result.now count c.index.ensures c.index-2.ensures c.fork_size-count.ensures in
    closing.is_apart o law states rs number c.self.invariant done first count has

pub join_and_throw-outcome-requires-clause-parent : goal.join_and_throw-outcome-requires-clause-parent
join_and_throw-outcome-requires-clause-parent g c κs within =
    let o = g.L.Local.ops in
    let law = (g.met.L.Local g.world.𝓛 g.world.𝓜 g.world.𝓡 ((λ s x. x), (λ x. x), (λ x. x), λ x. x)).laws in
    let states = c.self.inside.states.items in
    let rs = c.self.inside.records.items in
    let number = c.args.number in
    let done = subst (λ v. CanClose v number) (sym c.self.view_is) c.requires in
    let first = c.index.result.now.first in
    let count = c.fork_size-count.result in
    let has = closing.forked_so states rs number done c.index.result.now c.index-2.result.now count c.index.ensures c.index-2.ensures c.fork_size-count.ensures in
    closing.state_there states rs number done

pub join_and_throw-outcome-requires-clause-inside : goal.join_and_throw-outcome-requires-clause-inside
join_and_throw-outcome-requires-clause-inside g c κs within =
    let o = g.L.Local.ops in
    let law = (g.met.L.Local g.world.𝓛 g.world.𝓜 g.world.𝓡 ((λ s x. x), (λ x. x), (λ x. x), λ x. x)).laws in
    let states = c.self.inside.states.items in
    let rs = c.self.inside.records.items in
    let number = c.args.number in
    let done = subst (λ v. CanClose v number) (sym c.self.view_is) c.requires in
    let first = c.index.result.now.first in
    let count = c.fork_size-count.result in
    let has = closing.forked_so states rs number done c.index.result.now c.index-2.result.now count c.index.ensures c.index-2.ensures c.fork_size-count.ensures in
    closing.states_within o law states rs number c.self.invariant done first count has

pub join_and_throw-outcome-requires-clause-born : goal.join_and_throw-outcome-requires-clause-born
join_and_throw-outcome-requires-clause-born g c κs within =
    let o = g.L.Local.ops in
    let law = (g.met.L.Local g.world.𝓛 g.world.𝓜 g.world.𝓡 ((λ s x. x), (λ x. x), (λ x. x), λ x. x)).laws in
    let states = c.self.inside.states.items in
    let rs = c.self.inside.records.items in
    let number = c.args.number in
    let done = subst (λ v. CanClose v number) (sym c.self.view_is) c.requires in
    let first = c.index.result.now.first in
    let count = c.fork_size-count.result in
    let has = closing.forked_so states rs number done c.index.result.now c.index-2.result.now count c.index.ensures c.index-2.ensures c.fork_size-count.ensures in
    closing.are_born o law states rs number c.self.invariant done first count has

pub join_and_throw-outcome-requires-clause-below : goal.join_and_throw-outcome-requires-clause-below
join_and_throw-outcome-requires-clause-below g c κs within =
    let o = g.L.Local.ops in
    let law = (g.met.L.Local g.world.𝓛 g.world.𝓜 g.world.𝓡 ((λ s x. x), (λ x. x), (λ x. x), λ x. x)).laws in
    let states = c.self.inside.states.items in
    let rs = c.self.inside.records.items in
    let number = c.args.number in
    let done = subst (λ v. CanClose v number) (sym c.self.view_is) c.requires in
    let first = c.index.result.now.first in
    let count = c.fork_size-count.result in
    let has = closing.forked_so states rs number done c.index.result.now c.index-2.result.now count c.index.ensures c.index-2.ensures c.fork_size-count.ensures in
    let label = c.prevailing_death-death.result in
    let read = c.prevailing_death-death.ensures ∙ ap (λ z. prevailing_among (segment first count (map record_view z))) c.as_slice.ensures.value in
    closing.is_below o law states rs number c.self.invariant done first count has label read

pub free_children-requires : goal.free_children-requires
free_children-requires g c =
    let o = g.L.Local.ops in
    let law = (g.met.L.Local g.world.𝓛 g.world.𝓜 g.world.𝓡 ((λ s x. x), (λ x. x), (λ x. x), λ x. x)).laws in
    let states = c.self.inside.states.items in
    let rs = c.self.inside.records.items in
    let number = c.args.number in
    let done = subst (λ v. CanClose v number) (sym c.self.view_is) c.requires in
    let first = c.index.result.now.first in
    let count = c.fork_size-count.result in
    let has = closing.forked_so states rs number done c.index.result.now c.index-2.result.now count c.index.ensures c.index-2.ensures c.fork_size-count.ensures in
    let w = closing.records_within o law states rs number c.self.invariant done first count has in
    let same = c.self.inside.records.ok.0 in
    omega (arith, w, same)

pub close_record-forks-requires-clause-few : goal.close_record-forks-requires-clause-few
close_record-forks-requires-clause-few g c κs within s e =
    let o = g.L.Local.ops in
    let law = (g.met.L.Local g.world.𝓛 g.world.𝓜 g.world.𝓡 ((λ s x. x), (λ x. x), (λ x. x), λ x. x)).laws in
    let states = c.self.inside.states.items in
    let rs = c.self.inside.records.items in
    let number = c.args.number in
    let done = subst (λ v. CanClose v number) (sym c.self.view_is) c.requires in
    let first = c.index.result.now.first in
    let count = c.fork_size-count.result in
    let has = closing.forked_so states rs number done c.index.result.now c.index-2.result.now count c.index.ensures c.index-2.ensures c.fork_size-count.ensures in
    let label = c.prevailing_death-death.result in
    let read = c.prevailing_death-death.ensures ∙ ap (λ z. prevailing_among (segment first count (map record_view z))) c.as_slice.ensures.value in
    let outcome = c.join_and_throw-outcome.result in
    let now = c.join_and_throw-outcome.new.states.items in
    let taken = c.join_and_throw-outcome.ensures in
    closing.few o law states rs number c.self.invariant done first count has label outcome now read taken s (ap (λ z. slice_get z number) (sym c.as_slice-2.ensures.value) ∙ e)

pub close_record-forks-requires-clause-of_state : goal.close_record-forks-requires-clause-of_state
close_record-forks-requires-clause-of_state g c κs within =
    let o = g.L.Local.ops in
    let law = (g.met.L.Local g.world.𝓛 g.world.𝓜 g.world.𝓡 ((λ s x. x), (λ x. x), (λ x. x), λ x. x)).laws in
    let states = c.self.inside.states.items in
    let rs = c.self.inside.records.items in
    let number = c.args.number in
    let done = subst (λ v. CanClose v number) (sym c.self.view_is) c.requires in
    let first = c.index.result.now.first in
    let count = c.fork_size-count.result in
    let has = closing.forked_so states rs number done c.index.result.now c.index-2.result.now count c.index.ensures c.index-2.ensures c.fork_size-count.ensures in
    let label = c.prevailing_death-death.result in
    let read = c.prevailing_death-death.ensures ∙ ap (λ z. prevailing_among (segment first count (map record_view z))) c.as_slice.ensures.value in
    let outcome = c.join_and_throw-outcome.result in
    let now = c.join_and_throw-outcome.new.states.items in
    let taken = c.join_and_throw-outcome.ensures in
    let w = closing.still_there o law states rs number c.self.invariant done first count has label outcome now read taken in
    let same = ap length c.as_slice-2.ensures.value in
    omega (arith, w, same)

pub close_record-forks-requires-clause-of_record : goal.close_record-forks-requires-clause-of_record
close_record-forks-requires-clause-of_record g c κs within =
    let o = g.L.Local.ops in
    let law = (g.met.L.Local g.world.𝓛 g.world.𝓜 g.world.𝓡 ((λ s x. x), (λ x. x), (λ x. x), λ x. x)).laws in
    let states = c.self.inside.states.items in
    let rs = c.self.inside.records.items in
    let number = c.args.number in
    let done = subst (λ v. CanClose v number) (sym c.self.view_is) c.requires in
    let first = c.index.result.now.first in
    let count = c.fork_size-count.result in
    let has = closing.forked_so states rs number done c.index.result.now c.index-2.result.now count c.index.ensures c.index-2.ensures c.fork_size-count.ensures in
    let w = closing.record_there states rs number done in
    let same = closing.freed_long first count rs c.free_children.new.records.items c.free_children.ensures in
    omega (arith, w, same)

pub invariant_of-self : goal.invariant_of-self
invariant_of-self g c =
    let o = g.L.Local.ops in
    let law = (g.met.L.Local g.world.𝓛 g.world.𝓜 g.world.𝓡 ((λ s x. x), (λ x. x), (λ x. x), λ x. x)).laws in
    let states = c.self.inside.states.items in
    let rs = c.self.inside.records.items in
    let number = c.args.number in
    let done = subst (λ v. CanClose v number) (sym c.self.view_is) c.requires in
    let first = c.index.result.now.first in
    let count = c.fork_size-count.result in
    let has = closing.forked_so states rs number done c.index.result.now c.index-2.result.now count c.index.ensures c.index-2.ensures c.fork_size-count.ensures in
    let label = c.prevailing_death-death.result in
    let read = c.prevailing_death-death.ensures ∙ ap (λ z. prevailing_among (segment first count (map record_view z))) c.as_slice.ensures.value in
    let outcome = c.join_and_throw-outcome.result in
    let now = c.join_and_throw-outcome.new.states.items in
    let taken = c.join_and_throw-outcome.ensures in
    let behind = c.close_record-forks.new.records.items in
    let status = c.status_after-status.result in
    let end = c.used_end-end.result in
    let settled = subst (λ z. ClosesRecord o z number status label c.free_children.new.records.items behind) c.as_slice-2.ensures.value c.close_record-forks.ensures.closes in
    subst (λ z. HasTableInvariant o (record { states = z; records = c.truncate.new.self.items })) (sym c.truncate-2.ensures.items)
    (subst (λ z. HasTableInvariant o (record { states = take end now; records = z })) (sym c.truncate.ensures.items) (closing.still_kept o law states rs number c.self.invariant done first count has label outcome now read taken c.free_children.new.records.items behind status end c.free_children.ensures c.status_after-status.ensures.status settled (λ i r past e. c.used_end-end.ensures.free i r past (ap (λ z. slice_get z i) c.as_slice-3.ensures.value ∙ e))))

pub returns-clause-closes : goal.returns-clause-closes
returns-clause-closes g c =
    let o = g.L.Local.ops in
    let law = (g.met.L.Local g.world.𝓛 g.world.𝓜 g.world.𝓡 ((λ s x. x), (λ x. x), (λ x. x), λ x. x)).laws in
    let states = c.self.inside.states.items in
    let rs = c.self.inside.records.items in
    let number = c.args.number in
    let done = subst (λ v. CanClose v number) (sym c.self.view_is) c.requires in
    let first = c.index.result.now.first in
    let count = c.fork_size-count.result in
    let has = closing.forked_so states rs number done c.index.result.now c.index-2.result.now count c.index.ensures c.index-2.ensures c.fork_size-count.ensures in
    let label = c.prevailing_death-death.result in
    let read = c.prevailing_death-death.ensures ∙ ap (λ z. prevailing_among (segment first count (map record_view z))) c.as_slice.ensures.value in
    let outcome = c.join_and_throw-outcome.result in
    let now = c.join_and_throw-outcome.new.states.items in
    let taken = c.join_and_throw-outcome.ensures in
    let behind = c.close_record-forks.new.records.items in
    let forks = c.close_record-forks.result in
    let status = c.status_after-status.result in
    let end = c.used_end-end.result in
    let settled = subst (λ z. ClosesRecord o z number status label c.free_children.new.records.items behind) c.as_slice-2.ensures.value c.close_record-forks.ensures.closes in
    subst (λ v. ClosesAt o forks number outcome v (record { states = c.truncate-2.new.self.items; records = c.truncate.new.self.items })) c.self.view_is
    (subst (λ z. ClosesAt o forks number outcome (record { states = states; records = rs }) (record { states = z; records = c.truncate.new.self.items })) (sym c.truncate-2.ensures.items)
    (subst (λ z. ClosesAt o forks number outcome (record { states = states; records = rs }) (record { states = take end now; records = z })) (sym c.truncate.ensures.items) (closing.closes_here o law states rs number c.self.invariant done first count has label outcome now read taken c.free_children.new.records.items behind status end c.free_children.ensures c.status_after-status.ensures.status settled (λ i r past e. c.used_end-end.ensures.free i r past (ap (λ z. slice_get z i) c.as_slice-3.ensures.value ∙ e)) forks c.close_record-forks.ensures.touches)))

pub returns-clause-end_in_use : goal.returns-clause-end_in_use
returns-clause-end_in_use g c =
    let behind = c.close_record-forks.new.records.items in
    let end = c.used_end-end.result in
    let read = c.as_slice-3.ensures.value in
    let within : end ≤ length behind = subst (λ z. end ≤ length z) read c.used_end-end.ensures.inside in
    subst (λ z. (i : ℕ) (r : Record) → length z ≡ i + 1 → slice_get z i ≡ Some r → record_view r ≢ free) (sym c.truncate.ensures.items)
    (cut_at_used behind end within (λ i r last e. c.used_end-end.ensures.used i r last (ap (λ z. slice_get z i) read ∙ e)))
