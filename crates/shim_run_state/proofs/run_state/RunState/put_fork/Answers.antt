use Rattle.std.proofs.Common.{◌≡◌, ◌≤◌, ◌<◌, ◌+◌, length, refl, sym, ap, subst, ◌∙◌, arith}
use Rattle.shim_semantics.specs.Trees.{Own, steps}
use Rattle.shim_run_log.specs.Logged.{logged}
use Rattle.shim_laws_table.specs.NodeStatus.{lives}
use Rattle.shim_laws_table.proofs.OneChange.{one_state}
use Rattle.shim_laws_table_events.specs.keeping.Tables.{HasProcessState, views}
use Rattle.shim_process_table.specs.Forking.{ForksHere, forked_count}
use Rattle.shim_run_state.specs.Fields.{view_of}
use Rattle.shim_run_state.specs.RunStates.{tree_in}
use Rattle.shim_run_state.specs.CheckingOut.{HappensIn}
use Rattle.shim_run_state.specs.Room.{HasRoomFor, HasNewChildren, block_of}
use Rattle.shim_run_state.proofs.Forks.{OneOwnStep, new_fits, new_few, may_be_counted, still_used, has_room, fork_goes}
use Rattle.shim_run_state.proofs.run_state.RunState.put_fork.Goals as goal

pub add_children-requires-clause-within : goal.add_children-requires-clause-within
add_children-requires-clause-within g c =
    let o = g.L.Local.ops in
    let law = (g.met.L.Local g.world.𝓛 g.world.𝓜 g.world.𝓡 ((λ s x. x), (λ x. x), (λ x. x), λ x. x)).laws in
    let w = c.self.inside in
    let n = c.args.number in
    let now = c.put_fork.new.self in
    let r = c.in_ok-outcome.outcome in
    let m = c.in_ok-outcome.forks in
    let v = view_of w.begun.value w.table w.output.items w.histories (logged w.logs.items) w.process_lists w.past.items w.events in
    let kept = c.self.invariant.0 in
    let h : ForksHere o m n w.table now r = subst (λ z. ForksHere o m z w.table now r) c.requires.its c.in_ok-outcome.ensures.ok in
    let end = length w.table.records + forked_count c.args.fork.came in
    let most : length now.records ≤ end = c.put_fork.ensures.few in
    let room = subst (λ z. HasRoomFor (length z.table.records + forked_count c.args.fork.came) z.process_lists) (sym c.self.view_is) c.requires.room in
    let block = c.children_of-first.ensures in
    subst (λ z. z.0 + z.1 ≤ length w.process_lists.own) (sym block) (let x = new_fits o law v kept now m n r end h most in omega (arith, x, room))

pub add_children-requires-clause-few : goal.add_children-requires-clause-few
add_children-requires-clause-few g c =
    let o = g.L.Local.ops in
    let law = (g.met.L.Local g.world.𝓛 g.world.𝓜 g.world.𝓡 ((λ s x. x), (λ x. x), (λ x. x), λ x. x)).laws in
    let w = c.self.inside in
    let n = c.args.number in
    let now = c.put_fork.new.self in
    let r = c.in_ok-outcome.outcome in
    let m = c.in_ok-outcome.forks in
    let v = view_of w.begun.value w.table w.output.items w.histories (logged w.logs.items) w.process_lists w.past.items w.events in
    let kept = c.self.invariant.0 in
    let h : ForksHere o m n w.table now r = subst (λ z. ForksHere o m z w.table now r) c.requires.its c.in_ok-outcome.ensures.ok in
    let block = c.children_of-first.ensures in
    subst (λ z. z.0 + z.1 ≤ 4294967295) (sym block) (new_few o law v kept now m n r h)

pub queue-requires-after_bounds : goal.queue-requires-after_bounds
queue-requires-after_bounds g c κs within =
    let o = g.L.Local.ops in
    let law = (g.met.L.Local g.world.𝓛 g.world.𝓜 g.world.𝓡 ((λ s x. x), (λ x. x), (λ x. x), λ x. x)).laws in
    let w = c.self.inside in
    let n = c.args.number in
    let now = c.put_fork.new.self in
    let r = c.in_ok-outcome.outcome in
    let m = c.in_ok-outcome.forks in
    let v = view_of w.begun.value w.table w.output.items w.histories (logged w.logs.items) w.process_lists w.past.items w.events in
    let kept = c.self.invariant.0 in
    let h : ForksHere o m n w.table now r = subst (λ z. ForksHere o m z w.table now r) c.requires.its c.in_ok-outcome.ensures.ok in
    still_used o law v kept now m n r h

pub acted-requires-clause-used : goal.acted-requires-clause-used
acted-requires-clause-used g c κs within =
    let o = g.L.Local.ops in
    let law = (g.met.L.Local g.world.𝓛 g.world.𝓜 g.world.𝓡 ((λ s x. x), (λ x. x), (λ x. x), λ x. x)).laws in
    let w = c.self.inside in
    let n = c.args.number in
    let now = c.put_fork.new.self in
    let r = c.in_ok-outcome.outcome in
    let m = c.in_ok-outcome.forks in
    let v = view_of w.begun.value w.table w.output.items w.histories (logged w.logs.items) w.process_lists w.past.items w.events in
    let kept = c.self.invariant.0 in
    let h : ForksHere o m n w.table now r = subst (λ z. ForksHere o m z w.table now r) c.requires.its c.in_ok-outcome.ensures.ok in
    still_used o law v kept now m n r h

pub acted-requires-clause-serves : goal.acted-requires-clause-serves
acted-requires-clause-serves g c κs within =
    let o = g.L.Local.ops in
    let law = (g.met.L.Local g.world.𝓛 g.world.𝓜 g.world.𝓡 ((λ s x. x), (λ x. x), (λ x. x), λ x. x)).laws in
    let w = c.self.inside in
    let n = c.args.number in
    let now = c.put_fork.new.self in
    let r = c.in_ok-outcome.outcome in
    let m = c.in_ok-outcome.forks in
    let v = view_of w.begun.value w.table w.output.items w.histories (logged w.logs.items) w.process_lists w.past.items w.events in
    let kept = c.self.invariant.0 in
    let end = length w.table.records + forked_count c.args.fork.came in
    let most : length now.records ≤ end = c.put_fork.ensures.few in
    let room = subst (λ z. HasRoomFor (length z.table.records + forked_count c.args.fork.came) z.process_lists) (sym c.self.view_is) c.requires.room in
    let block = c.children_of-first.ensures in
    let s = c.add_children.new.self in
    let new : HasNewChildren (block_of r).0 (block_of r).1 w.process_lists s = subst (λ z. HasNewChildren z.0 z.1 w.process_lists s) block c.add_children.ensures in
    has_room o law v kept now m n end (block_of r).0 (block_of r).1 s most room new

pub acted-requires-clause-few : goal.acted-requires-clause-few
acted-requires-clause-few g c κs within =
    let o = g.L.Local.ops in
    let law = (g.met.L.Local g.world.𝓛 g.world.𝓜 g.world.𝓡 ((λ s x. x), (λ x. x), (λ x. x), λ x. x)).laws in
    let w = c.self.inside in
    let n = c.args.number in
    let now = c.put_fork.new.self in
    let r = c.in_ok-outcome.outcome in
    let m = c.in_ok-outcome.forks in
    let v = view_of w.begun.value w.table w.output.items w.histories (logged w.logs.items) w.process_lists w.past.items w.events in
    let kept = c.self.invariant.0 in
    let h : ForksHere o m n w.table now r = subst (λ z. ForksHere o m z w.table now r) c.requires.its c.in_ok-outcome.ensures.ok in
    let block = c.children_of-first.ensures in
    let s = c.add_children.new.self in
    let new : HasNewChildren (block_of r).0 (block_of r).1 w.process_lists s = subst (λ z. HasNewChildren z.0 z.1 w.process_lists s) block c.add_children.ensures in
    let few = subst (λ z. steps (tree_in o z) < 4000000) (sym c.self.view_is) c.requires.few in
    may_be_counted o law v kept now m n r s h new few

pub invariant_of-self-2 : goal.invariant_of-self-2
invariant_of-self-2 g c =
    let o = g.L.Local.ops in
    let law = (g.met.L.Local g.world.𝓛 g.world.𝓜 g.world.𝓡 ((λ s x. x), (λ x. x), (λ x. x), λ x. x)).laws in
    let w = c.self.inside in
    let n = c.args.number in
    let now = c.put_fork.new.self in
    let r = c.in_ok-outcome.outcome in
    let m = c.in_ok-outcome.forks in
    let v = view_of w.begun.value w.table w.output.items w.histories (logged w.logs.items) w.process_lists w.past.items w.events in
    let kept = c.self.invariant.0 in
    let h : ForksHere o m n w.table now r = subst (λ z. ForksHere o m z w.table now r) c.requires.its c.in_ok-outcome.ensures.ok in
    let end = length w.table.records + forked_count c.args.fork.came in
    let most : length now.records ≤ end = c.put_fork.ensures.few in
    let room = subst (λ z. HasRoomFor (length z.table.records + forked_count c.args.fork.came) z.process_lists) (sym c.self.view_is) c.requires.room in
    let block = c.children_of-first.ensures in
    let s = c.add_children.new.self in
    let new : HasNewChildren (block_of r).0 (block_of r).1 w.process_lists s = subst (λ z. HasNewChildren z.0 z.1 w.process_lists s) block c.add_children.ensures in
    let few = subst (λ z. steps (tree_in o z) < 4000000) (sym c.self.view_is) c.requires.few in
    let behind = view_of w.begun.value now w.output.items w.histories (logged w.logs.items) c.acted.new.self w.past.items w.events in
    let one : OneOwnStep v behind = record { output = refl; histories = refl; logs = refl; past = refl; events = refl } in
    let did = fork_goes o law v behind kept m n s c.acted.ensures.counted c.acted.ensures.requeues one few end most room r h new in
    (did.goes.keeps, ap (λ z. z + 1) c.self.invariant.1 ∙ sym did.goes.steps_are)

pub returns-clause-ok : goal.returns-clause-ok
returns-clause-ok g c f l has =
    let o = g.L.Local.ops in
    let law = (g.met.L.Local g.world.𝓛 g.world.𝓜 g.world.𝓡 ((λ s x. x), (λ x. x), (λ x. x), λ x. x)).laws in
    let w = c.self.inside in
    let n = c.args.number in
    let now = c.put_fork.new.self in
    let r = c.in_ok-outcome.outcome in
    let m = c.in_ok-outcome.forks in
    let v = view_of w.begun.value w.table w.output.items w.histories (logged w.logs.items) w.process_lists w.past.items w.events in
    let kept = c.self.invariant.0 in
    let h : ForksHere o m n w.table now r = subst (λ z. ForksHere o m z w.table now r) c.requires.its c.in_ok-outcome.ensures.ok in
    let end = length w.table.records + forked_count c.args.fork.came in
    let most : length now.records ≤ end = c.put_fork.ensures.few in
    let room = subst (λ z. HasRoomFor (length z.table.records + forked_count c.args.fork.came) z.process_lists) (sym c.self.view_is) c.requires.room in
    let block = c.children_of-first.ensures in
    let s = c.add_children.new.self in
    let new : HasNewChildren (block_of r).0 (block_of r).1 w.process_lists s = subst (λ z. HasNewChildren z.0 z.1 w.process_lists s) block c.add_children.ensures in
    let few = subst (λ z. steps (tree_in o z) < 4000000) (sym c.self.view_is) c.requires.few in
    let behind = view_of w.begun.value now w.output.items w.histories (logged w.logs.items) c.acted.new.self w.past.items w.events in
    let one : OneOwnStep v behind = record { output = refl; histories = refl; logs = refl; past = refl; events = refl } in
    let did = fork_goes o law v behind kept m n s c.acted.ensures.counted c.acted.ensures.requeues one few end most room r h new in
    let mine : HasProcessState w.table n f l lives = subst (λ z. HasProcessState z n f l lives) (sym (ap (λ z. z.table) c.self.view_is)) has in
    let same : did.was ≡ l = one_state w.table.states (views w.table) n did.first f did.was l lives lives did.lived mine in
    subst (λ z. HappensIn o c.args.self.now behind (Own (o.path z))) same (subst (λ z. HappensIn o z behind (Own (o.path did.was))) c.self.view_is did.goes.happens)
