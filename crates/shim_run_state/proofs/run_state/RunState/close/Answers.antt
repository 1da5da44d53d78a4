use Rattle.std.proofs.Common.{◌≡◌, ◌<◌, ◌+◌, ◌++◌, map, refl, sym, ap, subst, ◌∙◌, rules}
use Rattle.shim_semantics.specs.Trees.{Close, steps, with_logs}
use Rattle.shim_run_log.specs.Logged.{logged}
use Rattle.shim_process_table.specs.Closing.{CanClose, ClosesAt, close_effects}
use Rattle.shim_process_table.specs.Lookups.{IsInUse, IsForAll}
use Rattle.shim_run_state.specs.Fields.{view_of, count_in}
use Rattle.shim_run_state.specs.RunStates.{tree_in, path_at, counts_from}
use Rattle.shim_run_state.specs.CheckingOut.{HappensIn}
use Rattle.shim_run_state.specs.PastCounts.{only_block}
use Rattle.shim_run_state.proofs.PastCounts.{mapped}
use Rattle.shim_run_state.proofs.Closes.{OneClose, children_used, closed_room, closes_go}
use Rattle.shim_run_state.proofs.run_state.RunState.close.Goals as goal

pub past_of-requires-clause-used : goal.past_of-requires-clause-used
past_of-requires-clause-used g c κs within b less =
    let o = g.L.Local.ops in
    let w = c.self.inside in
    let n = c.args.number in
    let v = view_of w.begun.value w.table w.output.items w.histories (logged w.logs.items) w.process_lists w.past.items w.events in
    let can : CanClose w.table n = subst (λ z. CanClose z.table n) (sym c.self.view_is) c.requires.can in
    let are = c.children-first.ensures can.first can.many can.process can.forked in
    subst (λ z. IsInUse w.table (z + b)) (sym are.0) (children_used o v c.self.invariant.0 n can.first can.many can.process can.forked b (subst (λ z. b < z) are.1 less))

pub past_of-requires-clause-owns : goal.past_of-requires-clause-owns
past_of-requires-clause-owns g c κs within =
    let w = c.self.inside in
    subst (IsForAll w.table) (sym c.own.ensures) c.self.invariant.0.serves

pub requeue-requires-clause-serves : goal.requeue-requires-clause-serves
requeue-requires-clause-serves g c κs within =
    let o = g.L.Local.ops in
    let w = c.self.inside in
    let n = c.args.number in
    closed_room o c.close-outcome.result.1 n c.close-outcome.result.0 w.table c.close-outcome.new.self c.close-outcome.ensures.closes w.process_lists c.self.invariant.0.serves

pub invariant_of-self-2 : goal.invariant_of-self-2
invariant_of-self-2 g c =
    let o = g.L.Local.ops in
    let w = c.self.inside in
    let n = c.args.number in
    let law = (g.met.L.Local g.world.𝓛 g.world.𝓜 g.world.𝓡 ((λ s x. x), (λ x. x), (λ x. x), λ x. x)).laws in
    let now = c.close-outcome.new.self in
    let r = c.close-outcome.result.0 in
    let m = c.close-outcome.result.1 in
    let h : ClosesAt o m n r w.table now = c.close-outcome.ensures.closes in
    let v = view_of w.begun.value w.table w.output.items w.histories (logged w.logs.items) w.process_lists w.past.items w.events in
    let behind = view_of w.begun.value now w.output.items w.histories (logged c.log_close.new.logs.items) c.requeue.new.self c.append.new.self.items (w.events + 1) in
    let few = subst (λ z. steps (tree_in o z) < 4000000) (sym c.self.view_is) c.requires.few in
    let copied : c.in_ok-path.path ≡ c.path.result.now = search rules in
    let path : c.in_ok-path.path ≡ o.path h.process = copied ∙ c.path.ensures h.process h.forked.state_is in
    let logs : logged c.log_close.new.logs.items ≡ with_logs (logged w.logs.items) (o.path h.process) (close_effects r).logs = c.log_close.ensures ∙ (λ j. with_logs (logged (c.reserve.ensures.items j)) (path j) (close_effects r).logs) in
    let gathered = map count_in c.in_ok-gathered.gathered.items in
    let joined : c.append.new.self.items ≡ w.past.items ++ c.in_ok-gathered.gathered.items = search rules in
    let past : map count_in c.append.new.self.items ≡ map count_in w.past.items ++ gathered = ap (map count_in) joined ∙ mapped count_in w.past.items c.in_ok-gathered.gathered.items in
    let are = c.children-first.ensures h.first h.many h.process h.forked in
    let its : gathered ≡ counts_from (only_block h.first h.many (path_at o w.table)) w.process_lists.own = c.in_ok-gathered.ensures ∙ (λ j. counts_from (only_block (are.0 j) (are.1 j) (path_at o w.table)) (c.own.ensures j)) in
    let one : OneClose o m n r v behind h = record { output = refl; histories = refl; logs = logs; own = c.requeue.ensures.own; gathered = gathered; past = past; are = its; events = refl; again = c.requeue.ensures.requeues } in
    let went = closes_go o law v behind c.self.invariant.0 m n r h one few in
    (went.keeps, ap (λ z. z + 1) c.self.invariant.1 ∙ sym went.steps_are)

pub returns-clause-ok : goal.returns-clause-ok
returns-clause-ok g c =
    let o = g.L.Local.ops in
    let w = c.self.inside in
    let n = c.args.number in
    let law = (g.met.L.Local g.world.𝓛 g.world.𝓜 g.world.𝓡 ((λ s x. x), (λ x. x), (λ x. x), λ x. x)).laws in
    let now = c.close-outcome.new.self in
    let r = c.close-outcome.result.0 in
    let m = c.close-outcome.result.1 in
    let h : ClosesAt o m n r w.table now = c.close-outcome.ensures.closes in
    let v = view_of w.begun.value w.table w.output.items w.histories (logged w.logs.items) w.process_lists w.past.items w.events in
    let behind = view_of w.begun.value now w.output.items w.histories (logged c.log_close.new.logs.items) c.requeue.new.self c.append.new.self.items (w.events + 1) in
    let few = subst (λ z. steps (tree_in o z) < 4000000) (sym c.self.view_is) c.requires.few in
    let copied : c.in_ok-path.path ≡ c.path.result.now = search rules in
    let path : c.in_ok-path.path ≡ o.path h.process = copied ∙ c.path.ensures h.process h.forked.state_is in
    let logs : logged c.log_close.new.logs.items ≡ with_logs (logged w.logs.items) (o.path h.process) (close_effects r).logs = c.log_close.ensures ∙ (λ j. with_logs (logged (c.reserve.ensures.items j)) (path j) (close_effects r).logs) in
    let gathered = map count_in c.in_ok-gathered.gathered.items in
    let joined : c.append.new.self.items ≡ w.past.items ++ c.in_ok-gathered.gathered.items = search rules in
    let past : map count_in c.append.new.self.items ≡ map count_in w.past.items ++ gathered = ap (map count_in) joined ∙ mapped count_in w.past.items c.in_ok-gathered.gathered.items in
    let are = c.children-first.ensures h.first h.many h.process h.forked in
    let its : gathered ≡ counts_from (only_block h.first h.many (path_at o w.table)) w.process_lists.own = c.in_ok-gathered.ensures ∙ (λ j. counts_from (only_block (are.0 j) (are.1 j) (path_at o w.table)) (c.own.ensures j)) in
    let one : OneClose o m n r v behind h = record { output = refl; histories = refl; logs = logs; own = c.requeue.ensures.own; gathered = gathered; past = past; are = its; events = refl; again = c.requeue.ensures.requeues } in
    let went = closes_go o law v behind c.self.invariant.0 m n r h one few in
    let path_found : c.in_ok-copy.field-0 ≡ c.in_ok-path.path = search rules in
    subst (λ z. HappensIn o c.args.self.now behind (Close z)) (sym (path_found ∙ path)) (subst (λ z. HappensIn o z behind (Close (o.path h.process))) c.self.view_is went.happens)
