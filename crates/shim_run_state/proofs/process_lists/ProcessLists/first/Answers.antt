use Rattle.std.proofs.Common.{◌≡◌, ◌≤◌, true, false, [], ◌∷◌, length, slice_set, sym, ap, subst, ◌∙◌, rules, arith}
use Rattle.shim_records.proofs.Waits.{first_flag}
use Rattle.shim_run_state.proofs.process_lists.ProcessLists.first.Goals as goal

pub invariant_of-result : goal.invariant_of-result
invariant_of-result c =
    let own : c.push.new.self.items ≡ 0 ∷ [] = search rules in
    let no_events : c.new-event_queue.result ≡ [] = search rules in
    let event_queue : c.add.new.self ≡ true ∷ [] = c.add.ensures ∙ ap (λ z. slice_set z 0 true) (first_flag c.new-event_queue.result c.grow_to.new.self no_events c.grow_to.ensures.raised c.in_ok-grow_to.ensures.ok (c.grow_to.ensures.most (subst (λ z. length z ≤ 1) (sym no_events) (omega arith)))) in
    let no_quiet : c.new-ready_queue.result ≡ [] = search rules in
    let ready_queue : c.add-2.new.self ≡ true ∷ [] = c.add-2.ensures ∙ ap (λ z. slice_set z 0 true) (first_flag c.new-ready_queue.result c.grow_to-2.new.self no_quiet c.grow_to-2.ensures.raised c.in_ok-grow_to-2.ensures.ok (c.grow_to-2.ensures.most (subst (λ z. length z ≤ 1) (sym no_quiet) (omega arith)))) in
    let checked_out : c.push-2.new.self.items ≡ false ∷ [] = search rules in
    let a = ap length own in
    let b = ap length event_queue in
    let d = ap length ready_queue in
    let e = ap length checked_out in
    record { event_queue = omega (arith, a, b); ready_queue = omega (arith, a, d); checked_out = omega (arith, a, e) }

pub returns : goal.returns
returns c =
    let own : c.push.new.self.items ≡ 0 ∷ [] = search rules in
    let no_events : c.new-event_queue.result ≡ [] = search rules in
    let event_queue : c.add.new.self ≡ true ∷ [] = c.add.ensures ∙ ap (λ z. slice_set z 0 true) (first_flag c.new-event_queue.result c.grow_to.new.self no_events c.grow_to.ensures.raised c.in_ok-grow_to.ensures.ok (c.grow_to.ensures.most (subst (λ z. length z ≤ 1) (sym no_events) (omega arith)))) in
    let no_quiet : c.new-ready_queue.result ≡ [] = search rules in
    let ready_queue : c.add-2.new.self ≡ true ∷ [] = c.add-2.ensures ∙ ap (λ z. slice_set z 0 true) (first_flag c.new-ready_queue.result c.grow_to-2.new.self no_quiet c.grow_to-2.ensures.raised c.in_ok-grow_to-2.ensures.ok (c.grow_to-2.ensures.most (subst (λ z. length z ≤ 1) (sym no_quiet) (omega arith)))) in
    let checked_out : c.push-2.new.self.items ≡ false ∷ [] = search rules in
    λ j. record { own = own j; event_queue = event_queue j; ready_queue = ready_queue j; checked_out = checked_out j }
