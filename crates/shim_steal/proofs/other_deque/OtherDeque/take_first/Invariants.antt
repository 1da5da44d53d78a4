use Rattle.std.proofs.Common.{◌≡◌}
use Rattle.crossbeam_deque.specs.Handles.{view, stealer_deque}
use Rattle.shim_steal.proofs.other_deque.OtherDeque.take_first.Given as goal

abbrev pub invariant-loop : goal.invariant-loop
invariant-loop g l = (goal.iterator-loop g).can_next l.iterator' × (goal.iterator-loop g).is_finite l.iterator'
    × (stealer_deque l.self.deque ≡ stealer_deque l.initial.self.deque) × (view l.self.pass ≡ view l.initial.self.pass)
