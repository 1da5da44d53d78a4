-- What a lane's deques show of themselves.
use Rattle.std.specs.Prelude.{◌≡◌}
use Rattle.crossbeam_deque.specs.Handles.{worker_deque, worker_view, stealer_deque}
use Rattle.shim_steal.specs.declared.view.View.{View}
use Rattle.shim_steal.specs.declared.own_deque.OwnDeque.{OwnDeque}
use Rattle.shim_steal.specs.declared.other_deque.OtherDeque.{OtherDeque}

module _ {T : Type 0} where
  -- what the own lane did at it
  abbrev pub view_of : OwnDeque T → View T
  view_of d = worker_view d.deque

  -- `old` and `new` are of one deque
  abbrev pub IsSameDeque : OwnDeque T → OwnDeque T → Type 0
  IsSameDeque old new = worker_deque new.deque ≡ worker_deque old.deque

  -- `other` leads to the deque `own`
  abbrev pub IsSameAsOwn : OtherDeque T → OwnDeque T → Type 0
  IsSameAsOwn other own = stealer_deque other.deque ≡ worker_deque own.deque
