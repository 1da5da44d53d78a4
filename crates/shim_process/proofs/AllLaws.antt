-- All laws of the states of a process.
use Rattle.shim_process.proofs.BornChildren as born
use Rattle.shim_process.proofs.CallLaws as calls
use Rattle.shim_process.proofs.ForkLaws as forks
use Rattle.shim_process.proofs.JoinKeeps as joins
use Rattle.shim_process.proofs.PlaceStops as stops
use Rattle.shim_process.proofs.PutGoes as goes
use Rattle.shim_local.specs.Laws.{LocalLaws}
use Rattle.shim_process.specs.Ops.{process_ops}

pub process_laws : LocalLaws process_ops
process_laws = record {
  moved_sound = calls.moved_sound forks.parent_sound joins.join_sound;
  fork_sound = forks.fork_sound;
  moved_path = calls.moved_path forks.parent_path joins.join_path;
  moved_base = calls.moved_base forks.parent_base joins.join_base;
  moved_given = calls.moved_given forks.parent_given joins.join_given;
  root_given = calls.root_given;
  given_shared = calls.given_shared;
  base_least = calls.base_least;
  base_most = calls.base_most;
  fork_handlers = forks.fork_handlers;
  fork_trap_handlers = calls.fork_trap_handlers;
  join_handlers = joins.join_handlers;
  next_shares = stops.next_shares;
  carries_shares = calls.carries_shares;
  put_holds = stops.put_holds;
  throw_below = stops.throw_below;
  put_traps = λ l s at e. stops.put_traps l e;
  put_goes = λ l b s at e trapped. goes.put_goes l b at e trapped;
  fork_traps = calls.fork_traps;
  thrown_same = λ l x v s at e. stops.thrown_same l v e;
  throw_traps = λ l x s at e. stops.throw_traps l e;
  quiet_shares = calls.quiet_shares;
  quiet_adds = calls.quiet_adds;
  call_shares = calls.call_shares;
  unwind_shares = calls.unwind_shares;
  unwind_adds = calls.unwind_adds;
  fork_shares = forks.fork_shares;
  fork_trap_shares = calls.fork_trap_shares;
  join_shares = joins.join_shares;
  fork_some = forks.fork_some;
  fork_children = forks.fork_children;
  children_share = forks.children_share;
  children_given = forks.children_given;
  fork_born = forks.fork_born;
  born_children = born.born_children;
  born_moved = born.born_moved (calls.moved_path forks.parent_path joins.join_path) (calls.moved_base forks.parent_base joins.join_base) (calls.moved_parameters forks.parent_parameters joins.join_parameters);
  fork_hands_on = forks.fork_hands_on;
  fork_hands_output = forks.fork_hands_output;
  children_carry = forks.children_carry;
  children_hold = forks.children_hold;
  fork_carries = forks.fork_carries;
  fork_holds = forks.fork_holds;
  fork_trap_carries = calls.fork_trap_carries;
  fork_trap_holds = calls.fork_trap_holds;
  join_carries = joins.join_carries;
  join_holds = joins.join_holds;
  quiet_carries = calls.quiet_carries;
  call_carries = calls.call_carries;
  unwind_carries = calls.unwind_carries;
  quiet_holds = calls.quiet_holds;
  call_holds = calls.call_holds;
  unwind_holds = calls.unwind_holds;
}
