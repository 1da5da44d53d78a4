use Rattle.std.proofs.Common.{rules, arith, ◌≡◌, ◌+◌, ◌∷◌, ◌++◌, ◌∙◌, List, ap, sym, subst, length, drop, refl}
use Rattle.std.proofs.lemmas.Grind.{common_steps}
use Rattle.shim_scopes.specs.declared.tree.RStmt.{RStmt, the_lemmas}
use Rattle.shim_scopes.specs.declared.tree.RBranch.{RBranch}
use Rattle.shim_units.specs.declared.unit.Unit.{Unit as UnitOf}
use Rattle.shim_units.specs.LiftContextView.{lift_context_view}
use Rattle.shim_units.specs.Lifting.{lift_all}
use Rattle.shim_units.specs.PartFold.{part, parts, branch_part, branch_parts, lift_in}
use Rattle.shim_sharing.specs.Room.{HasRoomToLift}
use Rattle.shim_units.specs.Sizes.{extent, fork_extent}
use Rattle.shim_sharing.proofs.Lifts.{branch_tree, branch_units, block_units, tree_goes_on, units_go_on}
use Rattle.shim_sharing.proofs.LiftedKinds.{if_tree, if_units, for_tree, for_units, try_tree, try_units}
use Rattle.shim_sharing.proofs.Room.{room_for_other, room_for_handler, room_for_step, room_for_loop, room_for_fork, room_behind_stmt, room_behind_branch, room_in_branch, exceptions_in_branch}
use Rattle.shim_sharing.proofs.lift.+lift.Goals as goal

pub lift_what-returns-in_ok-other-in-If-clause-tree : goal.lift_what-returns-in_ok-other-in-If-clause-tree
lift_what-returns-in_ok-other-in-If-clause-tree t c =
    if_tree (lift_context_view c.args.context.now) c.args.slot_map.now c.args.next c.args.units.now c.lift_body.new.units c.args.stmt.now c.in-If.test c.in-If.first c.in-If.other _ _ _ c.in-If.is
    (rw (c.as_slice-slots.ensures) at c.in_ok-test-in-If.ensures)
    (rw (c.as_slice.ensures) at c.in_ok-first-in-If.ensures.tree) (rw (c.as_slice.ensures) at c.in_ok-first-in-If.ensures.units)
    (rw (c.as_slice-in-If.ensures) at c.in_ok-other-in-If.ensures.tree)

pub lift_what-returns-in_ok-other-in-If-clause-units : goal.lift_what-returns-in_ok-other-in-If-clause-units
lift_what-returns-in_ok-other-in-If-clause-units t c =
    if_units (lift_context_view c.args.context.now) c.args.slot_map.now c.args.next c.args.units.now c.lift_body.new.units c.lift_body-in-If.new.units c.args.stmt.now c.in-If.test c.in-If.first c.in-If.other c.in-If.is
    (rw (c.as_slice.ensures) at c.in_ok-first-in-If.ensures.units) (rw (c.as_slice-in-If.ensures) at c.in_ok-other-in-If.ensures.units)

pub lift_what-returns-in_ok-body-in-For-clause-tree : goal.lift_what-returns-in_ok-body-in-For-clause-tree
lift_what-returns-in_ok-body-in-For-clause-tree t c =
    for_tree (lift_context_view c.args.context.now) c.args.slot_map.now c.args.next c.args.units.now c.lift_body-in-For.new.units c.lift_body-in-For-2.new.units c.args.stmt.now c.in-For.first c.in-For.test c.in-For.step c.in-For.body _ _ _ _ c.in-For.is
    (rw (c.as_slice-in-For.ensures) at c.in_ok-first-in-For.ensures.tree) (rw (c.as_slice-in-For.ensures) at c.in_ok-first-in-For.ensures.units)
    (rw (c.as_slice-slots.ensures) at c.in_ok-test-in-For.ensures)
    (rw (c.as_slice-in-For-2.ensures) at c.in_ok-step-in-For.ensures.tree) (rw (c.as_slice-in-For-2.ensures) at c.in_ok-step-in-For.ensures.units)
    (rw (c.as_slice-in-For-3.ensures) at c.in_ok-body-in-For.ensures.tree)

pub lift_what-returns-in_ok-body-in-For-clause-units : goal.lift_what-returns-in_ok-body-in-For-clause-units
lift_what-returns-in_ok-body-in-For-clause-units t c =
    for_units (lift_context_view c.args.context.now) c.args.slot_map.now c.args.next c.args.units.now c.lift_body-in-For.new.units c.lift_body-in-For-2.new.units c.lift_body-in-For-3.new.units c.args.stmt.now c.in-For.first c.in-For.test c.in-For.step c.in-For.body c.in-For.is
    (rw (c.as_slice-in-For.ensures) at c.in_ok-first-in-For.ensures.units) (rw (c.as_slice-in-For-2.ensures) at c.in_ok-step-in-For.ensures.units) (rw (c.as_slice-in-For-3.ensures) at c.in_ok-body-in-For.ensures.units)

pub lift_what-returns-in_ok-handler-in-Try-clause-tree : goal.lift_what-returns-in_ok-handler-in-Try-clause-tree
lift_what-returns-in_ok-handler-in-Try-clause-tree t c =
    try_tree (lift_context_view c.args.context.now) c.args.slot_map.now c.args.next c.args.units.now c.lift_body-in-Try.new.units c.args.stmt.now c.in-Try.body c.in-Try.exception c.in-Try.variable c.in-Try.handler _ _ _ _ c.in-Try.is
    (rw (c.as_slice-in-Try.ensures) at c.in_ok-body-in-Try.ensures.tree) (rw (c.as_slice-in-Try.ensures) at c.in_ok-body-in-Try.ensures.units)
    c.index_of-exception.ensures (rw (c.as_slice-slots.ensures) at c.slot_index_of_option-variable.ensures)
    (rw (c.as_slice-in-Try-2.ensures) at c.in_ok-handler-in-Try.ensures.tree)

pub lift_what-returns-in_ok-handler-in-Try-clause-units : goal.lift_what-returns-in_ok-handler-in-Try-clause-units
lift_what-returns-in_ok-handler-in-Try-clause-units t c =
    try_units (lift_context_view c.args.context.now) c.args.slot_map.now c.args.next c.args.units.now c.lift_body-in-Try.new.units c.lift_body-in-Try-2.new.units c.args.stmt.now c.in-Try.body c.in-Try.exception c.in-Try.variable c.in-Try.handler c.in-Try.is
    (rw (c.as_slice-in-Try.ensures) at c.in_ok-body-in-Try.ensures.units) (rw (c.as_slice-in-Try-2.ensures) at c.in_ok-handler-in-Try.ensures.units)

pub lift_branch-returns-in_ok-call-in-Block-clause-tree : goal.lift_branch-returns-in_ok-call-in-Block-clause-tree
lift_branch-returns-in_ok-call-in-Block-clause-tree t c =
    branch_tree (lift_context_view c.args.context.now) c.args.slot_map.now _ c.args.branch.now c.in-Block.body _ c.in-Block.is (rw (c.as_slice.ensures) at c.in_ok-call-in-Block.ensures.tree)

pub lift_branch-returns-in_ok-call-in-Block-clause-units : goal.lift_branch-returns-in_ok-call-in-Block-clause-units
lift_branch-returns-in_ok-call-in-Block-clause-units t c =
    branch_units (lift_context_view c.args.context.now) c.args.slot_map.now _ c.args.branch.now c.in-Block.body _ _ c.in-Block.is (rw (c.as_slice.ensures) at c.in_ok-call-in-Block.ensures.units)

pub lift_block-returns-clause-units : goal.lift_block-returns-clause-units
lift_block-returns-clause-units t c =
    block_units (lift_context_view c.args.context.now) c.args.slot_map.now (parts c.args.body.now) c.in_ok-captured.captured (c.args.next + length c.args.units.now) c.number_after-unit.result (c.number_after-unit.result + 1) c.in_ok-body.body c.in_ok-lifted.lifted
    c.args.units.now c.new-nested.result c.lift_body.new.units c.push.new.self c.append.new.self c.in_ok-captured.ensures
    (c.number_after-unit.ensures ∙ ap (λ k. c.args.next + k) c.len.ensures) refl c.new-nested.ensures c.in_ok-body.ensures.tree c.in_ok-body.ensures.units c.in_ok-lifted.ensures c.in_ok-push.ensures.ok c.in_ok-append.ensures.ok

-- each part has room

pub lift_block-lift_body-requires : goal.lift_block-lift_body-requires
lift_block-lift_body-requires t c = (
  search (rules, the_lemmas),
  room_in_branch (lift_context_view c.args.context.now) c.args.slot_map.now c.args.body.now c.in_ok-captured.captured (c.args.next + length c.args.units.now) _ c.in_ok-captured.ensures
      (let k = c.number_after-unit.ensures in let l = c.len.ensures in omega (arith, k, l, ap (λ (us : List UnitOf). length us) c.new-nested.ensures)) c.requires,
)

pub lift_block-close_branch-requires : goal.lift_block-close_branch-requires
lift_block-close_branch-requires t c =
    exceptions_in_branch (lift_context_view c.args.context.now) c.args.slot_map.now c.args.body.now c.in_ok-captured.captured (c.args.next + length c.args.units.now) c.in_ok-captured.ensures c.requires

pub lift_body-loop-stmt-preserved : goal.lift_body-loop-stmt-preserved
lift_body-loop-stmt-preserved t c =
    let d : drop c.loop-stmt.stmt-index c.args.body.now ≡ c.stmt-item.result ∷ drop (c.loop-stmt.stmt-index + 1) c.args.body.now = grind (arith, common_steps) in
    let one = c.in_ok-lift_stmt.ensures in
    let context = lift_context_view c.args.context.now in
    let w = c.args.slot_map.now in
    let us = c.loop-stmt.units in
    let vs = c.lift_stmt.new.units in
    record {
      tree = tree_goes_on context w c.args.next us vs (part c.stmt-item.result) (parts (drop (c.loop-stmt.stmt-index + 1) c.args.body.now)) c.loop-stmt.made c.push.new.self c.in_ok-lift_stmt.field-0 _ one.tree one.units c.in_ok-push.ensures.ok
          (ap (λ (xs : List RStmt). c.loop-stmt.made ++ (lift_in xs context w (c.args.next + length us)).tree) (sym d) ∙ c.loop-stmt.invariant.tree);
      units = units_go_on context w c.args.next us vs (part c.stmt-item.result) (parts (drop (c.loop-stmt.stmt-index + 1) c.args.body.now)) _ one.units
          (ap (λ (xs : List RStmt). us ++ (lift_in xs context w (c.args.next + length us)).units) (sym d) ∙ c.loop-stmt.invariant.units);
      room = room_behind_stmt context w c.args.next us vs c.stmt-item.result (drop (c.loop-stmt.stmt-index + 1) c.args.body.now) one.units (subst (λ (xs : List RStmt). HasRoomToLift w (c.args.next + length us) (extent xs)) d c.loop-stmt.invariant.room);
    }

pub lift_branches-loop-branch-preserved : goal.lift_branches-loop-branch-preserved
lift_branches-loop-branch-preserved t c =
    let d : drop c.loop-branch.branch-index c.args.branches.now ≡ c.branch-item.result ∷ drop (c.loop-branch.branch-index + 1) c.args.branches.now = grind (arith, common_steps) in
    let one = c.in_ok-lift_branch.ensures in
    let context = lift_context_view c.args.context.now in
    let w = c.args.slot_map.now in
    let us = c.loop-branch.units in
    let vs = c.lift_branch.new.units in
    record {
      tree = tree_goes_on context w c.args.next us vs (branch_part c.branch-item.result) (branch_parts (drop (c.loop-branch.branch-index + 1) c.args.branches.now)) c.loop-branch.made c.push.new.self c.in_ok-lift_branch.field-0 _ one.tree one.units c.in_ok-push.ensures.ok
          (ap (λ (xs : List RBranch). c.loop-branch.made ++ (lift_all (branch_parts xs) context w (c.args.next + length us)).tree) (sym d) ∙ c.loop-branch.invariant.tree);
      units = units_go_on context w c.args.next us vs (branch_part c.branch-item.result) (branch_parts (drop (c.loop-branch.branch-index + 1) c.args.branches.now)) _ one.units
          (ap (λ (xs : List RBranch). us ++ (lift_all (branch_parts xs) context w (c.args.next + length us)).units) (sym d) ∙ c.loop-branch.invariant.units);
      room = room_behind_branch context w c.args.next us vs c.branch-item.result (drop (c.loop-branch.branch-index + 1) c.args.branches.now) one.units (subst (λ (xs : List RBranch). HasRoomToLift w (c.args.next + length us) (fork_extent xs)) d c.loop-branch.invariant.room);
    }

pub lift_what-lift_body-requires-in-If : goal.lift_what-lift_body-requires-in-If
lift_what-lift_body-requires-in-If t c = (
  search (rules, the_lemmas),
  rw (c.as_slice-in-If.ensures) (room_for_other (lift_context_view c.args.context.now) c.args.slot_map.now c.args.next c.args.units.now c.lift_body.new.units c.args.stmt.now c.in-If.test c.in-If.first c.in-If.other c.in-If.is
      (rw (c.as_slice.ensures) at c.in_ok-first-in-If.ensures.units) c.requires),
)

pub lift_what-lift_body-requires-in-For-2 : goal.lift_what-lift_body-requires-in-For-2
lift_what-lift_body-requires-in-For-2 t c = (
  search (rules, the_lemmas),
  rw (c.as_slice-in-For-2.ensures) (room_for_step (lift_context_view c.args.context.now) c.args.slot_map.now c.args.next c.args.units.now c.lift_body-in-For.new.units c.args.stmt.now c.in-For.first c.in-For.test c.in-For.step c.in-For.body c.in-For.is
      (rw (c.as_slice-in-For.ensures) at c.in_ok-first-in-For.ensures.units) c.requires),
)

pub lift_what-lift_body-requires-in-For-3 : goal.lift_what-lift_body-requires-in-For-3
lift_what-lift_body-requires-in-For-3 t c = (
  search (rules, the_lemmas),
  rw (c.as_slice-in-For-3.ensures) (room_for_loop (lift_context_view c.args.context.now) c.args.slot_map.now c.args.next c.args.units.now c.lift_body-in-For.new.units c.lift_body-in-For-2.new.units c.args.stmt.now c.in-For.first c.in-For.test c.in-For.step c.in-For.body c.in-For.is
      (rw (c.as_slice-in-For.ensures) at c.in_ok-first-in-For.ensures.units) (rw (c.as_slice-in-For-2.ensures) at c.in_ok-step-in-For.ensures.units) c.requires),
)

pub lift_what-lift_body-requires-in-Try-2 : goal.lift_what-lift_body-requires-in-Try-2
lift_what-lift_body-requires-in-Try-2 t c = (
  search (rules, the_lemmas),
  rw (c.as_slice-in-Try-2.ensures) (room_for_handler (lift_context_view c.args.context.now) c.args.slot_map.now c.args.next c.args.units.now c.lift_body-in-Try.new.units c.args.stmt.now c.in-Try.body c.in-Try.exception c.in-Try.variable c.in-Try.handler c.in-Try.is
      (rw (c.as_slice-in-Try.ensures) at c.in_ok-body-in-Try.ensures.units) c.requires),
)

pub lift_what-lift_branches-requires : goal.lift_what-lift_branches-requires
lift_what-lift_branches-requires t c = (
  search (rules, the_lemmas),
  rw (c.as_slice-in-Par.ensures) (room_for_fork c.args.slot_map.now _ c.args.stmt.now c.in-Par.branches c.in-Par.is c.requires),
)
