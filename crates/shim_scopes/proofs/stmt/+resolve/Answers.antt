use Rattle.std.proofs.Common.{ℕ, rules, arith, ap, sym, subst, ◌≡◌, ◌+◌, ◌∷◌, length, drop}
use Rattle.std.proofs.lemmas.Grind.{common_steps}
use Rattle.shim_syntax.specs.declared.tree.Stmt.{the_lemmas}
use Rattle.shim_scopes.specs.declared.scope.Scope.{Scope}
use Rattle.shim_syntax.specs.Sizes.{stmts_size, variable_size}
use Rattle.shim_scopes.specs.State.{whole, HasRoom}
use Rattle.shim_scopes.proofs.Nested.{passed_on, kept_both, for_at_first, for_at_step, for_at_body, for_whole, try_refused, try_whole}
use Rattle.shim_scopes.proofs.Loops.{body_goes_on, body_ends, fork_goes_on, fork_ends}
use Rattle.shim_scopes.proofs.Room.{room_for_first, room_for_stmt, room_for_branch, behind_block, behind_body, behind_stmt, behind_branch, behind_try, after_variable, room_outside, room_in_declare, room_in_if, room_in_while, room_in_for, room_for_test, room_in_block, room_in_try, room_in_par, room_in_branch}
use Rattle.shim_scopes.proofs.stmt.+resolve.Goals as goal

-- statements one after another

pub resolve_body-resolve_stmt-requires : goal.resolve_body-resolve_stmt-requires
resolve_body-resolve_stmt-requires t c =
    let d : drop c.loop-stmt.stmt-index c.args.body.now ≡ c.stmt-item.result ∷ drop (c.loop-stmt.stmt-index + 1) c.args.body.now = grind (arith, common_steps) in
    (search (rules, the_lemmas), (c.loop-stmt.invariant.kept.long, (c.requires.few, room_for_stmt c.loop-stmt.stmt-index c.loop-stmt.scope c.args.body.now c.stmt-item.result d c.loop-stmt.invariant.room)))

pub resolve_body-returns-in_err-resolve_stmt-clause-meant : goal.resolve_body-returns-in_err-resolve_stmt-clause-meant
resolve_body-returns-in_err-resolve_stmt-clause-meant t c =
    let d : drop c.loop-stmt.stmt-index c.args.body.now ≡ c.stmt-item.result ∷ drop (c.loop-stmt.stmt-index + 1) c.args.body.now = grind (arith, common_steps) in
    passed_on _ _ _ _ _ _ c.from_residual.ensures
    (λ x q. body_ends (whole c.args.functions.now c.args.names.now) c.args.start c.loop-stmt.stmt-index c.args.scope.now c.loop-stmt.scope c.args.body.now c.stmt-item.result c.loop-stmt.made x d q c.loop-stmt.invariant.meant)
    c.in_err-resolve_stmt.ensures.meant

pub resolve_body-loop-stmt-preserved : goal.resolve_body-loop-stmt-preserved
resolve_body-loop-stmt-preserved t c =
    let d : drop c.loop-stmt.stmt-index c.args.body.now ≡ c.stmt-item.result ∷ drop (c.loop-stmt.stmt-index + 1) c.args.body.now = grind (arith, common_steps) in
    let one = c.in_ok-resolve_stmt.ensures in
    record {
      meant = rw (c.in_ok-push.ensures.ok) (body_goes_on (whole c.args.functions.now c.args.names.now) c.args.start c.loop-stmt.stmt-index c.args.scope.now c.loop-stmt.scope c.resolve_stmt.new.scope c.args.body.now c.stmt-item.result c.loop-stmt.made
          c.in_ok-resolve_stmt.field-0 d one.meant one.kept c.loop-stmt.invariant.meant);
      kept = kept_both c.loop-stmt.invariant.kept one.kept;
      room = behind_stmt (whole c.args.functions.now c.args.names.now) c.args.start c.loop-stmt.stmt-index c.loop-stmt.scope c.resolve_stmt.new.scope c.args.body.now c.stmt-item.result c.in_ok-resolve_stmt.field-0 d one.meant one.kept c.loop-stmt.invariant.room;
    }

pub resolve_branches-resolve_branch-requires : goal.resolve_branches-resolve_branch-requires
resolve_branches-resolve_branch-requires t c =
    let d : drop c.loop-branch.branch-index c.args.branches.now ≡ c.branch-item.result ∷ drop (c.loop-branch.branch-index + 1) c.args.branches.now = grind (arith, common_steps) in
    (search (rules, the_lemmas), (c.loop-branch.invariant.kept.long, (c.requires.few, room_for_branch c.loop-branch.branch-index c.loop-branch.scope c.args.branches.now c.branch-item.result d c.loop-branch.invariant.room)))

pub resolve_branches-returns-in_err-resolve_branch-clause-meant : goal.resolve_branches-returns-in_err-resolve_branch-clause-meant
resolve_branches-returns-in_err-resolve_branch-clause-meant t c =
    let d : drop c.loop-branch.branch-index c.args.branches.now ≡ c.branch-item.result ∷ drop (c.loop-branch.branch-index + 1) c.args.branches.now = grind (arith, common_steps) in
    passed_on _ _ _ _ _ _ c.from_residual.ensures
    (λ x q. fork_ends (whole c.args.functions.now c.args.names.now) c.args.start c.loop-branch.branch-index c.args.scope.now c.loop-branch.scope c.args.branches.now c.branch-item.result c.loop-branch.made x d q c.loop-branch.invariant.meant)
    c.in_err-resolve_branch.ensures.meant

pub resolve_branches-loop-branch-preserved : goal.resolve_branches-loop-branch-preserved
resolve_branches-loop-branch-preserved t c =
    let d : drop c.loop-branch.branch-index c.args.branches.now ≡ c.branch-item.result ∷ drop (c.loop-branch.branch-index + 1) c.args.branches.now = grind (arith, common_steps) in
    let one = c.in_ok-resolve_branch.ensures in
    record {
      meant = rw (c.in_ok-push.ensures.ok) (fork_goes_on (whole c.args.functions.now c.args.names.now) c.args.start c.loop-branch.branch-index c.args.scope.now c.loop-branch.scope c.resolve_branch.new.scope c.args.branches.now c.branch-item.result c.loop-branch.made
          c.in_ok-resolve_branch.field-0 d one.meant one.kept c.loop-branch.invariant.meant);
      kept = kept_both c.loop-branch.invariant.kept one.kept;
      room = behind_branch (whole c.args.functions.now c.args.names.now) c.args.start c.loop-branch.branch-index c.loop-branch.scope c.resolve_branch.new.scope c.args.branches.now c.branch-item.result c.in_ok-resolve_branch.field-0 d one.meant one.kept c.loop-branch.invariant.room;
    }

pub resolve_branch-resolve_block-requires : goal.resolve_branch-resolve_block-requires
resolve_branch-resolve_block-requires t c =
    (search (rules, the_lemmas), (c.requires.begun, (c.requires.few, rw (c.as_slice.ensures) (room_in_branch c.args.branch.now c.args.scope.now c.in-Block.body c.in-Block.is c.requires.room))))

-- the parts of an `if`, a `for` and a `try`

pub resolve_what-resolve_if-requires : goal.resolve_what-resolve_if-requires
resolve_what-resolve_if-requires t c = (search (rules, the_lemmas), (c.requires.begun, (c.requires.few, (c.in-If.is, c.requires.room))))

pub resolve_what-resolve_for-requires : goal.resolve_what-resolve_for-requires
resolve_what-resolve_for-requires t c = (search (rules, the_lemmas), (c.requires.begun, (c.requires.few, (c.in-For.is, c.requires.room))))

pub resolve_what-resolve_try-requires : goal.resolve_what-resolve_try-requires
resolve_what-resolve_try-requires t c = (search (rules, the_lemmas), (c.requires.begun, (c.requires.few, (c.in-Try.is, c.requires.room))))

-- the room of what stands in a statement

pub resolve_what-resolve_declare-requires-clause-room : goal.resolve_what-resolve_declare-requires-clause-room
resolve_what-resolve_declare-requires-clause-room t c = room_in_declare c.args.stmt.now c.args.scope.now _ _ _ c.in-Declare.is c.requires.room

pub resolve_if-resolve_block-requires : goal.resolve_if-resolve_block-requires
resolve_if-resolve_block-requires t c =
    (search (rules, the_lemmas), (c.requires.begun, (c.requires.few, rw (c.as_slice.ensures) (room_for_first _ _ c.args.scope.now (room_in_if c.args.stmt.now c.args.scope.now _ c.args.first.now c.args.other.now c.requires.parts c.requires.room)))))

pub resolve_if-resolve_block-requires-2 : goal.resolve_if-resolve_block-requires-2
resolve_if-resolve_block-requires-2 t c = (
  search (rules, the_lemmas),
  (
    c.in_ok-first.ensures.kept.long,
    (
      c.requires.few,
      rw (c.as_slice-2.ensures)
          (behind_block (whole c.args.functions.now c.args.names.now) c.args.start (stmts_size c.args.other.now) c.args.scope.now c.resolve_block.new.scope c.args.first.now c.in_ok-first.first
          (rw (c.as_slice.ensures) at c.in_ok-first.ensures.meant) c.in_ok-first.ensures.kept (room_in_if c.args.stmt.now c.args.scope.now _ c.args.first.now c.args.other.now c.requires.parts c.requires.room)),
    ),
  ),
)

pub resolve_what-resolve_block-requires : goal.resolve_what-resolve_block-requires
resolve_what-resolve_block-requires t c =
    (search (rules, the_lemmas), (c.requires.begun, (c.requires.few, rw (c.as_slice.ensures) (room_in_while c.args.stmt.now c.args.scope.now _ c.in-While.body c.in-While.is c.requires.room))))

pub resolve_for-check_test-requires : goal.resolve_for-check_test-requires
resolve_for-check_test-requires t c = room_for_test c.args.stmt.now c.args.scope.now _ _ _ _ c.requires.parts c.requires.room

pub resolve_for-resolve_body-requires : goal.resolve_for-resolve_body-requires
resolve_for-resolve_body-requires t c =
    let room : HasRoom (stmts_size c.args.first.now + (stmts_size c.args.step.now + stmts_size c.args.body.now)) c.check_test.new.scope =
    subst (λ v. HasRoom (stmts_size c.args.first.now + (stmts_size c.args.step.now + stmts_size c.args.body.now)) v) (sym c.in_ok-check_test.ensures.kept)
    (room_in_for c.args.stmt.now c.args.scope.now c.args.first.now _ c.args.step.now c.args.body.now c.requires.parts c.requires.room) in
    (search (rules, the_lemmas), (omega (arith, c.len-inner.ensures), (c.requires.few, rw (c.as_slice-2.ensures) (room_for_first (stmts_size c.args.first.now) _ c.check_test.new.scope room))))

pub resolve_for-resolve_body-requires-2 : goal.resolve_for-resolve_body-requires-2
resolve_for-resolve_body-requires-2 t c =
    let room : HasRoom (stmts_size c.args.first.now + (stmts_size c.args.step.now + stmts_size c.args.body.now)) c.check_test.new.scope =
    subst (λ v. HasRoom (stmts_size c.args.first.now + (stmts_size c.args.step.now + stmts_size c.args.body.now)) v) (sym c.in_ok-check_test.ensures.kept)
    (room_in_for c.args.stmt.now c.args.scope.now c.args.first.now _ c.args.step.now c.args.body.now c.requires.parts c.requires.room) in
    let behind_first : HasRoom (stmts_size c.args.step.now + stmts_size c.args.body.now) c.resolve_body.new.scope =
    behind_body (whole c.args.functions.now c.args.names.now) c.len-inner.result (stmts_size c.args.step.now + stmts_size c.args.body.now) c.check_test.new.scope c.resolve_body.new.scope c.args.first.now c.in_ok-first.first
    (rw (c.as_slice-2.ensures) at c.in_ok-first.ensures.meant) c.in_ok-first.ensures.kept room in
    (search (rules, the_lemmas), (c.in_ok-first.ensures.kept.long, (c.requires.few, rw (c.as_slice-4.ensures) (room_for_first (stmts_size c.args.step.now) (stmts_size c.args.body.now) c.resolve_body.new.scope behind_first))))

pub resolve_for-resolve_block-requires : goal.resolve_for-resolve_block-requires
resolve_for-resolve_block-requires t c =
    let room : HasRoom (stmts_size c.args.first.now + (stmts_size c.args.step.now + stmts_size c.args.body.now)) c.check_test.new.scope =
    subst (λ v. HasRoom (stmts_size c.args.first.now + (stmts_size c.args.step.now + stmts_size c.args.body.now)) v) (sym c.in_ok-check_test.ensures.kept)
    (room_in_for c.args.stmt.now c.args.scope.now c.args.first.now _ c.args.step.now c.args.body.now c.requires.parts c.requires.room) in
    let behind_first : HasRoom (stmts_size c.args.step.now + stmts_size c.args.body.now) c.resolve_body.new.scope =
    behind_body (whole c.args.functions.now c.args.names.now) c.len-inner.result (stmts_size c.args.step.now + stmts_size c.args.body.now) c.check_test.new.scope c.resolve_body.new.scope c.args.first.now c.in_ok-first.first
    (rw (c.as_slice-2.ensures) at c.in_ok-first.ensures.meant) c.in_ok-first.ensures.kept room in (
      search (rules, the_lemmas),
      (
        c.in_ok-step.ensures.kept.long,
        (
          c.requires.few,
          rw (c.as_slice-5.ensures)
              (behind_body (whole c.args.functions.now c.args.names.now) c.len-inner.result (stmts_size c.args.body.now) c.resolve_body.new.scope c.resolve_body-2.new.scope c.args.step.now c.in_ok-step.step
              (rw (c.as_slice-4.ensures) at c.in_ok-step.ensures.meant) c.in_ok-step.ensures.kept behind_first),
        ),
      ),
    )

pub resolve_what-resolve_block-requires-in-Block : goal.resolve_what-resolve_block-requires-in-Block
resolve_what-resolve_block-requires-in-Block t c =
    (search (rules, the_lemmas), (c.requires.begun, (c.requires.few, rw (c.as_slice-in-Block.ensures) (room_in_block c.args.stmt.now c.args.scope.now c.in-Block.body c.in-Block.is c.requires.room))))

pub resolve_try-begin_try-requires-clause-room : goal.resolve_try-begin_try-requires-clause-room
resolve_try-begin_try-requires-clause-room t c =
    room_for_first 1 _ c.args.scope.now (room_in_try c.args.stmt.now c.args.scope.now c.args.body.now c.args.name.now c.args.variable.now c.args.handler.now c.requires.parts c.requires.room)

pub resolve_try-resolve_block-requires : goal.resolve_try-resolve_block-requires
resolve_try-resolve_block-requires t c =
    let rest : ℕ = variable_size c.args.variable.now + stmts_size c.args.handler.now in (
      search (rules, the_lemmas),
      (
        omega (arith, c.requires.begun, ap (λ (v : Scope). length v.visible) c.in_ok-caught.ensures.after),
        (
          c.requires.few,
          rw (c.as_slice.ensures) (room_for_first (stmts_size c.args.body.now) rest c.begin_try.new.scope
              (behind_try c.args.names.now _ c.args.scope.now c.begin_try.new.scope _ (stmts_size c.args.body.now + rest) c.in_ok-caught.ensures
              (room_in_try c.args.stmt.now c.args.scope.now _ _ _ _ c.requires.parts c.requires.room))),
        ),
      ),
    )

pub resolve_try-begin_handler-requires-clause-room : goal.resolve_try-begin_handler-requires-clause-room
resolve_try-begin_handler-requires-clause-room t c =
    let rest : ℕ = variable_size c.args.variable.now + stmts_size c.args.handler.now in
    room_for_first (variable_size c.args.variable.now) (stmts_size c.args.handler.now) _ (room_outside c.resolve_block.new.scope _ rest
    (behind_block (whole c.args.functions.now c.args.names.now) c.args.start rest c.begin_try.new.scope c.resolve_block.new.scope c.args.body.now c.in_ok-body.body
    (rw (c.as_slice.ensures) at c.in_ok-body.ensures.meant) c.in_ok-body.ensures.kept
    (behind_try c.args.names.now _ c.args.scope.now c.begin_try.new.scope _ (stmts_size c.args.body.now + rest) c.in_ok-caught.ensures
    (room_in_try c.args.stmt.now c.args.scope.now _ _ _ _ c.requires.parts c.requires.room))))

pub resolve_try-resolve_body-requires : goal.resolve_try-resolve_body-requires
resolve_try-resolve_body-requires t c =
    let rest : ℕ = variable_size c.args.variable.now + stmts_size c.args.handler.now in (
      search (rules, the_lemmas),
      (
        c.in_ok-variable.ensures.kept.long,
        (
          c.requires.few,
          rw (c.as_slice-2.ensures)
              (after_variable c.args.names.now c.args.variable.now c.len-inner.result _ c.begin_handler.new.scope _ (stmts_size c.args.handler.now) c.in_ok-variable.ensures.after c.in_ok-variable.ensures.kept
              (room_outside c.resolve_block.new.scope _ rest
              (behind_block (whole c.args.functions.now c.args.names.now) c.args.start rest c.begin_try.new.scope c.resolve_block.new.scope c.args.body.now c.in_ok-body.body
              (rw (c.as_slice.ensures) at c.in_ok-body.ensures.meant) c.in_ok-body.ensures.kept
              (behind_try c.args.names.now _ c.args.scope.now c.begin_try.new.scope _ (stmts_size c.args.body.now + rest) c.in_ok-caught.ensures
              (room_in_try c.args.stmt.now c.args.scope.now _ _ _ _ c.requires.parts c.requires.room))))),
        ),
      ),
    )

pub resolve_what-resolve_branches-requires : goal.resolve_what-resolve_branches-requires
resolve_what-resolve_branches-requires t c =
    (search (rules, the_lemmas), (c.requires.begun, (c.requires.few, rw (c.as_slice-in-Par.ensures) (room_in_par c.args.stmt.now c.args.scope.now c.in-Par.branches c.in-Par.is c.requires.room))))

-- what a `for` and a `try` mean

pub resolve_for-returns-in_err-first-clause-meant : goal.resolve_for-returns-in_err-first-clause-meant
resolve_for-returns-in_err-first-clause-meant t c =
    passed_on _ _ _ _ _ _ c.from_residual-in_err-first.ensures
    (λ x q. for_at_first (whole c.args.functions.now c.args.names.now) c.args.start c.len-inner.result c.args.stmt.now.line c.args.scope.now c.check_test.new.scope _ _ _ _ _ x
    c.requires.parts c.in_ok-check_test.ensures.kept c.len-inner.ensures (rw (c.as_slice.ensures) at c.in_ok-check_test.ensures.meant) q)
    (rw (c.as_slice-2.ensures) at c.in_err-first.ensures.meant)

pub resolve_for-returns-in_err-step-clause-meant : goal.resolve_for-returns-in_err-step-clause-meant
resolve_for-returns-in_err-step-clause-meant t c =
    passed_on _ _ _ _ _ _ c.from_residual-in_err-step.ensures
    (λ x q. for_at_step (whole c.args.functions.now c.args.names.now) c.args.start c.len-inner.result c.args.stmt.now.line c.args.scope.now c.check_test.new.scope c.resolve_body.new.scope _ _ _ _ _ c.in_ok-first.first x
    c.requires.parts c.in_ok-check_test.ensures.kept c.len-inner.ensures (rw (c.as_slice.ensures) at c.in_ok-check_test.ensures.meant) (rw (c.as_slice-2.ensures) at c.in_ok-first.ensures.meant) c.in_ok-first.ensures.kept q)
    (rw (c.as_slice-4.ensures) at c.in_err-step.ensures.meant)

pub resolve_for-returns-in_err-body-clause-meant : goal.resolve_for-returns-in_err-body-clause-meant
resolve_for-returns-in_err-body-clause-meant t c =
    passed_on _ _ _ _ _ _ c.from_residual-in_err-body.ensures
    (λ x r. for_at_body (whole c.args.functions.now c.args.names.now) c.args.start c.len-inner.result c.args.stmt.now.line c.args.scope.now c.check_test.new.scope c.resolve_body.new.scope c.resolve_body-2.new.scope _ _ _ _ _ c.in_ok-first.first c.in_ok-step.step x
    c.requires.parts c.in_ok-check_test.ensures.kept c.len-inner.ensures (rw (c.as_slice.ensures) at c.in_ok-check_test.ensures.meant) (rw (c.as_slice-2.ensures) at c.in_ok-first.ensures.meant) c.in_ok-first.ensures.kept (rw (c.as_slice-4.ensures) at c.in_ok-step.ensures.meant) c.in_ok-step.ensures.kept r)
    (rw (c.as_slice-5.ensures) at c.in_err-body.ensures.meant)

pub resolve_try-returns-in_err-handler-clause-meant : goal.resolve_try-returns-in_err-handler-clause-meant
resolve_try-returns-in_err-handler-clause-meant t c =
    passed_on _ _ _ _ _ _ c.from_residual-in_err-handler.ensures
    (λ x q. try_refused (whole c.args.functions.now c.args.names.now) c.args.start c.len-outside.result c.len-inner.result c.args.stmt.now.line c.args.scope.now c.begin_try.new.scope c.resolve_block.new.scope _
    c.begin_handler.new.scope _ _ _ _ _ c.in_ok-caught.caught c.in_ok-variable.variable c.in_ok-body.body x
    c.requires.parts c.len-outside.ensures c.in_ok-caught.ensures (rw (c.as_slice.ensures) at c.in_ok-body.ensures.meant) c.in_ok-body.ensures.kept (ap (λ hs. record c.resolve_block.new.scope { handled = hs }) c.cut.ensures)
    c.len-inner.ensures c.in_ok-variable.ensures.after c.in_ok-variable.ensures.kept q)
    (rw (c.as_slice-2.ensures) at c.in_err-handler.ensures.meant)

pub resolve_for-returns-clause-meant : goal.resolve_for-returns-clause-meant
resolve_for-returns-clause-meant t c =
    for_whole (whole c.args.functions.now c.args.names.now) c.args.start c.len-inner.result c.args.stmt.now.line c.args.scope.now c.check_test.new.scope c.resolve_body.new.scope c.resolve_body-2.new.scope c.resolve_block.new.scope _ _ _ _ _
    c.in_ok-first.first c.in_ok-step.step c.in_ok-body.body c.in_ok-test.test c.cut.new.list
    c.requires.parts c.in_ok-check_test.ensures.kept c.len-inner.ensures (rw (c.as_slice.ensures) at c.in_ok-check_test.ensures.meant) (rw (c.as_slice-2.ensures) at c.in_ok-first.ensures.meant) c.in_ok-first.ensures.kept (rw (c.as_slice-3.ensures) at c.in_ok-test.ensures) (rw (c.as_slice-4.ensures) at c.in_ok-step.ensures.meant) c.in_ok-step.ensures.kept
    (rw (c.as_slice-5.ensures) at c.in_ok-body.ensures.meant) c.in_ok-body.ensures.kept c.cut.ensures

pub resolve_try-returns-clause-meant : goal.resolve_try-returns-clause-meant
resolve_try-returns-clause-meant t c =
    try_whole (whole c.args.functions.now c.args.names.now) c.args.start c.len-outside.result c.len-inner.result c.args.stmt.now.line c.args.scope.now c.begin_try.new.scope c.resolve_block.new.scope _
    c.begin_handler.new.scope c.resolve_body.new.scope _ _ _ _ _ c.in_ok-caught.caught c.in_ok-variable.variable c.in_ok-body.body c.in_ok-handler.handler c.cut-2.new.list
    c.requires.parts c.len-outside.ensures c.in_ok-caught.ensures (rw (c.as_slice.ensures) at c.in_ok-body.ensures.meant) c.in_ok-body.ensures.kept (ap (λ hs. record c.resolve_block.new.scope { handled = hs }) c.cut.ensures)
    c.len-inner.ensures c.in_ok-variable.ensures.after c.in_ok-variable.ensures.kept (rw (c.as_slice-2.ensures) at c.in_ok-handler.ensures.meant) c.in_ok-handler.ensures.kept c.cut-2.ensures
