use Rattle.std.proofs.Common.{◌≡◌, ◌++◌, drop, map, true}
use Rattle.shim_syntax.specs.Printing.{pieces_text, all_pieces, part_pieces, fork_pieces, stmt_shown, branch_pieces}
use Rattle.shim_syntax.proofs.printing.statements.+statements.Given as goal

abbrev pub invariant-push_all-loop-stmt : goal.invariant-push_all-loop-stmt
invariant-push_all-loop-stmt l = l.text ++ pieces_text (all_pieces (map stmt_shown (drop l.stmt-index l.body))) ≡ l.initial.text ++ pieces_text (all_pieces (map stmt_shown l.body))

abbrev pub invariant-push_part-loop-stmt : goal.invariant-push_part-loop-stmt
invariant-push_part-loop-stmt l = l.text ++ pieces_text (part_pieces (map stmt_shown (drop l.stmt-index l.part))) ≡ l.initial.text ++ pieces_text (part_pieces (map stmt_shown l.part))

abbrev pub invariant-push_fork-loop-branch : goal.invariant-push_fork-loop-branch
invariant-push_fork-loop-branch l =
    l.text ++ pieces_text (fork_pieces l.first (map branch_pieces (drop l.branch-index l.branches))) ≡ l.initial.text ++ pieces_text (fork_pieces true (map branch_pieces l.branches))
