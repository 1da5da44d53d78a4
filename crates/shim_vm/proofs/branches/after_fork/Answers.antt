use Rattle.std.proofs.Common.{◌∙◌, sym}
use Rattle.std.specs.Option.{option_copied}
use Rattle.shim_vm.proofs.Behind.{found, not_yet}
use Rattle.shim_vm.proofs.branches.after_fork.Goals as goal

pub returns-then-is_fork_instr : goal.returns-then-is_fork_instr
returns-then-is_fork_instr c = sym (found c.args.code.now c.loop-place.place (option_copied c.instr_at.result) c.is_fork_instr.result c.instr_at.ensures.value c.is_fork_instr.ensures c.if-is_fork_instr.true) ∙ c.loop-place.invariant

pub loop-place-preserved : goal.loop-place-preserved
loop-place-preserved c = sym (not_yet c.args.code.now c.loop-place.place (option_copied c.instr_at.result) c.is_fork_instr.result c.loop-place-test.true c.instr_at.ensures.value c.is_fork_instr.ensures c.if-is_fork_instr.false) ∙ c.loop-place.invariant
