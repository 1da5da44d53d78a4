-- Jumps of a draft whose places are written late.
use Rattle.std.specs.Prelude.{ℕ, ◌+◌, List, [], ◌∷◌, ◌++◌, length, Option, Some, None, slice_set}
use Rattle.shim_code.specs.declared.machine_instr.MachineInstr.{MachineInstr}
use Rattle.shim_code.specs.declared.machine_instr.MachineInstr.TheVariants.{Jump, JumpZ}
use Rattle.shim_code.specs.declared.draft.Caught.{Caught}
use Rattle.shim_code.specs.MachineCode.{try_instr}

-- the instruction that leads to the second of two pieces, at place t: a jump on 0, or the `try` of an exception
abbrev pub head_of : Option Caught → ℕ → MachineInstr
head_of None t = JumpZ t
head_of (Some x) t = try_instr t x.exception x.variable

-- the instructions l, where the one at `head` now leads to the place after `jump`, and the one at `jump` to the end of l
abbrev pub jumps_patched : Option Caught → ℕ → ℕ → List MachineInstr → List MachineInstr
jumps_patched x head jump l = slice_set (slice_set l head (head_of x (jump + 1))) jump (Jump (length l))

-- the instructions l with a jump to `start` after them, where a jump on 0 at `head` now leads to the place after all of them
abbrev pub closed_loop : ℕ → ℕ → List MachineInstr → List MachineInstr
closed_loop start head l = let whole = l ++ Jump start ∷ [] in slice_set whole head (JumpZ (length whole))
