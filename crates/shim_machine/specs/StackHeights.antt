-- How many numbers are on the stack at each place of a unit's code, by the code alone.
use Rattle.std.specs.Prelude.{◌≡◌, ◌≤◌, ℕ, ◌+◌, ◌-◌, List, [], ◌∷◌, take}
use Rattle.shim_code.specs.declared.machine_instr.MachineInstr.{MachineInstr}
use Rattle.shim_code.specs.declared.machine_instr.MachineInstr.TheVariants.{Mark, Num, Var, Un, Bin, Bool, Jump, JumpZ, Declare, Set, Get, Put, Fresh, Call, Try, TryInto, Untry, Throw, End}
use Rattle.shim_machine.specs.Machine.{CodedUnit}

-- How many numbers are on the stack at the next place, if `h` are at this instruction. The place after a forward jump begins the second of two pieces. A number that the first piece leaves isn't on the stack there.
abbrev pub height_after : ℕ → MachineInstr → ℕ
height_after h (Num n) = h + 1
height_after h (Var x) = h + 1
height_after h (Get i) = h + 1
height_after h (Bin op) = h - 1
height_after h (Jump t) = h - 1
height_after h (JumpZ t) = h - 1
height_after h (Declare t x) = h - 1
height_after h (Set x) = h - 1
height_after h (Put o) = h - 1
height_after h (Throw x) = h - 1
height_after h (Fresh s name) = h - 1
height_after h _ = h

-- how many numbers are on the stack after these instructions, if `h` are before them
abbrev pub height_of : ℕ → List MachineInstr → ℕ
height_of h [] = h
height_of h (i ∷ is) = height_of (height_after h i) is

-- how many numbers are on the stack at a place of the unit
abbrev pub height_at : CodedUnit → ℕ → ℕ
height_at u pc = height_of 0 (take pc u.code)

-- At an instruction there are as many as it works on, and where it leads to there are as many as it leaves.
abbrev pub HasHeight : CodedUnit → ℕ → MachineInstr → Type 0
HasHeight u pc (Mark m) = height_at u pc ≡ 0
HasHeight u pc (Un op) = 1 ≤ height_at u pc
HasHeight u pc (Bin op) = 2 ≤ height_at u pc
HasHeight u pc Bool = 1 ≤ height_at u pc
HasHeight u pc (Jump t) = height_at u t ≡ height_at u pc
HasHeight u pc (JumpZ t) = height_at u t + 1 ≡ height_at u pc
HasHeight u pc (Declare t x) = 1 ≤ height_at u pc
HasHeight u pc (Set x) = 1 ≤ height_at u pc
HasHeight u pc (Put o) = 1 ≤ height_at u pc
HasHeight u pc (Fresh s name) = 1 ≤ height_at u pc
HasHeight u pc (Call c) = height_at u pc ≡ 0
HasHeight u pc (Try t x) = (height_at u pc ≡ 0) × (height_at u t ≡ 0)
HasHeight u pc (TryInto t x y) = (height_at u pc ≡ 0) × (height_at u t ≡ 0)
HasHeight u pc (Throw x) = 1 ≤ height_at u pc
HasHeight u pc Untry = height_at u pc ≡ 0
HasHeight u pc (End n) = height_at u pc ≡ 0
HasHeight u pc _ = Unit {0}
